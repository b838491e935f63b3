-- What contracts see of `ClassLists`: for each class a list of its full pages and one of its partly full pages; the rule that no page is in two; and how one
-- list changes.
use Rattle.std.specs.Prelude.{◌≡◌, ◌≢◌, ℕ, ◌+◌, ◌*◌, ◌<◌, ◌==◌, ◌⊎◌, List, [], replicate, slice_index_or, slice_set, nat_eq, not, refl}
use Rattle.std.specs.List.{Contains, IsDistinct, filter}
use Rattle.std.specs.Coded.{Coded, code_by, coded×, coded_ℕ, coded_list}
use Rattle.class_lists.specs.declared.Which.{Which}
use Rattle.class_lists.specs.declared.Which.TheVariants.{Full, NotFull}

-- how many pages and classes there are, and the lists of pages, two for each class
pub record PageLists : Type 0 where
  pub pages : ℕ
  pub classes : ℕ
  pub lists : List (List ℕ)

-- the number of the list `which` of class c among all lists
abbrev pub list_number : ℕ → Which → ℕ
list_number c Full = 2 * c
list_number c NotFull = 2 * c + 1

-- the pages of the list `which` of class c, the head first; none if there is no such class
abbrev pub pages_in : PageLists → ℕ → Which → List ℕ
pages_in v c which = slice_index_or v.lists (list_number c which) []

-- the lists of `classes` classes for `pages` pages, all empty
abbrev pub empty_lists : ℕ → ℕ → PageLists
empty_lists classes pages = record { pages = pages; classes = classes; lists = replicate (2 * classes) [] }

-- all lists are empty
abbrev pub AreEmpty : PageLists → Type 0
AreEmpty v = (c : ℕ) (which : Which) → pages_in v c which ≡ []

-- the lists, with `list` in place of the list `which` of class c
abbrev pub with_list : PageLists → ℕ → Which → List ℕ → PageLists
with_list v c which list = record v { lists = slice_set v.lists (list_number c which) list }

-- the page is in no list
abbrev pub IsUnlisted : PageLists → ℕ → Type 0
IsUnlisted v page = (c : ℕ) (which : Which) → ¬ Contains (pages_in v c which) page

-- every list but the list `which` of class c is the same in `old` and `new`
abbrev pub KeepsOthers : PageLists → PageLists → ℕ → Which → Type 0
KeepsOthers old new c which =
    (d : ℕ) (other : Which) → (d ≢ c) ⊎ (other ≢ which) → pages_in new d other ≡ pages_in old d other

-- each page in a list is one of the `pages` pages, and only lists of the `classes` classes have pages; no page is in two lists, or
-- twice in one
pub record AreApart (v : PageLists) : Type 0 where
  pub page : (c : ℕ) (which : Which) (page : ℕ) → Contains (pages_in v c which) page → page < v.pages
  pub class : (c : ℕ) (which : Which) (page : ℕ) → Contains (pages_in v c which) page → c < v.classes
  pub distinct : (c : ℕ) (which : Which) → IsDistinct nat_eq (pages_in v c which)
  pub once : (c d : ℕ) (which other : Which) (page : ℕ) → Contains (pages_in v c which) page → Contains (pages_in v d other) page
      → (c ≡ d) × (which ≡ other)

-- the encoding of `PageLists` as the tuple of its fields; a value that contracts see needs one
abbrev pub lists_code : Coded PageLists
lists_code =
    code_by (ℕ × (ℕ × List (List ℕ))) (coded× coded_ℕ (coded× coded_ℕ (coded_list (coded_list coded_ℕ))))
    (λ v. (v.pages, (v.classes, v.lists))) (λ p. record { pages = p.0; classes = p.1.0; lists = p.1.1 }) (λ _. refl)
