-- The pages and size classes of a heap as numbers (`Paging`): slot sizes, bounds, the class of a request, and the addresses of slots. A class is an index into
-- the list of slot sizes.
use Rattle.std.specs.Prelude.{ℕ, ◌≡◌, ◌+◌, ◌*◌, ◌/◌, ◌≤◌, ◌<◌, List, length, slice_index, replicate, nat_le}
use Rattle.std.specs.List.{position_or_len}
use Rattle.cf_base.specs.Settings.{Profile}
use Rattle.cf_base.specs.Classes.{need, sizes, slots}
use Rattle.cf_base.specs.Rising.{AreSizes}
use Rattle.cf_base.specs.declared.kind.Layout.{Layout}

-- the pages and classes of a heap: how many pages, the words of a page, and by class the words of a slot (`sizes`) and the bound (`bounds`); the bound is how
-- many pages of the class may be partly full
pub record Paging : Type 0 where
  pub pages : ℕ
  pub page_words : ℕ
  pub sizes : List ℕ
  pub bounds : List ℕ

-- the pages of a heap with the settings s, the slot sizes of the layout, and these bounds
abbrev pub paging_of : Profile → Layout → List ℕ → Paging
paging_of s layout bounds = record { pages = s.pages; page_words = s.page_words; sizes = sizes s.page_words layout; bounds = bounds }

-- the bounds of a newly opened heap: each class of the layout has the bound k of the settings s
abbrev pub first_bounds : Profile → Layout → List ℕ
first_bounds s layout = replicate (length (sizes s.page_words layout)) s.k

-- how many classes the pages p have
abbrev pub classes : Paging → ℕ
classes p = length p.sizes

-- how many words a slot of class c has
abbrev pub slot_words : Paging → ℕ → ℕ
slot_words p c = slice_index p.sizes c

-- how many slots a page of class c has
abbrev pub slots_of : Paging → ℕ → ℕ
slots_of p c = slots p.page_words p.sizes c

-- the bound of class c: how many of its pages may be partly full
abbrev pub bound_of : Paging → ℕ → ℕ
bound_of p c = slice_index p.bounds c

-- the class of an object of n bytes: the first whose slots hold it; if there is none, the number of classes, which is no class
unfoldable pub class_for : Paging → ℕ → ℕ
class_for p n = position_or_len (λ s. nat_le (need n) s) p.sizes

-- the number of the page that contains address a
abbrev pub page_of : Paging → ℕ → ℕ
page_of p a = a / p.page_words

-- the address of a slot of class c, by the number of its page and its number on the page
abbrev pub address_of : Paging → ℕ → ℕ → ℕ → ℕ
address_of p c page slot = page * p.page_words + slot * slot_words p c

-- the slot sizes rise and end with the page (`AreSizes`), and each class has a bound of at least 1
pub record IsPaging (p : Paging) : Type 0 where
  pub sized : AreSizes p.page_words p.sizes
  pub bounded : length p.bounds ≡ length p.sizes
  pub some : (c : ℕ) → c < classes p → 1 ≤ bound_of p c

-- in each class at most one page may be partly full: every bound is 1
abbrev pub EveryBoundIsOne : Paging → Type 0
EveryBoundIsOne p = (c : ℕ) → c < classes p → bound_of p c ≡ 1
