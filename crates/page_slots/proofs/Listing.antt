-- For `list_as_full_if_filled`, `list_as_partly_full` and the tables after a call: which pages each list of a class has after one page joined or left it. A
-- page that left its list is in none.
use Rattle.std.proofs.Common.{◌≡◌, ◌≢◌, ℕ, List, ◌∷◌, refl, sym, ◌∙◌, ap, subst, inl, inr}
use Rattle.std.specs.Prelude.{◌⊎◌}
use Rattle.std.specs.List.{Contains}
use Rattle.std.proofs.lemmas.Bool.{cases_eq}
use Rattle.cf_base.specs.Lists.{without_number}
use Rattle.cf_base.proofs.Members.{contains_cases, contains_head, contains_tail, contains_without, without_contains}
use Rattle.class_lists.specs.declared.Which.{Which}
use Rattle.class_lists.specs.declared.Which.TheVariants.{Full, NotFull}
use Rattle.class_lists.specs.PageLists.{PageLists, AreApart, IsUnlisted, pages_in}
use Rattle.page_slots.specs.Tables.{JoinsList, LeavesList}

pub along : (q : ℕ) (xs ys : List ℕ) → xs ≡ ys → Contains xs q → Contains ys q
along q xs ys e h = let P : List ℕ → Type 0 = λ l. Contains l q in subst P e h

pub which_or : (v w : Which) → (v ≡ w) ⊎ (v ≢ w)
which_or Full Full = inl refl
which_or Full NotFull = inr (λ e. cc)
which_or NotFull Full = inr (λ e. cc)
which_or NotFull NotFull = inl refl

-- the list v of class d is the list w of class c, or another one
pub list_or : (c d : ℕ) (w v : Which) → ((d ≡ c) × (v ≡ w)) ⊎ ((d ≢ c) ⊎ (v ≢ w))
list_or c d w v = elim (cases_eq d c) [
  | inl is ↦ elim (which_or v w) [
    | inl is' ↦ inl (is, is')
    | inr ne ↦ inr (inr ne)
  ]
  | inr ne ↦ inr (inl ne)
]

pub same_list : (t : PageLists) (c d : ℕ) (w v : Which) → d ≡ c → v ≡ w → pages_in t d v ≡ pages_in t c w
same_list t c d w v a b = λ i. pages_in t (a i) (b i)

module _ (old : PageLists) (c : ℕ) (w : Which) (page : ℕ) (new : PageLists) where
  module _ (j : JoinsList old c w page new) where
    joined : (d : ℕ) (v : Which) → d ≡ c → v ≡ w → pages_in new d v ≡ page ∷ pages_in old d v
    joined d v a b = same_list new c d w v a b ∙ j.list ∙ ap (λ l. page ∷ l) (sym (same_list old c d w v a b))

    pub joined_here : Contains (pages_in new c w) page
    joined_here = along page _ _ (sym j.list) (contains_head page (pages_in old c w))

    pub joined_comes : (g d : ℕ) (v : Which) → Contains (pages_in old d v) g → Contains (pages_in new d v) g
    joined_comes g d v h = elim (list_or c d w v) [
      | inl (a, b) ↦ along g _ _ (sym (joined d v a b)) (contains_tail g page (pages_in old d v) h)
      | inr ne ↦ along g _ _ (sym (j.others d v ne)) h
    ]

    pub joined_stays : (g d : ℕ) (v : Which) → g ≢ page → Contains (pages_in new d v) g → Contains (pages_in old d v) g
    joined_stays g d v other h = elim (list_or c d w v) [
      | inl (a, b) ↦ elim (contains_cases g page (pages_in old d v) (along g _ _ (joined d v a b) h)) [
        | inl is ↦ absurd (other is)
        | inr there ↦ there
      ]
      | inr ne ↦ along g _ _ (j.others d v ne) h
    ]

    pub joined_pages : new.pages ≡ old.pages
    joined_pages = ap (λ (t : PageLists). t.pages) j.value

    pub joined_classes : new.classes ≡ old.classes
    joined_classes = ap (λ (t : PageLists). t.classes) j.value

  module _ (l : LeavesList old c w page new) where
    left : (d : ℕ) (v : Which) → d ≡ c → v ≡ w → pages_in new d v ≡ without_number page (pages_in old d v)
    left d v a b = same_list new c d w v a b ∙ l.list ∙ ap (without_number page) (sym (same_list old c d w v a b))

    -- a page that left its list is in no list
    pub left_unlisted : AreApart old → Contains (pages_in old c w) page → IsUnlisted new page
    left_unlisted apart there d v h = elim (list_or c d w v) [
      | inl (a, b) ↦ (contains_without page page (pages_in old d v) (along page _ _ (left d v a b) h)).0 refl
      | inr ne ↦ (
          let o = apart.once d c v w page (along page _ _ (l.others d v ne) h) there in
          elim ne [
            | inl n ↦ n o.0
            | inr n ↦ n o.1
          ])
    ]

    pub left_comes : (g d : ℕ) (v : Which) → g ≢ page → Contains (pages_in old d v) g → Contains (pages_in new d v) g
    left_comes g d v other h = elim (list_or c d w v) [
      | inl (a, b) ↦ along g _ _ (sym (left d v a b)) (without_contains page g (pages_in old d v) other h)
      | inr ne ↦ along g _ _ (sym (l.others d v ne)) h
    ]

    pub left_stays : (g d : ℕ) (v : Which) → Contains (pages_in new d v) g → Contains (pages_in old d v) g
    left_stays g d v h = elim (list_or c d w v) [
      | inl (a, b) ↦ (contains_without page g (pages_in old d v) (along g _ _ (left d v a b) h)).1
      | inr ne ↦ along g _ _ (l.others d v ne) h
    ]

    pub left_pages : new.pages ≡ old.pages
    left_pages = ap (λ (t : PageLists). t.pages) l.value

    pub left_classes : new.classes ≡ old.classes
    left_classes = ap (λ (t : PageLists). t.classes) l.value
