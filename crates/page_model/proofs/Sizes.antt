-- Settings in range have slot sizes that rise to the page (`IsPaging`). A request has a class if it fits a page, the least whose slots hold it, else none.
-- Sizes counted in blocks are whole blocks. A page has at most a slot for every four words. With k = 1 each class has the bound 1. For the laws of `classes.rt`
-- among others.
use Rattle.std.proofs.Common.{◌≡◌, ℕ, Bool, true, false, ◌-◌, ◌*◌, ◌/◌, ◌<◌, ◌≤◌, List, Some, None, length, get_or, arith, sym, ◌∙◌, inl, inr, refl}
use Rattle.std.specs.Prelude.{IsTrue, nat_le, nat_lt}
use Rattle.std.specs.List.{position_or_len}
use Rattle.std.proofs.lemmas.Bool.{cases_lt, false≢true}
use Rattle.std.proofs.lemmas.Bool.Decides.{nat_tests}
use Rattle.std.proofs.lemmas.List.{length-replicate, get_or-replicate}
use Rattle.std.proofs.lemmas.List.Sums.{passes_at_first, fails_before_first}
use Rattle.cf_base.specs.Limits.{is_page_size}
use Rattle.cf_base.specs.Settings.{Profile}
use Rattle.cf_base.specs.Classes.{need, sizes, class_of}
use Rattle.cf_base.specs.declared.kind.Layout.{Layout}
use Rattle.cf_base.specs.declared.kind.Layout.TheVariants.{Blocks}
use Rattle.std.proofs.lemmas.Nat.{div-add-mod'}
use Rattle.std.proofs.Math.Nat.{mul-le-mul_left}
use Rattle.cf_base.proofs.Rising.{are_sizes, page_size, size_within, whole_blocks}
use Rattle.page_model.specs.Frames.{AreBlocks}
use Rattle.page_model.specs.Paging.{Paging, IsPaging, EveryBoundIsOne, classes, slot_words, slots_of, class_for, paging_of, first_bounds}

-- a list of bounds, one of at least 1 for each class, makes a valid paging
pub paged : (s : Profile) (layout : Layout) (bounds : List ℕ) → IsTrue (is_page_size s.page_words) → length bounds ≡ length (sizes s.page_words layout)
    → ((c : ℕ) → c < length bounds → 1 ≤ get_or bounds c 0) → IsPaging (paging_of s layout bounds)
paged s layout bounds h len some = record { sized = are_sizes s.page_words layout h; bounded = len; some = λ c lt. some c (rw len lt) }

pub first_paged : (s : Profile) (layout : Layout) → IsTrue (is_page_size s.page_words) → 1 ≤ s.k → IsPaging (paging_of s layout (first_bounds s layout))
first_paged s layout h k =
    let len = length-replicate {A = ℕ} (length (sizes s.page_words layout)) s.k in
    paged s layout (first_bounds s layout) h len (λ c lt. (let lt' : c < length (sizes s.page_words layout) = rw len at lt in let e =
    get_or-replicate {A = ℕ} (length (sizes s.page_words layout)) c s.k 0 lt' in omega arith))

-- the first position at which a test passes is at most any at which it passes
found_by : (f : ℕ → Bool) (xs : List ℕ) (i : ℕ) → i < length xs → f (get_or xs i 0) ≡ true → position_or_len f xs ≤ i
found_by f xs i lt is = elim (cases_lt i (position_or_len f xs)) [
  | inl before ↦ absurd (false≢true (sym (fails_before_first f xs i 0 before) ∙ is))
  | inr le ↦ le
]

module _ (p : Paging) (ok : IsPaging p) (n : ℕ) where
  -- a request of at most a page has a class
  pub class_fits : need n ≤ p.page_words → class_for p n < classes p
  unfolding class_for
  class_fits le =
      let some = ok.sized.some in
      let last = ok.sized.last in
      let pass : nat_le (need n) (get_or p.sizes (length p.sizes - 1) 0) ≡ true = grind (arith, nat_tests) in
      let found = found_by (λ s. nat_le (need n) s) p.sizes (length p.sizes - 1) (omega arith) pass in
      omega arith

  -- the slot of an object's class holds it; no smaller class does
  pub class_holds : class_for p n < classes p → need n ≤ slot_words p (class_for p n)
  unfolding class_for
  class_holds lt = (let pass : nat_le (need n) (get_or p.sizes (position_or_len (λ s. nat_le (need n) s) p.sizes) 0) ≡ true =
      passes_at_first (λ s. nat_le (need n) s) p.sizes 0 lt in grind (arith, nat_tests))

  pub class_least : (c : ℕ) → c < class_for p n → slot_words p c < need n
  unfolding class_for
  class_least c lt = (let fails : nat_le (need n) (get_or p.sizes c 0) ≡ false =
      fails_before_first (λ s. nat_le (need n) s) p.sizes c 0 lt in grind (arith, nat_tests))

  pub class_known : class_for p n < classes p → class_of p.sizes n ≡ Some (class_for p n)
  unfolding class_for
  class_known lt = (let e : nat_lt (position_or_len (λ s. nat_le (need n) s) p.sizes) (length p.sizes) ≡ true = grind (arith, nat_tests) in rw e refl)

  pub class_none : p.page_words < need n → class_of p.sizes n ≡ None
  unfolding class_for
  class_none more = elim (cases_lt (position_or_len (λ s. nat_le (need n) s) p.sizes) (length p.sizes)) [
    | inl lt ↦ absurd (let h = class_holds lt in let f = size_within p.page_words p.sizes
        (position_or_len (λ s. nat_le (need n) s) p.sizes) ok.sized lt in omega arith)
    | inr past ↦ (let e : nat_lt (position_or_len (λ s. nat_le (need n) s) p.sizes) (length p.sizes) ≡ false = grind (arith, nat_tests) in rw e refl)
  ]

-- sizes in blocks make pages and slots of whole blocks
pub in_blocks : (s : Profile) (bounds : List ℕ) → IsTrue (is_page_size s.page_words) → AreBlocks (paging_of s Blocks bounds)
in_blocks s bounds h = record { page = (page_size s.page_words h).whole; slot = whole_blocks s.page_words }

-- a slot is no larger than a page
pub slot_fits : (p : Paging) → IsPaging p → (c : ℕ) → c < classes p → slot_words p c ≤ p.page_words
slot_fits p ok c lt = size_within p.page_words p.sizes c ok.sized lt

-- with k = 1 in the settings every class has the bound 1
pub first_ones : (s : Profile) (layout : Layout) → s.k ≡ 1 → EveryBoundIsOne (paging_of s layout (first_bounds s layout))
first_ones s layout one c lt = get_or-replicate {A = ℕ} (length (sizes s.page_words layout)) c s.k 0 lt ∙ one

-- a page has at most a slot for every four words
pub few_slots : (p : Paging) → IsPaging p → (c : ℕ) → c < classes p → 4 * slots_of p c ≤ p.page_words
few_slots p ok c lt = fewer p.page_words (slot_words p c) (ok.sized.least c lt)
  where
    fewer : (P size : ℕ) → 4 ≤ size → 4 * (P / size) ≤ P
    fewer P size le =
        let e = div-add-mod' P size in
        let f : P / size * 4 ≤ P / size * size = mul-le-mul_left (P / size) le in
        omega arith
