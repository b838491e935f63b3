-- For `budget_certificate.rt`: what the tests show of the pages of a heap holds of any pages with the same sizes and no greater bounds, makes a heap with them
-- serve, and makes fewer pages refuse. Bounds cut from a table of ones are those of pages whose every bound is 1.
use Rattle.std.proofs.Common.{◌≡◌, ℕ, ◌-◌, ◌*◌, ◌/◌, ◌<◌, ◌≤◌, List, length, replicate, take, ap, arith, inl, inr, refl, subst, sym, ◌∙◌}
use Rattle.std.specs.Prelude.{slice_index, sum_by}
use Rattle.std.specs.List.{range_with_len}
use Rattle.std.specs.FinMap.{empty}
use Rattle.std.proofs.lemmas.Bool.{cases_eq}
use Rattle.std.proofs.lemmas.List.{get_or-replicate, get_or-take, length-replicate, length-take-le}
use Rattle.std.proofs.lemmas.Nat.{mul-le}
use Rattle.cf_base.specs.Classes.{slots}
use Rattle.cf_base.proofs.Ranges.{sum_le}
use Rattle.cf_model.specs.State.{HeapState, paging_in}
use Rattle.page_model.specs.Counts.{ceil_div}
use Rattle.page_model.specs.Paging.{EveryBoundIsOne, IsPaging, Paging, bound_of, class_for, classes, slots_of}
use Rattle.sizing.specs.Certificates.{AreBudgetLevels, IsBudgetCertificate, gap_beside, loose_pages}
use Rattle.sizing.specs.Checks.{with_pages}
use Rattle.sizing.specs.Demands.{Affords, ArePrices, KeepsBudget, objects_to_open}
use Rattle.sizing.specs.Heaps.{IsFresh, ServesHeapMallocs, ServesHeapResizes}
use Rattle.sizing.specs.Runs.{CanBeRefused}
use Rattle.sizing.proofs.BudgetLeast.{budget_refused}
use Rattle.sizing.proofs.BudgetPages.{gap_other, gap_own, level_mallocs, level_resizes}
use Rattle.sizing.proofs.HeapRuns.{no_malloc_refused, no_resize_refused, paging_at}

-- the bounds of n classes, cut from a table of ones, are one for each class
pub ones_are : (n : ℕ) → n ≤ 67
    → (length (take n (replicate {A = ℕ} 67 1)) ≡ n) × ((c : ℕ) → c < n → slice_index (take n (replicate {A = ℕ} 67 1)) c ≡ 1)
ones_are n few =
    let all = length-replicate {A = ℕ} 67 1 in (
      length-take-le n (replicate {A = ℕ} 67 1) (omega arith),
      λ c lt. get_or-take n (replicate {A = ℕ} 67 1) c 0 lt ∙ get_or-replicate {A = ℕ} 67 c 1 0 (omega arith),
    )

-- they are those of pages whose every bound is 1 and whose n classes are cut from a table of sizes
module _ (p : Paging) (n : ℕ) (table : List ℕ) (few : n ≤ 67) (room : length table ≡ 67) (ones : EveryBoundIsOne p) (all : p.sizes ≡ take n table) where
  many : classes p ≡ n
  many = ap length all ∙ length-take-le n table (omega arith)

  pub ones_low : (c : ℕ) → c < classes p → bound_of p c ≤ slice_index (take n (replicate {A = ℕ} 67 1)) c
  ones_low c lt = (let a = ones c lt in let e = many in let b = (ones_are n few).1 c (omega arith) in omega arith)

  pub ones_high : (c : ℕ) → c < length (take n table) → slice_index (take n (replicate {A = ℕ} 67 1)) c ≤ bound_of p c
  ones_high c lt =
      let long = ap length all in
      let e = many in
      let a = ones c (omega arith) in
      let b = (ones_are n few).1 c (omega arith) in
      omega arith

module _ (p q : Paging) (words : p.page_words ≡ q.page_words) (all : p.sizes ≡ q.sizes) (price : ℕ → ℕ) (budget : ℕ) where
  like : (T : ℕ → List ℕ → Type 0) → T q.page_words q.sizes → T p.page_words p.sizes
  like T t = subst (λ w. T w p.sizes) (sym words) (subst (λ xs. T q.page_words xs) (sym all) t)

  affords_like : (opened : ℕ → ℕ) → Affords q price budget opened → Affords p price budget opened
  affords_like opened paid = like (λ w xs. sum_by (λ c. objects_to_open (opened c) (slots w xs c) * price c) (range_with_len 0 (length xs)) ≤ budget) paid

  opened_like : (opened : ℕ → ℕ) → sum_by opened (range_with_len 0 (classes p)) ≡ sum_by opened (range_with_len 0 (classes q))
  opened_like opened = ap (λ (xs : List ℕ). sum_by opened (range_with_len 0 (length xs))) all

  pub fewer_refused : (levels opened : ℕ → ℕ) → IsBudgetCertificate q price budget levels opened → IsPaging p → (cost lengths : ℕ → ℕ)
      → ((c : ℕ) → c < classes p → 0 < opened c → (class_for p (lengths c) ≡ c) × (cost (lengths c) ≤ price c))
      → p.pages < q.pages → CanBeRefused p (KeepsBudget cost budget) empty
  fewer_refused levels opened sure ok cost lengths own less = budget_refused p ok cost price lengths opened budget (affords_like opened sure.affords) own
      (let e = opened_like opened in let sum = sure.all in omega arith)

  module _ (low : (c : ℕ) → c < classes p → bound_of p c ≤ bound_of q c) where
    gap_like : (i level c : ℕ) → c < classes p → gap_beside p price budget i level c ≤ gap_beside q price budget i level c
    gap_like i level c lt = elim (cases_eq c i) [
      | inl is ↦ (let a = gap_own p price budget i level c is in omega arith)
      | inr ne ↦ (
          let a = gap_other p price budget i level c ne in
          let b = gap_other q price budget i level c ne in
          let same : slots_of p c ≡ slots_of q c = like (λ w xs. slots w xs c ≡ slots_of q c) refl in
          let filled : ceil_div (budget / price c) (slots_of p c) ≡ ceil_div (budget / price c) (slots_of q c) = ap (ceil_div (budget / price c)) same in
          let bound = low c lt in
          let le = mul-le (loose_pages p price budget c) (level - price c) (loose_pages q price budget c) (level - price c) (omega arith) (omega arith) in
          omega arith)
    ]

    gaps_like : (i level : ℕ)
        → sum_by (gap_beside p price budget i level) (range_with_len 0 (classes p)) ≤ sum_by (gap_beside q price budget i level) (range_with_len 0 (classes q))
    gaps_like i level =
        let same : sum_by (gap_beside q price budget i level) (range_with_len 0 (classes p)) ≡ sum_by (gap_beside q price budget i level) (range_with_len 0 (classes q)) =
        ap (λ (xs : List ℕ). sum_by (gap_beside q price budget i level) (range_with_len 0 (length xs))) all in
        let le = sum_le (gap_beside p price budget i level) (gap_beside q price budget i level) 0 (classes p) (λ c _ lt. gap_like i level c (omega arith)) in
        omega arith

    pub levels_like : q.pages ≤ p.pages → (levels : ℕ → ℕ) → AreBudgetLevels q price budget levels → AreBudgetLevels p price budget levels
    levels_like le levels shown i lt =
        let many : classes p ≡ classes q = ap length all in
        let level = shown i (omega arith) in record {
          full = like (λ w xs. (c : ℕ) → c < length xs → levels i ≤ slots w xs c * price c) level.full;
          enough = (
              let e = level.enough in
              let g = gaps_like i (levels i) in
              let more = mul-le q.pages (levels i) p.pages (levels i) le (omega arith) in
              omega arith);
        }

    pub certificate_like : (levels opened : ℕ → ℕ) → p.pages ≡ q.pages → IsBudgetCertificate q price budget levels opened
        → IsBudgetCertificate p price budget levels opened
    certificate_like levels opened pages sure = record {
      shows = levels_like (omega arith) levels sure.shows;
      affords = affords_like opened sure.affords;
      all = (let e = opened_like opened in let sum = sure.all in omega arith);
    }

module _ (s : HeapState) (q : Paging) (fresh : IsFresh s) (words : (paging_in s).page_words ≡ q.page_words) (all : (paging_in s).sizes ≡ q.sizes)
    (low : (c : ℕ) → c < classes (paging_in s) → bound_of (paging_in s) c ≤ bound_of q c) (cost price : ℕ → ℕ) (prices : ArePrices (paging_in s) cost price)
    (budget : ℕ) (levels : ℕ → ℕ) (shown : AreBudgetLevels q price budget levels) where
  pub heap_mallocs : q.pages ≤ s.profile.pages → ServesHeapMallocs (KeepsBudget cost budget) s
  heap_mallocs le calls last new n run asked = no_malloc_refused (KeepsBudget cost budget) s calls last new fresh run
      (level_mallocs (paging_in s) cost price prices budget (paging_at (KeepsBudget cost budget) s calls last new fresh run) levels
      (levels_like (paging_in s) q words all price budget low le levels shown)) n asked

  pub heap_resizes : q.pages < s.profile.pages → ServesHeapResizes (KeepsBudget cost budget) s
  heap_resizes lt calls last new r run asked = no_resize_refused (KeepsBudget cost budget) s calls last new fresh run
      (level_resizes (paging_in s) cost price prices budget (paging_at (KeepsBudget cost budget) s calls last new fresh run) levels q.pages
      (levels_like (with_pages q.pages (paging_in s)) q words all price budget low (omega arith) levels shown) lt) r asked
