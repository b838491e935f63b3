-- For `budget.rt` and `budget_certificate.rt`: with fewer pages than the budget can open, a malloc within it can be refused. The program allocates for each
-- class the objects of its length that open the pages.
use Rattle.std.proofs.Common.{◌≡◌, ℕ, zero, suc, ◌+◌, ◌-◌, ◌*◌, ◌%◌, ◌<◌, ◌≤◌, List, [], ◌∷◌, None, cond, length, map, min, replicate, arith, ap, ◌∙◌, inl, inr, refl}
use Rattle.std.specs.Prelude.{nat_eq, nat_lt, sum_by}
use Rattle.std.specs.List.{range_with_len}
use Rattle.std.specs.FinMap.{empty, values}
use Rattle.std.proofs.lemmas.Bool.{cases_lt}
use Rattle.std.proofs.lemmas.List.Folds.{sum_by-replicate}
use Rattle.std.proofs.lemmas.List.FromFn.{get_or-map-range_with_len, length-map-range_with_len}
use Rattle.std.proofs.lemmas.List.Sums.{sum_by-append, sum_by-cons}
use Rattle.std.proofs.lemmas.Nat.{div-add-mod', le-div, mul-le}
use Rattle.std.proofs.Math.Nat.{mod-lt}
use Rattle.cf_base.specs.Classes.{need}
use Rattle.cf_base.specs.Settings.{Profile}
use Rattle.cf_base.proofs.Positions.{position_none}
use Rattle.cf_base.proofs.Ranges.{one, sum_at_least, sum_grows, sum_le}
use Rattle.cf_base.proofs.Tests.{eq_yes, lt_no, lt_yes}
use Rattle.page_model.specs.Counts.{ceil_div}
use Rattle.page_model.specs.Held.{Objects}
use Rattle.page_model.specs.Paging.{IsPaging, Paging, class_for, classes, slots_of}
use Rattle.page_model.proofs.CallerLemmas.{ceil_mono, class_holds, slot_fits, slots_some, sum_plus, sum_same, sum_zeros}
use Rattle.quota_model.specs.Admission.{count_of_class, first_large, in_order, pages_needed_by}
use Rattle.quota_model.specs.declared.results.Need.{Need}
use Rattle.quota_model.proofs.CallerLemmas.{contained, count-map, counted_by, declared_is, times}
use Rattle.sizing.specs.Demands.{Affords, KeepsBudget, KeepsTo, objects_to_open}
use Rattle.sizing.specs.Runs.{CanBeRefused}
use Rattle.sizing.proofs.FewerPages.{refused}
use Rattle.sizing.proofs.ModePages.{run_weakened}

-- ---- the cost of a list in which each number is at most as frequent as in another

-- a number n is the count of the numbers below it; from a on, k of them
layers : (n a k : ℕ) → sum_by (λ i. one (nat_lt i n)) (range_with_len a k) ≡ min (n - a) k
layers n a zero = omega arith
layers n a (suc k) =
    let x = sum_by-cons (λ i. one (nat_lt i n)) a (range_with_len (a + 1) k) in
    let rest = layers n (a + 1) k in
    elim (cases_lt a n) [
      | inl lt ↦ (let e : one (nat_lt a n) ≡ 1 = ap one (lt_yes a n lt) in omega arith)
      | inr ge ↦ (let e : one (nat_lt a n) ≡ 0 = ap one (lt_no a n ge) in omega arith)
    ]

module _ (cost : ℕ → ℕ) where
  layers_of : (k : ℕ) (xs : List ℕ) → sum_by (λ i. sum_by (λ n. one (nat_lt i (cost n))) xs) (range_with_len 0 k) ≡ sum_by (λ n. min (cost n) k) xs
  layers_of k [] = sum_zeros (λ i. 0) (range_with_len 0 k) (λ i. refl)
  layers_of k (x ∷ xs) =
      let split = sum_same (λ i. sum_by (λ n. one (nat_lt i (cost n))) (x ∷ xs)) (λ i. one (nat_lt i (cost x)) + sum_by (λ n. one (nat_lt i (cost n))) xs) (range_with_len 0 k)
      (λ i. sum_by-cons (λ n. one (nat_lt i (cost n))) x xs) in
      let plus = sum_plus (λ i. one (nat_lt i (cost x))) (λ i. sum_by (λ n. one (nat_lt i (cost n))) xs) (range_with_len 0 k) in
      let here = layers (cost x) 0 k in
      let rest = layers_of k xs in
      let sum = sum_by-cons (λ n. min (cost n) k) x xs in
      omega arith

  capped : (k : ℕ) (xs : List ℕ) → sum_by cost xs ≤ k → sum_by (λ n. min (cost n) k) xs ≡ sum_by cost xs
  capped k [] le = refl
  capped k (x ∷ xs) le =
      let a = sum_by-cons (λ n. min (cost n) k) x xs in
      let b = sum_by-cons cost x xs in
      let rest = capped k xs (omega arith) in
      omega arith

  contained_sum : (xs ys : List ℕ) → ((n : ℕ) → times n xs ≤ times n ys) → sum_by cost xs ≤ sum_by cost ys
  contained_sum xs ys le =
      let a = capped (sum_by cost xs) xs (omega arith) in
      let b = layers_of (sum_by cost xs) xs in
      let c = layers_of (sum_by cost xs) ys in
      let d = sum_le (λ i. sum_by (λ n. one (nat_lt i (cost n))) xs) (λ i. sum_by (λ n. one (nat_lt i (cost n))) ys) 0 (sum_by cost xs)
      (λ i _ _. contained xs ys le (λ n. nat_lt i (cost n))) in
      let e = sum_grows (λ n. min (cost n) (sum_by cost xs)) cost ys (λ n. omega arith) in
      omega arith

  total_lengths : (vs : List (List ℕ)) → sum_by cost (map length vs) ≡ sum_by (λ (v : List ℕ). cost (length v)) vs
  total_lengths [] = refl
  total_lengths (v ∷ vs) =
      let a = sum_by-cons cost (length v) (map length vs) in
      let b = sum_by-cons (λ (v : List ℕ). cost (length v)) v vs in
      let rest = total_lengths vs in
      omega arith

  total_in_order : (needs : List Need) → sum_by cost (in_order needs) ≡ sum_by (λ (e : Need). e.count * cost e.bytes) needs
  total_in_order [] = refl
  total_in_order (e ∷ es) =
      let a = sum_by-append cost (replicate e.count e.bytes) (in_order es) in
      let b = sum_by-replicate cost e.count e.bytes in
      let c = sum_by-cons (λ (e : Need). e.count * cost e.bytes) e es in
      let rest = total_in_order es in
      omega arith

sum_mapped : (g : Need → ℕ) (f : ℕ → Need) (a k : ℕ) → sum_by g (map f (range_with_len a k)) ≡ sum_by (λ c. g (f c)) (range_with_len a k)
sum_mapped g f a zero = refl
sum_mapped g f a (suc k) =
    let x = sum_by-cons g (f a) (map f (range_with_len (a + 1) k)) in
    let y = sum_by-cons (λ c. g (f c)) a (range_with_len (a + 1) k) in
    let rest = sum_mapped g f (a + 1) k in
    omega arith

-- ---- the objects that open the pages

-- n objects are at least those that open the pages that they need
pub opened_by : (n m : ℕ) → 0 < m → objects_to_open (ceil_div n m) m ≤ n
opened_by n m pos = go (ceil_div n m) refl
  where
    few : (j : ℕ) → ceil_div n m ≡ suc j → j * m + 1 ≤ n
    few j is =
        let d : ceil_div n m * m + (n + (m - 1)) % m ≡ n + (m - 1) = div-add-mod' (n + (m - 1)) m in
        let e : ceil_div n m * m ≡ suc j * m = ap (λ x. x * m) is in
        let r : (n + (m - 1)) % m < m = mod-lt (n + (m - 1)) pos in
        omega arith

    go : (q : ℕ) → ceil_div n m ≡ q → objects_to_open q m ≤ n
    go zero is = omega arith
    go (suc j) is = few j is

-- they need these pages
opens : (q m : ℕ) → 0 < m → q ≤ ceil_div (objects_to_open q m) m
opens zero m pos = omega arith
opens (suc q) m pos = le-div (suc q) (q * m + 1 + (m - 1)) m pos (omega arith)

module _ (p : Paging) (ok : IsPaging p) (cost price lengths pages : ℕ → ℕ) (budget : ℕ) (affords : Affords p price budget pages)
    (own : (c : ℕ) → c < classes p → 0 < pages c → (class_for p (lengths c) ≡ c) × (cost (lengths c) ≤ price c)) where
  -- the length of the objects of class c: none are allocated where no page is opened
  abbrev bytes_of : ℕ → ℕ
  bytes_of c = cond (nat_lt 0 (pages c)) (lengths c) 0

  abbrev count_of : ℕ → ℕ
  count_of c = objects_to_open (pages c) (slots_of p c)

  abbrev entry : ℕ → Need
  entry c = record { bytes = bytes_of c; count = count_of c }

  abbrev entries : List Need
  entries = map entry (range_with_len 0 (classes p))

  with_pages_some : (c : ℕ) → 0 < pages c → bytes_of c ≡ lengths c
  with_pages_some c some = rw (lt_yes 0 (pages c) some) refl

  without_none : (c : ℕ) → pages c ≤ 0 → bytes_of c ≡ 0
  without_none c none = rw (lt_no 0 (pages c) none) refl

  -- all of them cost no more than the budget
  within_budget : sum_by cost (in_order entries) ≤ budget
  within_budget =
      let a = total_in_order cost entries in
      let b = sum_mapped (λ (e : Need). e.count * cost e.bytes) entry 0 (classes p) in
      let c = sum_le (λ c. count_of c * cost (bytes_of c)) (λ c. count_of c * price c) 0 (classes p) (λ c _ lt. elim (cases_lt 0 (pages c)) [
        | inl some ↦ (
            let e : cost (bytes_of c) ≡ cost (lengths c) = ap cost (with_pages_some c some) in
            let le = (own c (omega arith) some).1 in
            mul-le (count_of c) (cost (bytes_of c)) (count_of c) (price c) (omega arith) (omega arith))
        | inr none ↦ (
            let z : count_of c ≡ 0 = ap (λ q. objects_to_open q (slots_of p c)) (let q : pages c ≡ 0 = omega arith in q) in
            let y : count_of c * cost (bytes_of c) ≡ 0 * cost (bytes_of c) = ap (λ i. i * cost (bytes_of c)) z in
            omega arith)
      ]) in
      let d : sum_by (λ c. count_of c * price c) (range_with_len 0 (classes p)) ≤ budget = affords in
      omega arith

  keeps : (o : Objects) → KeepsTo entries o → KeepsBudget cost budget o
  keeps o within =
      let a = total_lengths cost (values o) in
      let b = contained_sum cost (map length (values o)) (in_order entries) (λ n. (
      let x = count-map length (λ m. nat_eq m n) (values o) in
      let y = declared_is entries n in
      let z = within n in
      omega arith)) in
      let c = within_budget in
      omega arith

  none_large : (s : Profile) → s.page_words ≡ p.page_words → first_large s entries ≡ None
  none_large s same = position_none (λ (e : Need). nat_lt s.page_words (need e.bytes)) entries (entry 0) (λ k lt. (
      let long = length-map-range_with_len entry 0 (classes p) in
      let less : k < classes p = omega arith in
      let e = get_or-map-range_with_len entry 0 (classes p) k k (entry 0) less (omega arith) in
      ap (λ (x : Need). nat_lt s.page_words (need x.bytes)) e ∙ lt_no s.page_words (need (bytes_of k)) (elim (cases_lt 0 (pages k)) [
        | inl some ↦ (
            let is = (own k less some).0 in
            let holds = class_holds p ok (lengths k) (omega arith) in
            let fits = slot_fits p ok (class_for p (lengths k)) (omega arith) in
            let b = ap need (with_pages_some k some) in
            omega arith)
        | inr none ↦ (
            let b = ap need (without_none k none) in
            let fits = slot_fits p ok k less in
            let low = ok.sized.least k less in
            omega arith)
      ])))

  needed : sum_by pages (range_with_len 0 (classes p)) ≤ pages_needed_by p (in_order entries)
  needed = sum_le pages (λ c. ceil_div (count_of_class p (in_order entries) c) (slots_of p c)) 0 (classes p) (λ c _ lt. elim (cases_lt 0 (pages c)) [
    | inr none ↦ omega arith
    | inl some ↦ (
        let a = counted_by (λ n. nat_eq (class_for p n) c) entries in
        let b = sum_mapped (λ (e : Need). cond (nat_eq (class_for p e.bytes) c) e.count 0) entry 0 (classes p) in
        let d = sum_at_least (λ i. cond (nat_eq (class_for p (bytes_of i)) c) (count_of i) 0) 0 (classes p) c (omega arith) (omega arith) in
        let is : class_for p (bytes_of c) ≡ c = ap (class_for p) (with_pages_some c some) ∙ (own c (omega arith) some).0 in
        let e : cond (nat_eq (class_for p (bytes_of c)) c) (count_of c) 0 ≡ count_of c = rw (eq_yes (class_for p (bytes_of c)) c is) refl in
        let f = opens (pages c) (slots_of p c) (slots_some p ok c (omega arith)) in
        let g = ceil_mono (count_of c) (count_of_class p (in_order entries) c) (slots_of p c) (omega arith) in
        omega arith)
  ])

  pub budget_refused : p.pages < sum_by pages (range_with_len 0 (classes p)) → CanBeRefused p (KeepsBudget cost budget) empty
  budget_refused past =
      let r = refused p ok entries (record { pages = 0; page_words = p.page_words; k = 1; proxies = 0 }) refl
      (none_large (record { pages = 0; page_words = p.page_words; k = 1; proxies = 0 }) refl) (let n = needed in omega arith) in
      let l = r.lacks in
      record {
        calls = r.calls;
        last = r.last;
        run = run_weakened p (KeepsTo entries) (KeepsBudget cost budget) keeps r.calls empty r.last r.run;
        number = r.number;
        bytes = r.bytes;
        lacks = record { unused = l.unused; fits = l.fits; asked = keeps _ l.asked; lacking = l.lacking };
      }
