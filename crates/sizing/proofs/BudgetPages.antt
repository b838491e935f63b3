-- For `budget.rt` and `budget_certificate.rt`: pages serve a budget if each class has a level, a cost that the objects of any full page reach, which shows it.
-- A class's pages, each at the level t, cost at most its objects and t - price for each page that may be partly full. At bound one, pages serve if the budget
-- affords no more.
use Rattle.std.proofs.Common.{◌≡◌, ◌≢◌, ℕ, zero, suc, ◌+◌, ◌-◌, ◌*◌, ◌/◌, ◌<◌, ◌≤◌, List, [], ◌∷◌, length, min, replicate, arith, ap, sym, ◌∙◌}
use Rattle.std.proofs.Common.{inl, inr, refl, subst}
use Rattle.std.specs.Prelude.{nat_eq, sum_by}
use Rattle.std.specs.List.{range_with_len}
use Rattle.std.proofs.lemmas.Bool.{cases_eq, cases_lt}
use Rattle.std.proofs.lemmas.List.Sums.{sum_by-cons}
use Rattle.std.proofs.lemmas.Nat.{le-div, mul-le}
use Rattle.std.specs.FinMap.{empty, insert, values}
use Rattle.cf_base.proofs.Induction.{map_induction}
use Rattle.cf_base.proofs.Ranges.{one, sum_at_least, sum_le}
use Rattle.cf_base.proofs.Sums.{sum_by-inserted}
use Rattle.cf_base.proofs.Tests.{eq_no, eq_yes}
use Rattle.cf_base.proofs.Values.{no_values}
use Rattle.page_model.specs.Arrangement.{IsSound, LacksRoom, class_at, live, not_full_pages, pages_needed, pages_needed_with, pages_of_class, used_pages}
use Rattle.page_model.specs.Counts.{CanHold, LieOn, ceil_div}
use Rattle.page_model.specs.Held.{Held, Objects, objects}
use Rattle.page_model.specs.Paging.{EveryBoundIsOne, IsPaging, Paging, bound_of, class_for, classes, slots_of}
use Rattle.page_model.specs.Steps.{resized}
use Rattle.page_model.proofs.CallerLemmas.{bytes_missing, lacks_room_at_one, live_added, no_objects, none_live, slots_some, sound_empty, sound_stand}
use Rattle.page_model.proofs.CallerLemmas.{sum_plus, sum_same, sum_zeros}
use Rattle.page_model.proofs.Lacking.{none_free}
use Rattle.page_model.proofs.PageCounts.{sound_can_hold}
use Rattle.page_model.proofs.RoomAtOne.{needed_with_is}
use Rattle.std.proofs.lemmas.List.{length-replicate}
use Rattle.sizing.specs.Certificates.{AreBudgetLevels, gap_beside, loose_pages}
use Rattle.sizing.specs.Checks.{with_pages}
use Rattle.sizing.specs.Demands.{Affords, ArePrices, KeepsBudget, objects_to_open}
use Rattle.sizing.specs.Runs.{Does, HeapCall, MallocLacks, ResizeLacks, RunCalls, ServesMallocs, ServesResizes}
use Rattle.sizing.proofs.BudgetLeast.{opened_by}
use Rattle.sizing.proofs.Calls.{live_malloced, live_moved, live_resized, run_keeps, sound_next}
use Rattle.sizing.proofs.ClassPages.{sum_less}
use Rattle.sizing.proofs.Closed.{within}
use Rattle.sizing.proofs.ModePages.{most_on}
use Rattle.sizing.proofs.MostLive.{pages_along}
use Rattle.sizing.proofs.MostPages.{most_at_one}

-- h pages with j + 1 slots each, at most k of them partly full, that hold n objects of at least b bytes
class_cost : (h n j k b t : ℕ) → h ≤ n → h * suc j ≤ n + k * j → t ≤ suc j * b → h * t ≤ n * b + k * (t - b)
class_cost h n j k b t some free full = elim (cases_lt b t) [
  | inr low ↦ (let x = mul-le h t n b some low in omega arith)
  | inl lt ↦ (let e : b + (t - b) ≡ t = omega arith in subst (λ x. h * x ≤ n * b + k * (t - b)) e (spread (t - b) (omega arith)))
]
  where
    beyond : (r d : ℕ) → h ≡ k + r → b + d ≤ suc j * b → h * (b + d) ≤ n * b + k * d
    beyond r d is low =
        let all : h * (b + d) ≡ (k + r) * (b + d) = ap (λ x. x * (b + d)) is in
        let slots : h * suc j ≡ (k + r) * suc j = ap (λ x. x * suc j) is in
        let pages : r * (b + d) ≤ r * (suc j * b) = mul-le r (b + d) r (suc j * b) (omega arith) low in
        let objects : (k + r * suc j) * b ≤ n * b = mul-le (k + r * suc j) b n b (omega arith) (omega arith) in
        omega arith

    spread : (d : ℕ) → b + d ≤ suc j * b → h * (b + d) ≤ n * b + k * d
    spread d low = elim (cases_lt k h) [
      | inl many ↦ beyond (h - k) d (omega arith) low
      | inr few ↦ (
          let x = mul-le h b n b some (omega arith) in
          let y = mul-le h d k d few (omega arith) in
          omega arith)
    ]

-- the same of pages that can be, at most `filled`, with at most `less` objects fewer afterwards, each of which costs t at most
cost_left : (h n m k filled b t less most : ℕ) → 0 < m → CanHold h n m k → h ≤ filled → t ≤ m * b → n ≤ most + less
    → h * t ≤ most * b + min k filled * (t - b) + less * t
cost_left h n zero k filled b t less most pos can high full le = absurd (omega arith)
cost_left h n (suc j) k filled b t less most pos can high full le =
    let w = within h n j k can in
    elim (cases_lt b t) [
      | inl lt ↦ (
          let x = mul-le less b less t (omega arith) (omega arith) in
          elim (cases_lt k filled) [
            | inl few ↦ (
                let all = class_cost h (most + less) j k b t (omega (arith, w.0)) (omega (arith, w.1)) full in
                let e : min k filled * (t - b) ≡ k * (t - b) = ap (λ i. i * (t - b)) (omega arith) in
                omega arith)
            | inr many ↦ (
                let e : min k filled * (t - b) ≡ filled * (t - b) = ap (λ i. i * (t - b)) (omega arith) in
                let d : b + (t - b) ≡ t = omega arith in
                let split : h * (b + (t - b)) ≡ h * t = ap (λ i. h * i) d in
                let objects = mul-le h b (most + less) b (omega (arith, w.0)) (omega arith) in
                let gaps = mul-le h (t - b) filled (t - b) high (omega arith) in
                omega arith)
          ])
      | inr low ↦ (
          let x = mul-le h t (most + less) t (omega (arith, w.0)) (omega arith) in
          let y = mul-le most t most b (omega arith) low in
          omega arith)
    ]

-- full pages cost at most their objects, and one object more costs its price too
cost_full : (h n m k q b t most : ℕ) → LieOn h n m k q → q ≡ 0 → t ≤ m * b → n + 1 ≤ most → h * t + b ≤ most * b
cost_full h n m k q b t most st none full le =
    let least : (h - 0) * m + 0 ≤ n = rw none at st.least in
    let e : h - 0 ≡ h = omega arith in
    let least' : h * m + 0 ≤ n = rw e at least in
    let pages = mul-le h t h (m * b) (omega arith) full in
    let objects = mul-le (h * m + 1) b most b (omega arith) (omega arith) in
    omega arith

module _ (price : ℕ → ℕ) where
  missed : (k a n : ℕ) → k < a → sum_by (λ c. one (nat_eq k c) * price c) (range_with_len a n) ≡ 0
  missed k a zero lt = refl
  missed k a (suc n) lt =
      let x = sum_by-cons (λ c. one (nat_eq k c) * price c) a (range_with_len (a + 1) n) in
      let z : one (nat_eq k a) ≡ 0 = ap one (eq_no k a (λ e. omega arith)) in
      let y : one (nat_eq k a) * price a ≡ 0 * price a = ap (λ i. i * price a) z in
      let rest = missed k (a + 1) n (omega arith) in
      omega arith

  -- the price of class k, if it is in the range
  picked : (k a n most : ℕ) → (k < a + n → price k ≤ most) → sum_by (λ c. one (nat_eq k c) * price c) (range_with_len a n) ≤ most
  picked k a zero most le = omega arith
  picked k a (suc n) most le =
      let x = sum_by-cons (λ c. one (nat_eq k c) * price c) a (range_with_len (a + 1) n) in
      elim (cases_eq k a) [
        | inl is ↦ (
            let z : one (nat_eq k a) ≡ 1 = ap one (eq_yes k a is) in
            let y : one (nat_eq k a) * price a ≡ 1 * price a = ap (λ i. i * price a) z in
            let e : price a ≡ price k = ap price (sym is) in
            let rest = missed k (a + 1) n (omega arith) in
            let here = le (omega arith) in
            omega arith)
        | inr ne ↦ (
            let z : one (nat_eq k a) ≡ 0 = ap one (eq_no k a ne) in
            let y : one (nat_eq k a) * price a ≡ 0 * price a = ap (λ i. i * price a) z in
            let rest = picked k (a + 1) n most (λ lt. le (omega arith)) in
            omega arith)
      ]

-- a sum times t
sum_times : (f : ℕ → ℕ) (t : ℕ) (xs : List ℕ) → sum_by f xs * t ≡ sum_by (λ c. f c * t) xs
sum_times f t [] = omega arith
sum_times f t (x ∷ xs) =
    let a = sum_by-cons f x xs in
    let b = sum_by-cons (λ c. f c * t) x xs in
    let e : sum_by f (x ∷ xs) * t ≡ (f x + sum_by f xs) * t = ap (λ i. i * t) a in
    let rest = sum_times f t xs in
    omega arith

-- the gap beside class i is that of a class, but for class i
module _ (p : Paging) (price : ℕ → ℕ) (budget i level c : ℕ) where
  pub gap_other : c ≢ i → gap_beside p price budget i level c ≡ loose_pages p price budget c * (level - price c)
  gap_other ne = rw (eq_no c i ne) refl

  pub gap_own : c ≡ i → gap_beside p price budget i level c ≡ 0
  gap_own is = rw (eq_yes c i is) refl

module _ (p : Paging) (cost price : ℕ → ℕ) (prices : ArePrices p cost price) where
  -- the objects of all classes, each at the price of its class
  priced : (o : Objects) → sum_by (λ c. live p o c * price c) (range_with_len 0 (classes p)) ≤ sum_by (λ (v : List ℕ). cost (length v)) (values o)
  priced = map_induction
      (λ o. sum_by (λ c. live p o c * price c) (range_with_len 0 (classes p)) ≤ sum_by (λ (v : List ℕ). cost (length v)) (values o))
      (let z = sum_zeros (λ c. live p empty c * price c) (range_with_len 0 (classes p)) (λ c. (let e : live p empty c * price c ≡ 0 * price c = ap (λ i. i * price c) (none_live p c) in omega arith)) in omega arith)
      (λ o h v none ih. (
      let split = sum_same (λ c. live p (insert o h v) c * price c) (λ c. live p o c * price c + one (nat_eq (class_for p (length v)) c) * price c)
      (range_with_len 0 (classes p))
      (λ c. (let e : live p (insert o h v) c * price c ≡ (live p o c + one (nat_eq (class_for p (length v)) c)) * price c =
      ap (λ i. i * price c) (live_added p o h v c none) in omega arith)) in
      let plus = sum_plus (λ c. live p o c * price c) (λ c. one (nat_eq (class_for p (length v)) c) * price c) (range_with_len 0 (classes p)) in
      let pick = picked price (class_for p (length v)) 0 (classes p) (cost (length v)) (λ lt. prices (length v) (omega arith)) in
      let more = sum_by-inserted (λ (u : List ℕ). cost (length u)) o h v none in
      omega arith))

  module _ (budget : ℕ) (ok : IsPaging p) where
    -- the pages that objects within the budget need are pages that it affords
    affords_needed : (o : Objects) → KeepsBudget cost budget o → Affords p price budget (λ c. ceil_div (live p o c) (slots_of p c))
    affords_needed o keeps =
        let each = sum_le (λ c. objects_to_open (ceil_div (live p o c) (slots_of p c)) (slots_of p c) * price c) (λ c. live p o c * price c) 0 (classes p)
        (λ c _ lt. mul-le (objects_to_open (ceil_div (live p o c) (slots_of p c)) (slots_of p c)) (price c) (live p o c) (price c)
        (opened_by (live p o c) (slots_of p c) (slots_some p ok c (omega arith))) (omega arith)) in
        let all = priced o in
        omega arith

    -- at bound one those pages are the pages in use
    used_needed : EveryBoundIsOne p → (m : Held) → IsSound p m → used_pages p m ≤ pages_needed p (objects m)
    unfolding used_pages pages_needed
    used_needed ones m s = sum_le (pages_of_class p m) (λ c. ceil_div (live p (objects m) c) (slots_of p c)) 0 (classes p) (λ c _ lt. (
        let on = most_on p ok m s c (live p (objects m) c) (omega arith) (omega arith) in
        let one = most_at_one (live p (objects m) c) (slots_of p c) (bound_of p c) (slots_some p ok c (omega arith)) (ones c (omega arith)) in
        omega arith))

    -- along a run the objects are sound and within the budget
    record IsWithin (m : Held) : Type 0 where
      sound : IsSound p m
      keeps : KeepsBudget cost budget (objects m)

    within_along : (calls : List HeapCall) (m : Held) → RunCalls p (KeepsBudget cost budget) empty calls m → IsWithin m
    within_along calls m run = run_keeps (Does p) (KeepsBudget cost budget) IsWithin
        (λ old new call k does asked. record { sound = sound_next p ok old k.sound call new does; keeps = asked }) calls empty m
        (record {
          sound = sound_empty p;
          keeps = (
              let none : sum_by (λ (v : List ℕ). cost (length v)) (values (objects empty)) ≡ 0 =
              ap (λ (o : Objects). sum_by (λ (v : List ℕ). cost (length v)) (values o)) no_objects ∙ ap (sum_by (λ (v : List ℕ). cost (length v))) no_values in
              omega arith);
        }) run

    module _ (ones : EveryBoundIsOne p) where
      -- a refused malloc would need more pages than there are
      malloc_needs : (calls : List HeapCall) (m : Held) (h n : ℕ) → RunCalls p (KeepsBudget cost budget) empty calls m
          → MallocLacks p (KeepsBudget cost budget) m h n → p.pages < pages_needed p (insert (objects m) h (replicate n 0))
      malloc_needs calls m h n run l =
          let k = within_along calls m run in
          let lacks = (lacks_room_at_one p ok ones m k.sound n l.fits).0 l.lacking in
          let is = needed_with_is p (objects m) h (replicate n 0) (bytes_missing m h l.unused) in
          let len : pages_needed_with p (objects m) (length (replicate {A = ℕ} n 0)) ≡ pages_needed_with p (objects m) n =
          ap (pages_needed_with p (objects m)) (length-replicate {A = ℕ} n 0) in
          omega arith

      -- at a refused resize the objects need all pages
      resize_needs : (calls : List HeapCall) (m : Held) (h n : ℕ) → RunCalls p (KeepsBudget cost budget) empty calls m
          → ResizeLacks p (KeepsBudget cost budget) m h n → p.pages ≤ pages_needed p (objects m)
      resize_needs calls m h n run l =
          let k = within_along calls m run in
          let all : used_pages p m ≡ p.pages = none_free p m k.sound l.lacking.taken in
          let used = used_needed ones m k.sound in
          omega arith

      pub afforded_mallocs : ((pages : ℕ → ℕ) → Affords p price budget pages → sum_by pages (range_with_len 0 (classes p)) ≤ p.pages)
          → ServesMallocs p (KeepsBudget cost budget)
      unfolding pages_needed
      afforded_mallocs enough calls m h n run l =
          let more = malloc_needs calls m h n run l in
          let some = enough (λ c. ceil_div (live p (insert (objects m) h (replicate n 0)) c) (slots_of p c)) (affords_needed (insert (objects m) h (replicate n 0)) l.asked) in
          absurd (omega arith)

      pub afforded_resizes : ((pages : ℕ → ℕ) → Affords p price budget pages → sum_by pages (range_with_len 0 (classes p)) < p.pages)
          → ServesResizes p (KeepsBudget cost budget)
      unfolding pages_needed
      afforded_resizes enough calls m h n run l =
          let more = resize_needs calls m h n run l in
          let k = within_along calls m run in
          let some = enough (λ c. ceil_div (live p (objects m) c) (slots_of p c)) (affords_needed (objects m) k.keeps) in
          absurd (omega arith)

    used_cost : (m : Held) (t : ℕ) → used_pages p m ≡ p.pages → sum_by (λ c. pages_of_class p m c * t) (range_with_len 0 (classes p)) ≡ p.pages * t
    unfolding used_pages
    used_cost m t all =
        let scale = sum_times (pages_of_class p m) t (range_with_len 0 (classes p)) in
        let e : sum_by (pages_of_class p m) (range_with_len 0 (classes p)) * t ≡ p.pages * t = ap (λ x. x * t) all in
        omega arith

    -- a class has at most the pages that the objects fill for which the budget pays
    pages_paid : ((c : ℕ) → c < classes p → 0 < price c) → (calls : List HeapCall) (m : Held) → RunCalls p (KeepsBudget cost budget) empty calls m
        → (c : ℕ) → c < classes p → pages_of_class p m c ≤ ceil_div (budget / price c) (slots_of p c)
    pages_paid some calls m run = (pages_along p ok (λ c. budget / price c) (KeepsBudget cost budget)
        (λ o keeps c lt. (
        let all = priced o in
        let one = sum_at_least (λ d. live p o d * price d) 0 (classes p) c (omega arith) (omega arith) in
        le-div (live p o c) budget (price c) (some c lt) (omega arith)))
        calls m run).1

    module _ (i t : ℕ) (lt : i < classes p) (full : (c : ℕ) → c < classes p → t ≤ slots_of p c * price c) (calls : List HeapCall) (m : Held)
        (run : RunCalls p (KeepsBudget cost budget) empty calls m) where
      some_price : 0 < t → (c : ℕ) → c < classes p → 0 < price c
      some_price pos c below = elim (cases_lt 0 (price c)) [
        | inl some ↦ some
        | inr none ↦ absurd (
            let z : slots_of p c * price c ≡ slots_of p c * 0 = ap (λ x. slots_of p c * x) (omega arith) in
            let f = full c below in
            omega arith)
      ]

      class_left : (o : Objects) (c less : ℕ) → c < classes p → c ≢ i → live p (objects m) c ≤ live p o c + less
          → pages_of_class p m c * t ≤ live p o c * price c + (gap_beside p price budget i t c + less * t)
      class_left o c less below ne few =
          let gap = gap_other p price budget i t c ne in
          elim (cases_lt 0 t) [
            | inl pos ↦ (
                let left = cost_left (pages_of_class p m c) (live p (objects m) c) (slots_of p c) (bound_of p c) (ceil_div (budget / price c) (slots_of p c))
                (price c) t less (live p o c) (slots_some p ok c below) (sound_can_hold p ok c below m (within_along calls m run).sound)
                (pages_paid (some_price pos) calls m run c below) (full c below) few in
                omega arith)
            | inr none ↦ (
                let z : pages_of_class p m c * t ≡ pages_of_class p m c * 0 = ap (λ x. pages_of_class p m c * x) (omega arith) in
                omega arith)
          ]

      -- When class i lacks a slot, the pages at the level t and a new object of the class cost at most the budget with all gaps. Afterwards the objects o have one
      -- more of class i, and of each class at most `less c` fewer.
      lack_cost : LacksRoom p m i → (o : Objects) → KeepsBudget cost budget o → (less : ℕ → ℕ) → ((c : ℕ) → live p (objects m) c ≤ live p o c + less c)
          → live p (objects m) i + 1 ≤ live p o i
          → p.pages * t + price i ≤ budget + sum_by (gap_beside p price budget i t) (range_with_len 0 (classes p)) + sum_by (λ c. less c * t) (range_with_len 0 (classes p))
      lack_cost lacks o keeps less few more =
          let s = (within_along calls m run).sound in
          let used = used_cost m t (none_free p m s lacks.taken) in
          let here : pages_of_class p m i * t + price i ≤ live p o i * price i =
          cost_full (pages_of_class p m i) (live p (objects m) i) (slots_of p i) (bound_of p i) (not_full_pages p m i) (price i) t (live p o i)
          (sound_stand p ok i lt m s) lacks.full (full i lt) more in
          let sum = sum_less (λ c. pages_of_class p m c * t) (λ c. live p o c * price c + (gap_beside p price budget i t c + less c * t)) (price i) 0 (classes p) i
          (omega arith) (omega arith)
          (λ c _ below. elim (cases_eq c i) [
            | inl is ↦ subst (λ d. pages_of_class p m d * t ≤ live p o d * price d + (gap_beside p price budget i t d + less d * t)) (sym is) (omega arith)
            | inr ne ↦ class_left o c (less c) (omega arith) ne (few c)
          ])
          (omega arith) in
          let plus = sum_plus (λ c. live p o c * price c) (λ c. gap_beside p price budget i t c + less c * t) (range_with_len 0 (classes p)) in
          let gaps = sum_plus (gap_beside p price budget i t) (λ c. less c * t) (range_with_len 0 (classes p)) in
          let all = priced o in
          omega arith

    pub level_mallocs : (levels : ℕ → ℕ) → AreBudgetLevels p price budget levels → ServesMallocs p (KeepsBudget cost budget)
    level_mallocs levels shown calls m h n run l =
        let level = shown (class_for p n) l.fits in
        let past = lack_cost (class_for p n) (levels (class_for p n)) l.fits level.full calls m run l.lacking (insert (objects m) h (replicate n 0)) l.asked (λ c. 0)
        (λ c. (let a = live_added p (objects m) h (replicate n 0) c (bytes_missing m h l.unused) in omega arith))
        (let a = live_malloced p m h n l.unused in omega arith) in
        let none = sum_zeros (λ c. 0 * levels (class_for p n)) (range_with_len 0 (classes p)) (λ c. omega arith) in
        let enough = level.enough in
        absurd (omega arith)

    -- a resize may take an object of another class
    pub level_resizes : (levels : ℕ → ℕ) (pages : ℕ) → AreBudgetLevels (with_pages pages p) price budget levels → pages < p.pages
        → ServesResizes p (KeepsBudget cost budget)
    level_resizes levels pages shown fewer calls m h n run l =
        let level = shown (class_for p n) l.fits in
        let past = lack_cost (class_for p n) (levels (class_for p n)) l.fits level.full calls m run l.lacking (insert (objects m) h (resized l.object.bytes n)) l.asked
        (λ c. one (nat_eq (class_at p l.object) c))
        (λ c. (let a = live_moved p m h n l.object l.found c in omega arith))
        (let a = live_resized p m h n l.object l.found l.other in omega arith) in
        let taken = picked (λ c. levels (class_for p n)) (class_at p l.object) 0 (classes p) (levels (class_for p n)) (λ lt. omega arith) in
        let page = mul-le (pages + 1) (levels (class_for p n)) p.pages (levels (class_for p n)) (omega arith) (omega arith) in
        let enough : budget + sum_by (gap_beside p price budget (class_for p n) (levels (class_for p n))) (range_with_len 0 (classes p))
        < pages * levels (class_for p n) + price (class_for p n) = level.enough in
        absurd (omega arith)
