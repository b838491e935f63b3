-- For `least.rt`, `count.rt` and `class_counts`: the sum over the slot sizes of a page is the pages that the declared objects need; as many serve, fewer
-- refuse, and they are the least quota.
use Rattle.std.proofs.Common.{◌≡◌, ℕ, zero, suc, Bool, true, false, cond, ◌+◌, ◌*◌, ◌/◌, ◌<◌, ◌≤◌, List, drop, map, arith, ap, sym, ◌∙◌, inl, inr, refl}
use Rattle.std.proofs.Common.{drop-cons, drop_of_length-le}
use Rattle.std.specs.Prelude.{IsTrue, ◌&&◌, nat_eq, nat_le, nat_lt, sum_by}
use Rattle.std.specs.FinMap.{empty}
use Rattle.std.specs.List.{range_with_len}
use Rattle.std.proofs.lemmas.Bool.{cases_eq, cases_lt}
use Rattle.std.proofs.lemmas.List.Sums.{sum_by-cons}
use Rattle.cf_base.specs.Classes.{need, sizes, sizes_from}
use Rattle.cf_base.specs.Limits.{is_page_size}
use Rattle.cf_base.specs.Settings.{Profile}
use Rattle.cf_base.specs.declared.kind.Layout.{Layout}
use Rattle.cf_base.specs.declared.kind.Layout.TheVariants.{Words}
use Rattle.cf_base.proofs.Sizes.{map-one, sizes_from-next, sizes_from-page}
use Rattle.cf_base.proofs.Ranges.{sum_grows}
use Rattle.cf_base.proofs.Tests.{and_false, eq_no, eq_yes, le_no, le_yes, lt_no, lt_yes}
use Rattle.page_model.specs.Counts.{ceil_div}
use Rattle.page_model.specs.Paging.{IsPaging, Paging, class_for, classes, first_bounds, paging_of, slot_words, slots_of}
use Rattle.page_model.proofs.CallerLemmas.{class_holds, first_paged}
use Rattle.page_model.proofs.Sizes.{class_least}
use Rattle.quota_model.specs.Admission.{CanBeAsked, IsAdmission, IsEnough, count_of_class, declared_in_all, in_order, pages_needed_by}
use Rattle.quota_model.specs.Refusals.{task_paging}
use Rattle.quota_model.specs.declared.results.Admission.TheVariants.{Yes}
use Rattle.quota_model.specs.declared.results.Need.{Need}
use Rattle.quota_model.proofs.CallerLemmas.{counted_by, enough_iff, length-in_order, pages_few}
use Rattle.sizing.specs.Demands.{KeepsTo}
use Rattle.sizing.specs.Layout.{declared_between, pages_by_size, size_before}
use Rattle.sizing.specs.Runs.{CanBeRefused, IsServed}
use Rattle.sizing.proofs.FewerPages.{refused}
use Rattle.sizing.proofs.MostLive.{needs_served}

-- ---- the loop over the sizes

-- those between two sizes are at most all
pub between_few : (below most : ℕ) (needs : List Need) → declared_between below most needs ≤ declared_in_all needs
between_few below most needs = sum_grows (λ (e : Need). cond (nat_lt below (need e.bytes) && nat_le (need e.bytes) most) e.count 0) (λ (e : Need). e.count) needs
    (λ e. at_most (nat_lt below (need e.bytes) && nat_le (need e.bytes) most) e.count)
  where
    at_most : (b : Bool) (n : ℕ) → cond b n 0 ≤ n
    at_most true n = omega arith
    at_most false n = omega arith

-- sizes counted in units of one word
pub in_words : (page : ℕ) (needs : List Need) → pages_by_size (1 * page) 0 (map (λ s. 1 * s) (sizes_from page 4 page)) needs ≡ pages_by_size page 0 (sizes page Words) needs
in_words page needs = (let one : 1 * page ≡ page = omega arith in λ i. pages_by_size (one i) 0 (map-one (sizes_from page 4 page) i) needs)

-- one size more is counted
pub size_counted : (unit page s s' below pages x total : ℕ) (needs : List Need) → 1 ≤ s → s < page → s' ≡ (9 * s + 7) / 8
    → pages + pages_by_size (unit * page) below (map (λ z. unit * z) (sizes_from page s page)) needs ≡ total
    → x ≡ ceil_div (declared_between below (unit * s) needs) (unit * page / (unit * s))
    → pages + x + pages_by_size (unit * page) (unit * s) (map (λ z. unit * z) (sizes_from page s' page)) needs ≡ total
size_counted unit page s s' below pages x total needs some lt next is x_is =
    let split : pages_by_size (unit * page) below (map (λ z. unit * z) (sizes_from page s page)) needs
    ≡ ceil_div (declared_between below (unit * s) needs) (unit * page / (unit * s))
    + pages_by_size (unit * page) (unit * s) (map (λ z. unit * z) (sizes_from page ((9 * s + 7) / 8) page)) needs =
    ap (λ all. pages_by_size (unit * page) below (map (λ z. unit * z) all) needs) (sizes_from-next s page some lt) in
    let same : pages_by_size (unit * page) (unit * s) (map (λ z. unit * z) (sizes_from page s' page)) needs
    ≡ pages_by_size (unit * page) (unit * s) (map (λ z. unit * z) (sizes_from page ((9 * s + 7) / 8) page)) needs =
    ap (λ z. pages_by_size (unit * page) (unit * s) (map (λ y. unit * y) (sizes_from page z page)) needs) next in
    omega arith

-- the last size is the page
pub last_counted : (unit page s below pages x total : ℕ) (needs : List Need) → page ≤ s
    → pages + pages_by_size (unit * page) below (map (λ z. unit * z) (sizes_from page s page)) needs ≡ total
    → x ≡ ceil_div (declared_between below (unit * page) needs) (unit * page / (unit * page)) → pages + x ≡ total
last_counted unit page s below pages x total needs ge is x_is =
    let split : pages_by_size (unit * page) below (map (λ z. unit * z) (sizes_from page s page)) needs
    ≡ ceil_div (declared_between below (unit * page) needs) (unit * page / (unit * page)) + 0 =
    ap (λ all. pages_by_size (unit * page) below (map (λ z. unit * z) all) needs) (sizes_from-page page s page ge) in
    omega arith

-- ---- the sum is that over the classes

module _ (p : Paging) (ok : IsPaging p) where
  module _ (n : ℕ) where
    low : (c : ℕ) → c ≤ class_for p n → size_before p.sizes c < need n
    low zero le = omega arith
    low (suc c) le = class_least p ok n c (omega arith)

    high : (c : ℕ) → c < classes p → class_for p n < c → need n ≤ size_before p.sizes c
    high zero lt less = absurd (omega arith)
    high (suc c) lt less =
        let holds = class_holds p ok n (omega arith) in
        elim (cases_lt (class_for p n) c) [
          | inl before ↦ (let r = ok.sized.rising (class_for p n) c before (omega arith) in omega arith)
          | inr ge ↦ (let e : slot_words p (class_for p n) ≡ slot_words p c = ap (slot_words p) (let x : class_for p n ≡ c = omega arith in x) in omega arith)
        ]

    -- an object of n bytes is of class c if it needs more than the slots of the class before, and at most those of the class
    is_of_class : (c : ℕ) → c < classes p → (nat_lt (size_before p.sizes c) (need n) && nat_le (need n) (slot_words p c)) ≡ nat_eq (class_for p n) c
    is_of_class c lt = elim (cases_eq (class_for p n) c) [
      | inl is ↦ (
          let holds = class_holds p ok n (omega arith) in
          let same : slot_words p (class_for p n) ≡ slot_words p c = ap (slot_words p) is in
          let a = lt_yes (size_before p.sizes c) (need n) (low c (omega arith)) in
          let b = le_yes (need n) (slot_words p c) (omega arith) in
          let e = eq_yes (class_for p n) c is in
          rw (a, b, e) refl)
      | inr ne ↦ (
          let e = eq_no (class_for p n) c ne in
          elim (cases_lt (class_for p n) c) [
            | inl less ↦ (let a = lt_no (size_before p.sizes c) (need n) (high c lt less) in rw (a, e) refl)
            | inr more ↦ (
                let b = le_no (need n) (slot_words p c) (class_least p ok n c (omega arith)) in
                rw (b, e) (and_false (nat_lt (size_before p.sizes c) (need n))))
          ])
    ]

  module _ (needs : List Need) where
    pub count_is : (c : ℕ) → c < classes p → declared_between (size_before p.sizes c) (slot_words p c) needs ≡ count_of_class p (in_order needs) c
    count_is c lt = (λ i. sum_by (λ (e : Need). cond (is_of_class e.bytes c lt i) e.count 0) needs) ∙ sym (counted_by (λ n. nat_eq (class_for p n) c) needs)

    abbrev pages_of : ℕ → ℕ
    pages_of c = ceil_div (count_of_class p (in_order needs) c) (slots_of p c)

    sum_from : (n c : ℕ) → c + n ≡ classes p → pages_by_size p.page_words (size_before p.sizes c) (drop c p.sizes) needs ≡ sum_by pages_of (range_with_len c n)
    sum_from zero c is = ap (λ xs. pages_by_size p.page_words (size_before p.sizes c) xs needs) (drop_of_length-le p.sizes {i = c} (omega arith))
    sum_from (suc n) c is =
        let e : suc c ≡ c + 1 = omega arith in
        let split : pages_by_size p.page_words (size_before p.sizes c) (drop c p.sizes) needs
        ≡ ceil_div (declared_between (size_before p.sizes c) (slot_words p c) needs) (slots_of p c)
        + pages_by_size p.page_words (slot_words p c) (drop (suc c) p.sizes) needs =
        ap (λ xs. pages_by_size p.page_words (size_before p.sizes c) xs needs) (drop-cons p.sizes c 0 (omega arith)) in
        let here : ceil_div (declared_between (size_before p.sizes c) (slot_words p c) needs) (slots_of p c) ≡ pages_of c =
        ap (λ x. ceil_div x (slots_of p c)) (count_is c (omega arith)) in
        let rest = sum_from n (suc c) (omega arith) in
        let sum = sum_by-cons pages_of c (range_with_len (c + 1) n) in
        let more : sum_by pages_of (range_with_len (suc c) n) ≡ sum_by pages_of (range_with_len (c + 1) n) = ap (λ d. sum_by pages_of (range_with_len d n)) e in
        omega arith

    pub sum_is_needed : pages_by_size p.page_words 0 p.sizes needs ≡ pages_needed_by p (in_order needs)
    sum_is_needed = sum_from (classes p) 0 (omega arith)

-- pages and bounds don't change which pages the declared objects need
alike : (p q : Paging) (needs : List Need) → p.page_words ≡ q.page_words → p.sizes ≡ q.sizes → pages_needed_by p (in_order needs) ≡ pages_needed_by q (in_order needs)
unfolding class_for
alike p q needs words same = λ i. pages_needed_by (record { pages = p.pages; page_words = words i; sizes = same i; bounds = p.bounds }) (in_order needs)

module _ (s : Profile) (layout : Layout) (page : IsTrue (is_page_size s.page_words)) (needs : List Need) where
  -- the sum that the code computes
  abbrev counted : ℕ
  counted = pages_by_size s.page_words 0 (sizes s.page_words layout) needs

  pub needed_at : (p : Paging) → p.page_words ≡ s.page_words → p.sizes ≡ sizes s.page_words layout → counted ≡ pages_needed_by p (in_order needs)
  needed_at p words same =
      sum_is_needed (paging_of s layout (first_bounds (record s { k = 1 }) layout)) (first_paged (record s { k = 1 }) layout page (omega arith)) needs
      ∙ alike (paging_of s layout (first_bounds (record s { k = 1 }) layout)) p needs (sym words) (sym same)

  module _ (asked : CanBeAsked s needs) where
    pub counted_few : counted ≤ s.proxies
    counted_few =
        let few = asked.few in
        let long = length-in_order needs in
        let least = pages_few (paging_of s layout (first_bounds (record s { k = 1 }) layout)) (in_order needs) in
        let e = needed_at (paging_of s layout (first_bounds (record s { k = 1 }) layout)) refl refl in
        omega arith

    module _ (q : ℕ) (is : q ≡ counted) where
      pub counted_serve : (p : Paging) → IsPaging p → p.page_words ≡ s.page_words → p.sizes ≡ sizes s.page_words layout → q ≤ p.pages → IsServed p (KeepsTo needs)
      counted_serve p ok words same le = needs_served p needs ok (let e = needed_at p words same in omega arith)

      pub fewer_refuse : (p : Paging) → IsPaging p → p.page_words ≡ s.page_words → p.sizes ≡ sizes s.page_words layout → p.pages < q
          → CanBeRefused p (KeepsTo needs) empty
      fewer_refuse p ok words same lt = refused p ok needs s (sym words) asked.none_large (let e = needed_at p words same in omega arith)

      pub least_quota : layout ≡ Words → IsAdmission (record { profile = s; quota = q }) needs Yes
          × ((less : ℕ) → less < q → ¬ IsEnough (record { profile = s; quota = less }) needs)
      least_quota words =
          let e = needed_at (task_paging s) refl (ap (λ l. sizes s.page_words l) (sym words)) in (
            (asked, (enough_iff (record { profile = s; quota = q }) needs asked).1 (omega arith)),
            λ less lt enough. (let le = (enough_iff (record { profile = s; quota = less }) needs asked).0 enough in absurd (omega arith)),
          )
