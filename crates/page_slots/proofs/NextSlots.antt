-- For the laws of `order_laws.rt`: the order of the tables is one of the arrangement; the slots that they take and free, and the object that moves, are the
-- next ones of this order. The order afterwards and the steps are the model's. Without objects no page is listed as partly full.
use Rattle.std.proofs.Common.{◌≡◌, ◌≢◌, ℕ, Bool, true, false, ◌+◌, ◌*◌, ◌<◌, List, [], ◌∷◌, length, drop, get_or, set, replicate, Some, arith, refl, sym, ◌∙◌, ap, subst, inl, inr}
use Rattle.std.specs.Prelude.{◌↔◌, None, not, nat_eq, slice_get, if◌then◌else◌}
use Rattle.std.specs.FinMap.{get, len}
use Rattle.std.specs.List.{Contains, IsDistinct, filter}
use Rattle.std.proofs.lemmas.Bool.{cases_eq, cases_lt, not-false}
use Rattle.std.proofs.lemmas.List.{same_lists, length-replicate, length-set, get_or_past, get_or-replicate, get_or-set_same, get_or-set_other}
use Rattle.std.proofs.lemmas.List.FromFn.{length-map-range_with_len, get_or-map-range_with_len}
use Rattle.std.proofs.lemmas.List.Quantifiers.{position-Some}
use Rattle.std.proofs.lemmas.Option.{slice_get-get_or}
use Rattle.cf_base.specs.Lists.{without_number}
use Rattle.cf_base.proofs.Members.{distinct_cons, distinct_head, distinct_nil, without_absent, without_first}
use Rattle.cf_base.proofs.Tests.{eq_no, eq_yes}
use Rattle.class_lists.specs.declared.Which.{Which}
use Rattle.class_lists.specs.declared.Which.TheVariants.{Full, NotFull}
use Rattle.class_lists.specs.PageLists.{PageLists, empty_lists, pages_in}
use Rattle.page_pool.specs.Pool.{HasNoRepeats, Pool, is_in_pool}
use Rattle.size_classes.specs.Table.{ClassTable}
use Rattle.page_model.specs.Held.{Held, Placed}
use Rattle.page_model.specs.Paging.{Paging, IsPaging, classes, address_of, page_of, slots_of}
use Rattle.page_model.specs.Arrangement.{class_at, objects_on, count_on}
use Rattle.page_model.proofs.CallerLemmas.{address_is_slot}
use Rattle.page_model.specs.Order.{Order, IsLeastFree, IsNextToMove, IsOrderOf, IsPartlyFull, IsTaken, TakesNext, not_full_in, slot_freed, steps_to_take as order_steps, with_not_full}
use Rattle.page_model.specs.Order.{drop_steps, fill_steps, steps_to_drop as order_drop, steps_to_fill as order_fill}
use Rattle.page_slots.specs.Tables.{Tables, AreTables, IsOf, IsPageOf, IsUsed, LeavesList, slot_at, slots_on, used_in}
use Rattle.page_slots.specs.Release.{IsFiller, Vacates, drop_slot_steps as table_drop, fill_slot_steps as table_fill}
use Rattle.page_slots.specs.Take.{TakesAt, TakesOnFreePage, TakesOnPartlyFullPage, take_slot_steps as table_steps}
use Rattle.page_slots.specs.Occupying.{Occupies, FitPages, FitPagesShared, class_table}
use Rattle.page_slots.specs.Orders.{partly_full_lists, order_of}
use Rattle.page_slots.proofs.Pages.{free_page, list_of, listed_page, of_list, one_class, placed_in}
use Rattle.page_slots.proofs.Bits.{not_both}
use Rattle.page_slots.proofs.TablesAfterFree.{used as used_less}
use Rattle.page_slots.proofs.Counted.{any_contains, contains_any, contains_no}
use Rattle.page_slots.proofs.Occupied.{counts_of, free_bare, stands_at, used_along}
use Rattle.page_slots.proofs.PageNumbers.{taken_stands}
use Rattle.page_slots.proofs.Calls.{front_is}
use Rattle.page_slots.proofs.TablesAfterTake.{Gains, front_listed, taken_gains, long as long_after, used as used_after}
use Rattle.page_slots.proofs.OccupiedAfterTake.{gained_unused}

module _ (n : ℕ) where
  -- the order lists the partly full pages of class c as the tables do
  pub open_at : (t : Tables) (spare : List ℕ) (c : ℕ) → c < n → not_full_in (order_of n t spare) c ≡ pages_in t.lists c NotFull
  open_at t spare c lt = get_or-map-range_with_len (λ c. pages_in t.lists c NotFull) 0 n c c [] lt (omega arith)

  long : (lists : PageLists) → length (partly_full_lists n lists) ≡ n
  long lists = length-map-range_with_len (λ c. pages_in lists c NotFull) 0 n

  -- if the partly full pages of each class stay, the lists of all classes do
  pub open_same : (old new : PageLists) → ((d : ℕ) → pages_in new d NotFull ≡ pages_in old d NotFull) → partly_full_lists n new ≡ partly_full_lists n old
  open_same old new same = same_lists _ _ (long new ∙ sym (long old)) (λ k d lt. (
      let l = long new in
      get_or-map-range_with_len (λ c. pages_in new c NotFull) 0 n k k d (omega arith) (omega arith) ∙ same k
      ∙ sym (get_or-map-range_with_len (λ c. pages_in old c NotFull) 0 n k k d (omega arith) (omega arith))))

  -- if only the partly full pages of class c change, only its list does
  pub open_set : (old new : PageLists) (c : ℕ) (pages : List ℕ) → c < n → pages_in new c NotFull ≡ pages
      → ((d : ℕ) → d ≢ c → pages_in new d NotFull ≡ pages_in old d NotFull) → partly_full_lists n new ≡ set (partly_full_lists n old) c pages
  open_set old new c pages inside here others = same_lists _ _ (long new ∙ sym (length-set (partly_full_lists n old) c pages ∙ long old)) (λ k d lt. (
      let l = long new in let lo = long old in
      get_or-map-range_with_len (λ c. pages_in new c NotFull) 0 n k k d (omega arith) (omega arith)
      ∙ elim (cases_eq k c) [
        | inl is ↦ ap (λ j. pages_in new j NotFull) is ∙ here ∙ sym (ap (λ j. get_or (set (partly_full_lists n old) c pages) j d) is
            ∙ get_or-set_same (partly_full_lists n old) c pages d (omega arith))
        | inr ne ↦ others k ne ∙ sym (get_or-set_other (partly_full_lists n old) c k pages d ne
            ∙ get_or-map-range_with_len (λ c. pages_in old c NotFull) 0 n k k d (omega arith) (omega arith))
      ]))

module _ {p : Paging} (ok : IsPaging p) {m : Held} {old new : Tables} (serve : FitPagesShared p old) (o : Occupies p m old)
    (kept : AreTables (class_table p) new) {c : ℕ} (class : c < classes p) (spare : List ℕ) where
  abbrev before : Order
  before = order_of (classes p) old spare

  abbrev after : Order
  after = order_of (classes p) new spare

  module _ {a page slot : ℕ} (address : a ≡ address_of p c page slot) where
    -- the slot is on a partly full page
    module _ (on : TakesOnPartlyFullPage old c page slot new) (g : Gains (class_table p) old new c page slot) where
      listed : Contains (pages_in old.lists c NotFull) page
      listed = front_listed (pages_in old.lists c NotFull) page on.front

      abbrev rest : List ℕ
      rest = drop 1 (pages_in old.lists c NotFull)

      first : pages_in old.lists c NotFull ≡ page ∷ rest
      first = front_is (pages_in old.lists c NotFull) page on.front

      not_twice : without_number page (pages_in old.lists c NotFull) ≡ rest
      not_twice = ap (without_number page) first
          ∙ without_first page rest (distinct_head page rest (rw first at (serve.tables.lists.distinct c NotFull)))

      least : IsLeastFree p m c page slot
      least = record {
        free = λ (q, y, there, is). gained_unused p ok m old new serve o c page slot g q y there is;
        least = λ s lt.
            let at = position-Some (λ used. not used) (slots_on old page) slot false on.least in
            let is : not (get_or (slots_on old page) s false) ≡ false = at.2 s lt in
            let u : slice_get (slots_on old page) s ≡ Some true =
            slice_get-get_or (slots_on old page) s false (let l = at.0 in omega arith) ∙ ap Some (not-false _ is) in
            let f = o.filled c page s (record { of = inr listed; used = u }) in
            (f.0, f.1, f.2, f.4);
      }

      left : after ≡ (if nat_eq (objects_on p m c page + 1) (slots_of p c) then with_not_full before c rest else before)
      left =
          let counts : objects_on p m c page ≡ used_in (slots_on old page) = o.counted c page (inr listed) in
          let more = used_after (class_table p) old serve.tables c page new kept.lists slot on in
          let many : length (slots_on new page) ≡ slots_of p c = long_after (class_table p) old serve.tables c page new kept.lists slot on in
          let pool = ap (λ (q : Pool). q.free) on.pool in
          elim (cases_eq (used_in (slots_on new page)) (length (slots_on new page))) [
            | inl is ↦ (
                let f = on.filled is in
                let e : objects_on p m c page + 1 ≡ slots_of p c = omega arith in
                let lists = open_set (classes p) old.lists new.lists c rest class
                (f.joins.others c NotFull (inr (λ w. cc)) ∙ f.leaves.list ∙ not_twice)
                (λ d ne. f.joins.others d NotFull (inl ne) ∙ f.leaves.others d NotFull (inl ne)) in
                rw (eq_yes _ _ e) (λ i. record { pool = pool i; not_full = lists i; spare = spare }))
            | inr ne ↦ (
                let e : objects_on p m c page + 1 ≢ slots_of p c = λ same. ne (omega arith) in
                let lists = ap (partly_full_lists (classes p)) (on.not_filled ne) in
                rw (eq_no _ _ e) (λ i. record { pool = pool i; not_full = lists i; spare = spare }))
          ]

      pub next_open : TakesNext p m before c a after
      next_open = inl (record {
        page = page;
        slot = slot;
        rest = rest;
        address = address;
        front = open_at (classes p) old spare c class ∙ first;
        least = least;
        left = left;
      })

  -- the slot is on a page that was free
  module _ {a page : ℕ} (address : a ≡ address_of p c page 0) (on : TakesOnFreePage (class_table p) old c page new) where
    left_free : after ≡ record (if nat_eq (slots_of p c) 1 then before else with_not_full before c (page ∷ [])) { pool = new.pool.free }
    left_free = elim (cases_eq (slots_of p c) 1) [
      | inl is ↦ (
          let j = on.filled is in
          let lists = open_same (classes p) old.lists new.lists (λ d. j.others d NotFull (inr (λ w. cc))) in
          rw (eq_yes _ _ is) (λ i. record { pool = new.pool.free; not_full = lists i; spare = spare }))
      | inr ne ↦ (
          let j = on.not_filled ne in
          let lists = open_set (classes p) old.lists new.lists c (page ∷ []) class (j.list ∙ ap (λ xs. page ∷ xs) on.none) (λ d other. j.others d NotFull (inl other)) in
          rw (eq_no _ _ ne) (λ i. record { pool = new.pool.free; not_full = lists i; spare = spare }))
    ]

    pub next_free : TakesNext p m before c a after
    next_free = inr (record {
      page = page;
      rest = new.pool.free;
      address = address;
      none = open_at (classes p) old spare c class ∙ on.none;
      front = on.front.0;
      left = left_free;
    })

  -- in both cases: the slot is on a partly full page, or on a page that was free
  pub taken_next : {a : ℕ} → TakesAt (class_table p) old c a new → TakesNext p m before c a after
  taken_next t = elim t.taken [
    | inl on ↦ next_open t.address on (taken_gains (class_table p) old serve.tables c class _ new t kept.lists kept.pool)
    | inr (first, on) ↦ next_free (t.address ∙ ap (address_of p c t.page) first) on
  ]

distinct_free : (free : List ℕ) → HasNoRepeats free → IsDistinct nat_eq free
distinct_free [] once = distinct_nil
distinct_free (page ∷ free) once = distinct_cons page free (contains_no page free once.0) (distinct_free free once.1)

module _ {p : Paging} (ok : IsPaging p) {m : Held} {t : Tables} (serve : FitPages p t) (o : Occupies p m t) where
  abbrev k : ClassTable
  k = class_table p

  free_is : (page : ℕ) → Contains t.pool.free page ↔ ((page < p.pages) × (count_on p m page ≡ 0))
  free_is page = (
    λ there. (
        let e = contains_any page t.pool.free there in
        let lt = serve.part.tables.pool.below page e in
        let many = serve.part.pages in
        (omega arith, free_bare p ok t serve.part m o page (free_page k t serve.part.tables page lt e))),
    λ (lt, bare). by_test (is_in_pool t.pool.free page) refl lt bare,
  )
    where
      by_test : (b : Bool) → is_in_pool t.pool.free page ≡ b → page < p.pages → count_on p m page ≡ 0 → Contains t.pool.free page
      by_test true e lt bare = any_contains page t.pool.free e
      by_test false e lt bare = absurd (let some = taken_stands p ok m t serve.part o serve.whole page lt e in omega arith)

  listed_is : (c page : ℕ) → Contains (pages_in t.lists c NotFull) page ↔ ((page < p.pages) × IsPartlyFull p m c page)
  listed_is c page = (
    λ there. (
        let q = placed_in k t serve.part.tables c page NotFull there in
        let e = o.counted c page (inr there) in
        let f = q.fills in let some = f.0 in let few = f.1 in
        let lt = listed_page k t serve.part.tables c page NotFull there in
        let many = serve.part.pages in
        (omega arith, (omega arith, omega arith))),
    λ (lt, (some, few)). elim (counts_of p ok t serve.part m o c page some) [
      | inl full ↦ absurd (
          let q = placed_in k t serve.part.tables c page Full full in
          let e = o.counted c page (inl full) in
          let f = q.fills in
          omega arith)
      | inr there ↦ there
    ],
  )

  -- the order of the tables is an order of the arrangement
  pub order_is : (limit : ℕ) (spare : List ℕ) → ((h : ℕ) → Contains spare h → (h < limit) × (get m h ≡ None)) → IsDistinct nat_eq spare
      → length spare + len m ≡ limit → IsOrderOf p m limit (order_of (classes p) t spare)
  order_is limit spare free once all = record {
    pool = free_is;
    pool_once = distinct_free t.pool.free serve.part.tables.pool.distinct;
    as_many = long (classes p) t.lists;
    not_full = λ c page lt. subst (λ pages. Contains pages page ↔ ((page < p.pages) × IsPartlyFull p m c page)) (sym (open_at (classes p) t spare c lt)) (listed_is c page);
    not_full_once = λ c lt. subst (IsDistinct nat_eq) (sym (open_at (classes p) t spare c lt)) (serve.part.tables.lists.distinct c NotFull);
    spare = free;
    spare_once = once;
    spare_all = all;
  }

-- A slot of a page became free.
module _ {p : Paging} (ok : IsPaging p) {m : Held} {old new : Tables} (serve : FitPagesShared p old) (o : Occupies p m old)
    (kept : AreTables (class_table p) new) {c : ℕ} (class : c < classes p) (spare : List ℕ) {page slot : ℕ} (v : Vacates old c page slot new) where
  abbrev was : Order
  was = order_of (classes p) old spare

  abbrev now : Order
  now = order_of (classes p) new spare

  was_at : not_full_in was c ≡ pages_in old.lists c NotFull
  was_at = open_at (classes p) old spare c class

  here : IsPageOf (class_table p) old page c v.which
  here = placed_in (class_table p) old serve.tables c page v.which v.listed

  counts : objects_on p m c page ≡ used_in (slots_on old page)
  counts = o.counted c page (list_of (class_table p) old serve.tables c page v.which v.listed)

  less : used_in (slots_on new page) + 1 ≡ used_in (slots_on old page)
  less = used_less (class_table p) old serve.tables c page slot new v kept.lists kept.pool

  emptied : used_in (slots_on new page) ≡ 0
      → now ≡ record (with_not_full was c (filter (λ other. not (nat_eq other page)) (not_full_in was c))) { pool = page ∷ was.pool }
  emptied none =
      let leaves = v.emptied none in
      let by_list : (w : Which) → v.which ≡ w → pages_in new.lists c NotFull ≡ without_number page (pages_in old.lists c NotFull) = λ w is. by w is leaves in
      let lists = open_set (classes p) old.lists new.lists c (without_number page (not_full_in was c)) class
      (by_list v.which refl ∙ ap (without_number page) (sym was_at)) (λ d ne. leaves.others d NotFull (inl ne)) in
      let pool = ap (λ (q : Pool). q.free) (v.returned none) in
      (λ i. record { pool = pool i; not_full = lists i; spare = spare })
    where
      by : (w : Which) → v.which ≡ w → LeavesList old.lists c v.which page new.lists
          → pages_in new.lists c NotFull ≡ without_number page (pages_in old.lists c NotFull)
      by NotFull is leaves = (subst (λ w. LeavesList old.lists c w page new.lists) is leaves).list
      by Full is leaves =
          let full : Contains (pages_in old.lists c Full) page = subst (λ w. Contains (pages_in old.lists c w) page) is v.listed in
          (subst (λ w. LeavesList old.lists c w page new.lists) is leaves).others c NotFull (inr (λ w. cc))
          ∙ sym (without_absent page (pages_in old.lists c NotFull) (λ there. (let e : Full ≡ NotFull = (serve.tables.lists.once c c Full NotFull page full there).1 in cc)))

  opened : used_in (slots_on new page) ≢ 0 → objects_on p m c page ≡ slots_of p c → now ≡ with_not_full was c (page ∷ not_full_in was c)
  opened some full = by v.which refl
    where
      by : (w : Which) → v.which ≡ w → now ≡ with_not_full was c (page ∷ not_full_in was c)
      by Full is =
          let f = v.opened some is in
          let lists = open_set (classes p) old.lists new.lists c (page ∷ not_full_in was c) class
          (f.joins.list ∙ ap (λ xs. page ∷ xs) (f.leaves.others c NotFull (inr (λ w. cc)) ∙ sym was_at))
          (λ d ne. f.joins.others d NotFull (inl ne) ∙ f.leaves.others d NotFull (inl ne)) in
          let pool = ap (λ (q : Pool). q.free) (v.kept some) in
          (λ i. record { pool = pool i; not_full = lists i; spare = spare })
      by NotFull is = absurd (
          let part : IsPageOf (class_table p) old page c NotFull = subst (λ w. IsPageOf (class_table p) old page c w) is here in
          let few = part.fills.1 in let e = counts in
          omega arith)

  stays : used_in (slots_on new page) ≢ 0 → objects_on p m c page ≢ slots_of p c → now ≡ was
  stays some part = by v.which refl
    where
      by : (w : Which) → v.which ≡ w → now ≡ was
      by NotFull is =
          let lists = ap (partly_full_lists (classes p)) (v.still some is) in
          let pool = ap (λ (q : Pool). q.free) (v.kept some) in
          (λ i. record { pool = pool i; not_full = lists i; spare = spare })
      by Full is = absurd (
          let full : IsPageOf (class_table p) old page c Full = subst (λ w. IsPageOf (class_table p) old page c w) is here in
          let all = full.fills in let e = counts in
          part (omega arith))

  pub vacated_order : now ≡ slot_freed p m was c page
  vacated_order = elim (cases_eq (used_in (slots_on new page)) 0) [
    | inl none ↦ (
        let e : objects_on p m c page ≡ 1 = (let n = counts in let l = less in omega arith) in
        rw (eq_yes _ _ e) (emptied none))
    | inr some ↦ (
        let e : objects_on p m c page ≢ 1 = λ one. (let n = counts in let l = less in some (omega arith)) in
        elim (cases_eq (objects_on p m c page) (slots_of p c)) [
          | inl full ↦ rw (eq_no _ _ e, eq_yes _ _ full) (opened some full)
          | inr part ↦ rw (eq_no _ _ e, eq_no _ _ part) (stays some part)
        ])
  ]

-- The object that moves into a freed slot is the next one to move.
module _ {p : Paging} (ok : IsPaging p) {m : Held} {t : Tables} (serve : FitPagesShared p t) (o : Occupies p m t) {c : ℕ} (class : c < classes p) (spare : List ℕ)
    {a : ℕ} (f : IsFiller (class_table p) t.maps t.lists c a) where
  filler_listed : Contains (pages_in t.lists c NotFull) f.page
  filler_listed = front_listed (pages_in t.lists c NotFull) f.page f.front

  filler_bit : IsUsed t c f.page f.slot
  filler_bit = record { of = inr filler_listed; used = f.used }

  none_below : (s : ℕ) → s < f.slot → ¬ IsTaken m (address_of p c f.page s)
  none_below s lt (q, y, there, is) =
      let first = position-Some (λ used. used) (slots_on t f.page) f.slot false f.least in
      let inside : s < length (slots_on t f.page) = (let l = first.0 in omega arith) in
      let page_in = listed_page (class_table p) t serve.tables c f.page NotFull filler_listed in
      let long = (placed_in (class_table p) t serve.tables c f.page NotFull filler_listed).slots in
      let at = address_is_slot p ok c class f.page s (let e = serve.pages in omega arith) (omega arith) in
      let on : page_of p y.place ≡ f.page = ap (page_of p) is ∙ at.1 in
      let u = o.stands q y there in
      let of : IsOf t (class_at p y) f.page = (used_along t (class_at p y) (class_at p y) (page_of p y.place) f.page _ _ refl on refl u).of in
      let is_c = one_class (class_table p) t serve.tables (class_at p y) c f.page of (inr filler_listed) in
      let slot : slot_at (class_table p) (class_at p y) y.place ≡ s = ap (λ d. slot_at (class_table p) d y.place) is_c
      ∙ ap (slot_at (class_table p) c) is ∙ at.2 in
      let w = used_along t (class_at p y) c (page_of p y.place) f.page _ s is_c on slot u in
      not_both true refl (sym w.used ∙ slice_get-get_or (slots_on t f.page) s false inside ∙ ap Some (first.2 s lt))

  pub filler_next : (y : Placed) → y.place ≡ a → IsNextToMove p m (order_of (classes p) t spare) c y
  filler_next y at = record {
    page = f.page;
    slot = f.slot;
    rest = drop 1 (pages_in t.lists c NotFull);
    front = open_at (classes p) t spare c class ∙ front_is (pages_in t.lists c NotFull) f.page f.front;
    least = record {
      taken = (let w = stands_at p ok t serve m o c f.page f.slot filler_bit in (w.0, w.1, w.2, w.4));
      least = none_below;
    };
    address = at ∙ f.address;
  }

-- The steps of taking a slot, by the tables and by the order.
module _ {p : Paging} {m : Held} {t : Tables} (serve : FitPagesShared p t) (o : Occupies p m t) {c : ℕ} (class : c < classes p) (spare : List ℕ) where
  pub steps_same : (a : ℕ) (new : Tables) → TakesAt (class_table p) t c a new
      → table_steps (class_table p) t c ≡ order_steps p m (order_of (classes p) t spare) c
  steps_same a new taken = elim taken.taken [
    | inl on ↦ (
        let listed = front_listed (pages_in t.lists c NotFull) taken.page on.front in
        let first = front_is (pages_in t.lists c NotFull) taken.page on.front in
        let counts : objects_on p m c taken.page ≡ used_in (slots_on t taken.page) = o.counted c taken.page (inr listed) in
        let by_table : table_steps (class_table p) t c ≡ (if nat_eq (used_in (slots_on t taken.page) + 1) (slots_of p c) then 13 else 5) =
        rw (table_steps, first) refl in
        let by_order : order_steps p m (order_of (classes p) t spare) c ≡ (if nat_eq (objects_on p m c taken.page + 1) (slots_of p c) then 13 else 5) =
        rw (order_steps, open_at (classes p) t spare c class ∙ first) refl in
        by_table ∙ ap (λ n. if nat_eq (n + 1) (slots_of p c) then 13 else 5) (sym counts) ∙ sym by_order)
    | inr (zero', on) ↦ (
        let by_table : table_steps (class_table p) t c ≡ 11 = rw (table_steps, on.none, on.front.0) refl in
        let by_order : order_steps p m (order_of (classes p) t spare) c ≡ 11 = rw (order_steps, open_at (classes p) t spare c class ∙ on.none) refl in
        by_table ∙ sym by_order)
  ]

  -- the steps of freeing a slot, by the tables and by the order
  pub drop_same : (page : ℕ) → IsOf t c page → table_drop t page ≡ order_drop p m c page
  drop_same page of =
      let counts : objects_on p m c page ≡ used_in (slots_on t page) = o.counted c page of in
      let long : length (slots_on t page) ≡ slots_of p c = (of_list (class_table p) t serve.tables c page of).1.slots in
      ap (λ n. drop_steps n (length (slots_on t page))) (sym counts) ∙ ap (drop_steps (objects_on p m c page)) long

  -- the steps of freeing the slot of the object that moves, by the tables and by the order
  pub fill_same : (page : ℕ) → slice_get (pages_in t.lists c NotFull) 0 ≡ Some page
      → table_fill t c ≡ order_fill p m (order_of (classes p) t spare) c
  fill_same page front =
      let first = front_is (pages_in t.lists c NotFull) page front in
      let counts : objects_on p m c page ≡ used_in (slots_on t page) = o.counted c page (inr (front_listed (pages_in t.lists c NotFull) page front)) in
      let by_table : table_fill t c ≡ fill_steps (used_in (slots_on t page)) = rw (table_fill, first) refl in
      let by_order : order_fill p m (order_of (classes p) t spare) c ≡ fill_steps (objects_on p m c page) =
      rw (order_fill, open_at (classes p) t spare c class ∙ first) refl in
      by_table ∙ ap fill_steps (sym counts) ∙ sym by_order

-- in the lists of a heap without objects no class has a partly full page
pub open_empty : (n classes pages : ℕ) → partly_full_lists n (empty_lists classes pages) ≡ replicate n []
open_empty n classes pages = same_lists _ _ (long n (empty_lists classes pages) ∙ sym (length-replicate n [])) (λ k d lt. (
    let l = long n (empty_lists classes pages) in
    get_or-map-range_with_len (λ c. pages_in (empty_lists classes pages) c NotFull) 0 n k k d (omega arith) (omega arith)
    ∙ none (2 * classes) (2 * k + 1)
    ∙ sym (get_or-replicate n k [] d (omega arith))))
  where
    none : (count i : ℕ) → get_or (replicate {A = List ℕ} count []) i [] ≡ []
    none count i = elim (cases_lt i count) [
      | inl lt ↦ get_or-replicate count i [] [] lt
      | inr past ↦ (let len = length-replicate {A = List ℕ} count [] in get_or_past (replicate {A = List ℕ} count []) i [] (omega arith))
    ]
