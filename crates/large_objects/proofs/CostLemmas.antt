-- The steps of the calls of an inner manager that it can't refuse, from its own bounds and its order; that it does accesses within a live object; and sums of
-- such steps over the parts of an object.
use Rattle.std.proofs.Common.{◌≡◌, ℕ, ◌+◌, ◌-◌, ◌*◌, ◌/◌, ◌%◌, ◌^◌, ◌<◌, ◌≤◌, Bool, true, false, min, List, Some, None, length, arith, sym, ◌∙◌, ap, refl, subst, inl, inr}
use Rattle.std.specs.Prelude.{Option, Result, Ok, Err, ◌&&◌, if◌then◌else◌, is_some, nat_eq, sum_by}
use Rattle.std.proofs.Math.Nat.{div-add-mod, mod-lt}
use Rattle.std.proofs.lemmas.Nat.{le-div, mul-le}
use Rattle.std.proofs.lemmas.Bool.{cases_eq, cases_lt, eqb-true}
use Rattle.std.specs.FinMap.{get}
use Rattle.cf_base.proofs.Tests.{eq_no, le_no}
use Rattle.std.specs.List.{range_with_len}
use Rattle.cf_base.proofs.Ranges.{sum_next, sum_range_same}
use Rattle.step_ledger.specs.Counting.{RoseAtMost, RoseBy}
use Rattle.cf_base.specs.Classes.{need}
use Rattle.cf_base.specs.declared.results.AccessFault.{AccessFault}
use Rattle.cf_base.specs.declared.results.Freed.{Freed}
use Rattle.cf_base.specs.declared.results.Handle.{Handle}
use Rattle.cf_base.specs.declared.results.NotLive.{NotLive}
use Rattle.cf_base.specs.declared.kind.Kind.{Kind}
use Rattle.page_model.specs.Held.{objects}
use Rattle.page_model.specs.Image.{slot_for}
use Rattle.page_model.specs.Order.{Order}
use Rattle.page_model.specs.Paging.{Paging, class_for}
use Rattle.page_model.proofs.CallerLemmas.{between_multiples, bytes_held, bytes_missing, slot_fits}
use Rattle.cf_model.specs.Bounds.{Bounds, ByOwn}
use Rattle.cf_model.specs.Costs.{TakesAtMost, access_bound, block_free_bound, free_bound, words_touched}
use Rattle.cf_model.specs.Families.{IsPaged}
use Rattle.cf_model.specs.Ordered.{Follows, FreeByOrder, FreeInOrder, IsOrderedFree, IsOrderedMalloc, KeepsPromise, MallocByOrder, MallocInOrder}
use Rattle.cf_model.specs.State.{HeapState, paging_in}
use Rattle.cf_model.specs.Steps.{IsFreeStep, IsReadAnswer, IsWriteStep, Position, slot_in}
use Rattle.large_objects.specs.InnerCalls.{HasInner, IsReadyInner}
use Rattle.large_objects.specs.LargeCosts.{AreInnerCosts, ByCosts, FollowFrom, InnerCosts, bytes_in_part, handle_steps, inner_free_steps, inner_malloc_steps, object_free_steps}
use Rattle.large_objects.specs.LargeCosts.{object_malloc_steps, page_free_steps, page_malloc_steps, parts_access_steps, parts_free_steps, parts_malloc_steps, slots_with}
use Rattle.large_objects.specs.InnerObjects.{part_count, part_length, spine_bytes}
use Rattle.large_objects.proofs.OrderedCosts.{own_page_free, own_page_malloc}
use Rattle.large_objects.proofs.InnerSteps.{inner_no_fault, keeps_pages, not_both, page_small}
use Rattle.std.proofs.lemmas.Option.{same_Some}

-- of a manager with pages the first of two bounds holds
pub takes_paged : (kind : Kind) (old new n m : ℕ) → IsPaged kind → TakesAtMost kind old new n m → RoseAtMost old new n
takes_paged kind old new n m paged takes = rw (paged, TakesAtMost) at takes

-- the steps that follow for one state of a manager follow for a later one
pub follow_on : (most : Option Bounds) (s t : HeapState) (c : InnerCosts) → t.kind ≡ s.kind → KeepsPromise s t → AreInnerCosts s most c → AreInnerCosts t most c
follow_on None s t c kind promise follow = follow
follow_on (Some b) s t c kind promise follow =
    subst (λ (k : Kind). FollowFrom k (is_some t.order) b c) (sym kind) (subst (λ ordered. FollowFrom s.kind ordered b c) (sym promise) follow)

pub malloc_costs : (most : Option Bounds) (s t : HeapState) (n : ℕ) (h : Handle) (old new : ℕ) → IsReadyInner s → need n ≤ s.profile.page_words
    → IsOrderedMalloc s n (Ok h) t → new ≡ old + t.cost → ByOwn most (λ b. RoseAtMost old new (b.malloc (Ok h)))
    → ByCosts s most (λ c. RoseAtMost old new (inner_malloc_steps c (paging_in s) n))
malloc_costs None s t n h old new ready fits ordered took own c follow = absurd follow
malloc_costs (Some b) s t n h old new ready fits ordered took own c follow =
    by s.order t.order refl (nat_eq (slots_with (paging_in s) n) 1) refl ordered (follow.malloc (slots_with (paging_in s) n) h)
  where
    by : (was now : Option Order) → s.order ≡ was → (alone : Bool) → nat_eq (slots_with (paging_in s) n) 1 ≡ alone → Follows (MallocByOrder s n (Ok h) t) was now
        → (if is_some was && alone then page_malloc_steps s.kind else b.malloc (Ok h)) ≤ inner_malloc_steps c (paging_in s) n
        → RoseAtMost old new (inner_malloc_steps c (paging_in s) n)
    by None now is alone e f most = record { kept = own.kept; bound = (let l = own.bound in omega arith) }
    by (Some o) now is false e f most = record { kept = own.kept; bound = (let l = own.bound in omega arith) }
    by (Some o) None is true e f most = absurd f
    by (Some o) (Some o') is true e f most =
        let m : MallocInOrder s n (Ok h) t o o' = rw (ready.pages, MallocByOrder) at f in
        let cost = m.cost ∙ own_page_malloc s ready o is n h fits (eqb-true (slots_with (paging_in s) n) 1 e) in
        record { kept = own.kept; bound = omega arith }

pub totals_cost : (most : Option Bounds) (s t : HeapState) (old new : ℕ) → ByOwn most (λ b. RoseBy old new (b.totals_exact s)) → ByCosts t most (λ c. new ≡ old)
totals_cost None s t old new own c follow = absurd follow
totals_cost (Some b) s t old new own c follow = (let none = follow.totals s in let low = own.kept in let high = own.bound in omega arith)

-- a write within a live object is done
pub write_done : (old new : HeapState) (position : Position) (bytes : List ℕ) (r : Result Unit AccessFault) → HasInner old position.number position.from (length bytes)
    → IsWriteStep old position bytes r new → (u : Unit {0}) × (r ≡ Ok u)
write_done old new position bytes (Ok u) has step = (u, refl)
write_done old new position bytes (Err e) has (fault, same) = absurd (inner_no_fault old position (length bytes) has e fault)

pub read_done : (s : HeapState) (position : Position) (room out : List ℕ) (r : Result Unit AccessFault) → HasInner s position.number position.from (length room)
    → IsReadAnswer s position room r out → (u : Unit {0}) × (r ≡ Ok u)
read_done s position room out (Ok u) has answer = (u, refl)
read_done s position room out (Err e) has (fault, same) = absurd (inner_no_fault s position (length room) has e fault)

pub few_touched : (from count : ℕ) → access_bound from count ≤ 64 + count
few_touched from count = elim (cases_eq count 0) [
  | inl none ↦ rw none (omega arith)
  | inr some ↦ (
      let touched : words_touched from count ≡ (from % 8 + count + 7) / 8 = (let e : nat_eq count 0 ≡ false = eq_no count 0 some in rw e refl) in
      omega arith)
]

pub access_few : (old new from count : ℕ) → RoseAtMost old new (access_bound from count) → RoseAtMost old new (64 + count)
access_few old new from count rose = record { kept = rose.kept; bound = (let l = rose.bound in let f = few_touched from count in omega arith) }

pub access_costs : (most : Option Bounds) (s : HeapState) (old new from count : ℕ) (r : Result Unit AccessFault) → ((u : Unit {0}) × (r ≡ Ok u)) → old + count < 2 ^ 63 + 2 ^ 32
    → RoseAtMost old new (64 + count) → ByOwn most (λ b. RoseBy old new (b.access from count r)) → ByCosts s most (λ c. new ≡ old + c.access from count)
access_costs None s old new from count r done low rose own c follow = absurd follow
access_costs (Some b) s old new from count r done low rose own c follow =
    let e : b.access from count r ≡ c.access from count = ap (λ x. b.access from count x) done.1 ∙ follow.access from count done.0 in
    let l = rose.bound in
    elim (cases_lt (old + b.access from count r) (2 ^ 64)) [
      | inl fits ↦ own.exact fits ∙ ap (λ n. old + n) e
      | inr past ↦ (let capped = own.capped (omega arith) (omega arith) in absurd (omega arith))
    ]

pub free_few : (before after : HeapState) (h : ℕ) (r : Result Freed NotLive) (old new : ℕ) → IsReadyInner before → IsFreeStep before h r after
    → TakesAtMost before.kind old new (free_bound r) (block_free_bound r) → RoseAtMost old new (2 ^ 25)
free_few before after h (Ok freed) old new ready step takes =
    let rose = takes_paged before.kind old new _ _ ready.pages takes in
    let slot : freed.slot_words ≡ slot_for (paging_in before) (length step.object.bytes) = rw (ready.pages, slot_in) at step.slot in
    let kept = keeps_pages before ready in
    let at = kept.sound.slots h step.object step.found in
    let fits = slot_fits (paging_in before) kept.paging (class_for (paging_in before) (length step.object.bytes)) at.class in
    let small = page_small before ready in
    record { kept = rose.kept; bound = (let l = rose.bound in omega arith) }
free_few before after h (Err e) old new ready step takes =
    let rose = takes_paged before.kind old new _ _ ready.pages takes in
    record { kept = rose.kept; bound = (let l = rose.bound in omega arith) }

-- the slot of the freed object, by its length
pub free_costs : (most : Option Bounds) (s t : HeapState) (h : ℕ) (r : Result Freed NotLive) (old new : ℕ) → IsReadyInner s → IsFreeStep s h r t
    → IsOrderedFree s h r t → new ≡ old + t.cost → ByOwn most (λ b. RoseAtMost old new (b.free r))
    → ByCosts s most (λ c. (v : List ℕ) → get (objects s.held) h ≡ Some v → RoseAtMost old new (inner_free_steps c (paging_in s) (length v)))
free_costs None s t h r old new ready step ordered took own c follow v found = absurd follow
free_costs (Some b) s t h (Err e) old new ready (none, same) ordered took own c follow v found =
    absurd (not_both (objects s.held) h v found (bytes_missing s.held h none))
free_costs (Some b) s t h (Ok freed) old new ready step ordered took own c follow v found =
    let same = same_Some step.object.bytes v (sym (bytes_held s.held h step.object step.found) ∙ found) in
    subst (λ (w : List ℕ). RoseAtMost old new (inner_free_steps c (paging_in s) (length w))) same
    (subst (λ words. RoseAtMost old new (c.free (slots_with (paging_in s) (length step.object.bytes)) words)) (rw (ready.pages, slot_in) at step.slot)
    (by (slots_with (paging_in s) (length step.object.bytes)) refl s.order t.order refl (nat_eq (slots_with (paging_in s) (length step.object.bytes)) 1) refl
    ordered (follow.free (slots_with (paging_in s) (length step.object.bytes)) freed)))
  where
    by : (k : ℕ) → slots_with (paging_in s) (length step.object.bytes) ≡ k → (was now : Option Order) → s.order ≡ was → (alone : Bool) → nat_eq k 1 ≡ alone
        → Follows (FreeByOrder s h (Ok freed) t) was now
        → (if is_some was && alone then page_free_steps s.kind freed.slot_words else b.free (Ok freed)) ≤ c.free k freed.slot_words
        → RoseAtMost old new (c.free k freed.slot_words)
    by k k_is None now is alone e f most = record { kept = own.kept; bound = (let l = own.bound in omega arith) }
    by k k_is (Some o) now is false e f most = record { kept = own.kept; bound = (let l = own.bound in omega arith) }
    by k k_is (Some o) None is true e f most = absurd f
    by k k_is (Some o) (Some o') is true e f most =
        let m : FreeInOrder s h (Ok freed) t o o' = rw (ready.pages, FreeByOrder) at f in
        let few = own_page_free s ready o is h freed t step (k_is ∙ eqb-true k 1 e) in
        let cost = m.cost in
        record { kept = own.kept; bound = omega arith }

sum_past : (f : ℕ → ℕ) (i n : ℕ) → n ≤ i → sum_by f (range_with_len i (n - i)) ≡ 0
sum_past f i n le = (let e : n - i ≡ 0 = omega arith in rw e refl)

-- the steps of freeing, or of making, the parts from part i on
abbrev pub parts_free_from : InnerCosts → Paging → ℕ → ℕ → ℕ → ℕ
parts_free_from c p u n i = sum_by (λ j. handle_steps c j + inner_free_steps c p (part_length u n j)) (range_with_len i (part_count u n - i))

abbrev pub parts_malloc_from : InnerCosts → Paging → ℕ → ℕ → ℕ → ℕ
parts_malloc_from c p u n i = sum_by (λ j. inner_malloc_steps c p (part_length u n j) + handle_steps c j) (range_with_len i (part_count u n - i))

pub free_next : (c : InnerCosts) (p : Paging) (u n i : ℕ) → i < part_count u n
    → parts_free_from c p u n i ≡ handle_steps c i + inner_free_steps c p (part_length u n i) + parts_free_from c p u n (i + 1)
free_next c p u n i below = sum_next (λ j. handle_steps c j + inner_free_steps c p (part_length u n j)) i (part_count u n) below

pub free_past : (c : InnerCosts) (p : Paging) (u n i : ℕ) → part_count u n ≤ i → parts_free_from c p u n i ≡ 0
free_past c p u n i past = sum_past (λ j. handle_steps c j + inner_free_steps c p (part_length u n j)) i (part_count u n) past

pub free_first : (c : InnerCosts) (p : Paging) (u n : ℕ) → parts_free_from c p u n 0 ≡ parts_free_steps c p u n
free_first c p u n = (let e : part_count u n - 0 ≡ part_count u n = omega arith in rw e refl)

pub malloc_first : (c : InnerCosts) (p : Paging) (u n : ℕ) → parts_malloc_from c p u n 0 ≡ parts_malloc_steps c p u n
malloc_first c p u n = (let e : part_count u n - 0 ≡ part_count u n = omega arith in rw e refl)

pub malloc_next : (c : InnerCosts) (p : Paging) (u n i : ℕ) → i < part_count u n
    → parts_malloc_from c p u n i ≡ inner_malloc_steps c p (part_length u n i) + handle_steps c i + parts_malloc_from c p u n (i + 1)
malloc_next c p u n i below = sum_next (λ j. inner_malloc_steps c p (part_length u n j) + handle_steps c j) i (part_count u n) below

pub malloc_past : (c : InnerCosts) (p : Paging) (u n i : ℕ) → part_count u n ≤ i → parts_malloc_from c p u n i ≡ 0
malloc_past c p u n i past = sum_past (λ j. inner_malloc_steps c p (part_length u n j) + handle_steps c j) i (part_count u n) past

pub malloc_long : (c : InnerCosts) (p : Paging) (u n : ℕ) → u < n
    → object_malloc_steps c p u n ≡ inner_malloc_steps c p (spine_bytes u n) + parts_malloc_steps c p u n
malloc_long c p u n long = rw (le_no n u long) refl

pub free_long : (c : InnerCosts) (p : Paging) (u n : ℕ) → u < n → object_free_steps c p u n ≡ parts_free_steps c p u n + inner_free_steps c p (spine_bytes u n)
free_long c p u n long = rw (le_no n u long) refl

-- the steps of an access of no byte; and of one or more: those in the first part that has one, and then those of the bytes that are left
pub access_none : (c : InnerCosts) (u from : ℕ) → parts_access_steps c u from 0 ≡ 0
access_none c u from = refl

module _ (c : InnerCosts) (u from left count : ℕ) (some : 0 < u) (more : 0 < left) (few : count ≡ min left (u - from % u)) where
  abbrev i : ℕ
  i = from / u

  place : u * (from / u) + from % u ≡ from
  place = div-add-mod from u

  inside : from % u < u
  inside = mod-lt from some

  next_place : u * (from / u + 1) ≡ u * (from / u) + u
  next_place = omega arith

  begins : from / u < (from + left - 1) / u + 1
  begins = (let p = place in let t : from / u * u ≡ u * (from / u) = omega arith in
      let le = le-div (from / u) (from + left - 1) u some (omega arith) in omega arith)

  abbrev steps_in : ℕ → ℕ → ℕ → ℕ
  steps_in at n j = handle_steps c j + c.access (at - u * j) (bytes_in_part u at n j)

  in_first : steps_in from left (from / u) ≡ handle_steps c (from / u) + c.access (from % u) count
  in_first =
      let p = place in let l = inside in
      let a : from - u * (from / u) ≡ from % u = omega arith in
      let b : min u (from + left - u * (from / u)) - from % u ≡ count = omega arith in
      ap (λ k. handle_steps c (from / u) + c.access k (min u (from + left - u * (from / u)) - k)) a ∙ ap (λ n. handle_steps c (from / u) + c.access (from % u) n) b

  in_later : (j : ℕ) → from / u + 1 ≤ j → count < left → steps_in from left j ≡ steps_in (from + count) (left - count) j
  in_later j le some_left =
      let m : u * (from / u + 1) ≤ u * j = mul-le u (from / u + 1) u j (omega arith) le in
      let p = place in let l = inside in let t = next_place in
      let a : from - u * j ≡ from + count - u * j = omega arith in
      let b : from + left ≡ from + count + (left - count) = omega arith in
      ap (λ k. handle_steps c j + c.access k (min u (from + left - u * j) - k)) a
      ∙ ap (λ n. handle_steps c j + c.access (from + count - u * j) (min u (n - u * j) - (from + count - u * j))) b

  rest : sum_by (steps_in from left) (range_with_len (from / u + 1) ((from + left - 1) / u + 1 - (from / u + 1))) ≡ parts_access_steps c u (from + count) (left - count)
  rest = elim (cases_lt count left) [
    | inl some_left ↦ (
        let p = place in let l = inside in let t : (from / u + 1) * u ≡ u * (from / u) + u = omega arith in
        let q : (from + count) / u ≡ from / u + 1 = between_multiples (from + count) (from / u + 1) u some (omega arith) (omega arith) in
        let e : nat_eq (left - count) 0 ≡ false = eq_no (left - count) 0 (λ z. absurd (omega arith)) in
        let s : from + count + (left - count) - 1 ≡ from + left - 1 = omega arith in
        sum_range_same (steps_in from left) (steps_in (from + count) (left - count)) (from / u + 1) ((from + left - 1) / u + 1 - (from / u + 1))
        (λ j low high. in_later j low some_left)
        ∙ sym (rw e (rw s (rw q refl))))
    | inr all ↦ (
        let p = place in let l = inside in let t : from / u * u ≡ u * (from / u) = omega arith in
        let q : (from + left - 1) / u ≡ from / u = between_multiples (from + left - 1) (from / u) u some (omega arith) (omega arith) in
        let z : left - count ≡ 0 = omega arith in
        let n : (from + left - 1) / u + 1 - (from / u + 1) ≡ 0 = omega arith in
        ap (λ k. sum_by (steps_in from left) (range_with_len (from / u + 1) k)) n ∙ sym (ap (λ k. parts_access_steps c u (from + count) k) z))
  ]

  pub access_next : parts_access_steps c u from left ≡ handle_steps c (from / u) + c.access (from % u) count + parts_access_steps c u (from + count) (left - count)
  access_next =
      let e : nat_eq left 0 ≡ false = eq_no left 0 (λ z. absurd (omega arith)) in
      let whole : parts_access_steps c u from left ≡ sum_by (steps_in from left) (range_with_len (from / u) ((from + left - 1) / u + 1 - from / u)) = rw e refl in
      let first = sum_next (steps_in from left) (from / u) ((from + left - 1) / u + 1) begins in
      let f = in_first in let r = rest in omega arith

-- For the loops of `write_long` and `read_long`, of `total` bytes from byte `at` on: `done` of them are done, and the steps of the others are still to come.
module _ (c : InnerCosts) (u at total start : ℕ) where
  pub access_first : start + parts_access_steps c u (at + 0) (total - 0) ≡ start + parts_access_steps c u at total
  access_first =
      let a : at + 0 ≡ at = omega arith in let b : total - 0 ≡ total = omega arith in
      ap (λ n. start + parts_access_steps c u n (total - 0)) a ∙ ap (λ n. start + parts_access_steps c u at n) b

  pub access_more : (done n asked before after : ℕ) → 0 < u → 0 < n → done + n ≤ total → n ≡ min (total - done) (u - (at + done) % u) → asked ≡ n
      → before + parts_access_steps c u (at + done) (total - done) ≡ start + parts_access_steps c u at total
      → after ≡ before + (handle_steps c ((at + done) / u) + c.access ((at + done) % u) asked)
      → after + parts_access_steps c u (at + (done + n)) (total - (done + n)) ≡ start + parts_access_steps c u at total
  access_more done n asked before after some more few is asked_is so_far took =
      let next = access_next c u (at + done) (total - done) n some (omega arith) is in
      let a : at + done + n ≡ at + (done + n) = omega arith in
      let b : total - done - n ≡ total - (done + n) = omega arith in
      let left : parts_access_steps c u (at + done + n) (total - done - n) ≡ parts_access_steps c u (at + (done + n)) (total - (done + n)) =
      ap (λ k. parts_access_steps c u k (total - done - n)) a ∙ ap (parts_access_steps c u (at + (done + n))) b in
      let same = ap (c.access ((at + done) % u)) asked_is in
      omega arith

  pub access_past : (done now : ℕ) → total ≤ done → now + parts_access_steps c u (at + done) (total - done) ≡ start + parts_access_steps c u at total
      → now ≡ start + parts_access_steps c u at total
  access_past done now past so_far =
      let z : total - done ≡ 0 = omega arith in
      let none = ap (parts_access_steps c u (at + done)) z in let nothing = access_none c u (at + done) in
      omega arith
