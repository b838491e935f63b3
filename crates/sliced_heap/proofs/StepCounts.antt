-- For the clauses on steps: the test of `MustMove`, the steps of a slice that leaves words of the job and of one that does the last, those of finding and
-- freeing the slot of the next object to move, and the bounds of a malloc, a free and a slice.
use Rattle.std.proofs.Common.{◌≡◌, ℕ, ◌+◌, ◌-◌, ◌<◌, ◌≤◌, List, [], ◌∷◌, Option, None, Some, Result, Ok, Err, Bool, true, false, arith, refl, subst, inl, inr}
use Rattle.std.specs.Prelude.{if◌then◌else◌, nat_eq, slice_get}
use Rattle.std.proofs.lemmas.Bool.{cases_eq, cases_lt}
use Rattle.std.specs.FinMap.{get}
use Rattle.cf_base.specs.declared.results.Handle.{Handle}
use Rattle.cf_base.proofs.Tests.{and_false, eq_no, eq_yes, le_no, le_yes, lt_no, lt_yes}
use Rattle.page_model.specs.Arrangement.{class_at, not_full_pages, objects_on}
use Rattle.page_model.specs.Held.{Held, Placed}
use Rattle.page_model.specs.Order.{Order, drop_steps, fill_steps, not_full_in, steps_to_fill}
use Rattle.page_model.specs.Paging.{Paging, bound_of, class_for, page_of, slot_words, slots_of}
use Rattle.page_model.specs.Steps.{MustMove}
use Rattle.page_model.proofs.CallerLemmas.{drop_few, fill_few, take_few}
use Rattle.slice_model.specs.declared.refusals.SliceFault.{SliceFault}
use Rattle.slice_model.specs.declared.refusals.SliceRefusal.{SliceRefusal}
use Rattle.slice_model.specs.declared.refusals.SliceRefusal.TheVariants as refusal
use Rattle.slice_model.specs.declared.job_slot.JobSlot.{JobSlot}
use Rattle.slice_model.specs.State.{Job, Plan, Sliced, Idle, Clear, Move, occupied, placeholder, with_slot}
use Rattle.step_ledger.specs.Counting.{RoseAtMost, RoseBy}
use Rattle.sliced_heap.specs.declared.open_heap.OpenHeap.{OpenHeap}
use Rattle.sliced_heap.specs.Heap.{sliced_seen}
use Rattle.sliced_heap.specs.Layout.{plan_of, sliced_order_in, sliced_state_of}
use Rattle.sliced_heap.specs.Shown.{SlicedState, sliced_shown}
use Rattle.sliced_heap.specs.Costs.{end_cost, job_cost, must_move, part_cost, removing_cost, slice_cost, sliced_free_cost, sliced_malloc_cost, words_steps}

module _ (p : Paging) (m : Held) (x : Placed) where
  abbrev here : ℕ
  here = objects_on p m (class_at p x) (page_of p x.place)

  abbrev size : ℕ
  size = slots_of p (class_at p x)

  abbrev partly : ℕ
  partly = not_full_pages p m (class_at p x)

  pub must_yes : MustMove p m x → must_move p m x ≡ true
  must_yes must =
      let a = eq_yes here size must.full in
      let b = lt_yes 1 size must.several in
      let c = eq_yes partly (bound_of p (class_at p x)) must.many in
      rw (must_move, a, b, c) refl

  pub must_no : ¬ MustMove p m x → must_move p m x ≡ false
  must_no stays = elim (cases_eq here size) [
    | inr ne ↦ (let a = eq_no here size ne in rw (must_move, a) refl)
    | inl full ↦ elim (cases_lt 1 size) [
      | inr few ↦ (let b = lt_no 1 size few in rw (must_move, b) (and_false (nat_eq here size)))
      | inl several ↦ elim (cases_eq partly (bound_of p (class_at p x))) [
        | inl many ↦ absurd (stays (record { full = full; several = several; many = many }))
        | inr ne ↦ (
            let a = eq_yes here size full in
            let b = lt_yes 1 size several in
            let c = eq_no partly (bound_of p (class_at p x)) ne in
            rw (must_move, a, b, c) refl)
      ]
    ]
  ]

-- `words_steps`, if some words are left after the slice and if none is
pub words_left : (q n last : ℕ) → q < n → words_steps q n last ≡ q
words_left q n last lt = (let e = le_no n q lt in rw e refl)

pub words_last : (q n last : ℕ) → n ≤ q → words_steps q n last ≡ n + last
words_last q n last le = (let e = le_yes n q le in rw e refl)

words_within : (q n last most : ℕ) → last ≤ most → words_steps q n last ≤ q + most
words_within q n last most le = elim (cases_lt q n) [
  | inl on ↦ (let x = words_left q n last on in omega arith)
  | inr all ↦ (let x = words_last q n last all in omega arith)
]

-- finding and freeing the slot of the next object to move takes 2 steps more than freeing it
pub fill_is : (used n : ℕ) → used < n → fill_steps used ≡ 2 + drop_steps used n
fill_is used n lt = (let e = eq_no used n (λ same. absurd (omega arith)) in rw e (by_test (nat_eq used 1)))
  where
    by_test : (a : Bool) → (if a then 12 else 7) ≡ 2 + (if a then 10 else 5)
    by_test true = refl
    by_test false = refl

-- the steps by the page in front of a list
pub fill_front : (pages : List ℕ) (page : ℕ) (f : ℕ → ℕ) → slice_get pages 0 ≡ Some page → (elim pages [ [] ↦ 0 | first ∷ rest ↦ f first ]) ≡ f page
fill_front [] page f e = absurd (let z : None ≡ Some page = e in cc)
fill_front (first ∷ rest) page f e = (let z : Some first ≡ Some page = e in let is : first ≡ page = cc in rw is refl)

-- the steps of freeing the next object's slot depend on the numbers of objects alone
pub fill_counted : (p : Paging) (m n : Held) (o : Order) (c : ℕ) → ((page : ℕ) → objects_on p m c page ≡ objects_on p n c page)
    → steps_to_fill p m o c ≡ steps_to_fill p n o c
fill_counted p m n o c same = by (not_full_in o c)
  where
    by : (pages : List ℕ) → ◌≡◌ {A = ℕ} (elim pages [ [] ↦ 0 | page ∷ rest ↦ fill_steps (objects_on p m c page) ])
        (elim pages [ [] ↦ 0 | page ∷ rest ↦ fill_steps (objects_on p n c page) ])
    by [] = refl
    by (page ∷ rest) = (let e = same page in rw e refl)

-- ---- bounds

end_within : (plan : Plan) (m : Held) (k : JobSlot) → end_cost plan m k ≤ 14
end_within plan m k = by (must_move plan.paging (with_slot plan m (Some k)) (placeholder plan.paging k))
    (drop_few (objects_on plan.paging (with_slot plan m (Some k)) k.class (page_of plan.paging k.address)) (slots_of plan.paging k.class))
  where
    by : (a : Bool) {n : ℕ} → n ≤ 13 → (if a then 6 else 1 + n) ≤ 14
    by true le = omega arith
    by false le = omega arith

part_within : (plan : Plan) (m : Held) (k : JobSlot) → part_cost plan m k ≤ plan.quantum + 14
part_within plan m k = words_within plan.quantum (slot_words plan.paging k.class - k.done) (end_cost plan m k) 14 (end_within plan m k)

malloc_within : (plan : Plan) (s : Sliced) (o : Order) (bytes : ℕ) (r : Result Handle SliceRefusal) → sliced_malloc_cost plan s o bytes r ≤ 17
malloc_within plan s o bytes (Ok h) = (let t = take_few plan.paging (occupied plan s) o (class_for plan.paging bytes) in omega arith)
malloc_within plan s o bytes (Err refusal.Size) = omega arith
malloc_within plan s o bytes (Err refusal.Proxy) = omega arith
malloc_within plan s o bytes (Err refusal.Space) = omega arith
malloc_within plan s o bytes (Err refusal.Busy) = omega arith

slice_within : (plan : Plan) (s : Sliced) → slice_cost plan s ≤ 15 + plan.quantum
slice_within plan s = by s.job
  where
    by : (j : Job) → job_cost plan s.held j ≤ 15 + plan.quantum
    by Idle = omega arith
    by (Clear k) = (let w = part_within plan s.held k in omega arith)
    by (Move h k) = (let w = part_within plan s.held k in omega arith)

removing_within : (plan : Plan) (s : Sliced) (o : Order) (x : Placed) → removing_cost plan s o x ≤ 22 + plan.quantum
removing_within plan s o x =
    let c = class_at plan.paging x in
    let f = fill_few plan.paging s.held o (class_at plan.paging x) in
    let d = drop_few (objects_on plan.paging s.held (class_at plan.paging x) (page_of plan.paging x.place)) (slots_of plan.paging (class_at plan.paging x)) in
    by (must_move plan.paging s.held x) plan.quantum
    (words_within plan.quantum (slot_words plan.paging c) (1 + (steps_to_fill plan.paging s.held o c - 2)) 11 (omega arith))
    (words_within plan.quantum (slot_words plan.paging c)
    (1 + drop_steps (objects_on plan.paging s.held c (page_of plan.paging x.place)) (slots_of plan.paging c)) 14 (omega arith))
  where
    by : (a : Bool) (n : ℕ) {v w : ℕ} → v ≤ n + 11 → w ≤ n + 14 → (if a then 11 + v else 5 + w) ≤ 22 + n
    by true n v w = omega arith
    by false n v w = omega arith

free_within : (plan : Plan) (s : Sliced) (o : Order) (h : ℕ) (f : Option SliceFault) → sliced_free_cost plan s o h f ≤ 23 + plan.quantum
free_within plan s o h (Some e) = omega arith
free_within plan s o h None = by (get s.held h)
  where
    by : (x : Option Placed) → 1 + (elim x [ None ↦ 0 | Some x ↦ removing_cost plan s o x ]) ≤ 23 + plan.quantum
    by None = omega arith
    by (Some x) = (let w = removing_within plan s o x in omega arith)

-- a count that rose by exactly m steps rose by at most n, if m is at most n
rose_within : (a b m n : ℕ) → m ≤ n → RoseBy a b m → RoseAtMost a b n
rose_within a b m n le rose = (let k = rose.kept in let l = rose.bound in record { kept = omega arith; bound = omega arith })

-- the bounds of the public calls, where s is the state that contracts show of the open heap o
module _ (o : OpenHeap) (s : SlicedState) (is : sliced_shown (Some o) ≡ s) (a b : ℕ) where
  pub malloc_bound : (bytes : ℕ) (r : Result Handle SliceRefusal)
      → RoseBy a b (sliced_malloc_cost (plan_of (sliced_seen o)) (sliced_state_of (sliced_seen o)) (sliced_order_in (sliced_seen o)) bytes r) → RoseAtMost a b 17
  malloc_bound bytes r = rose_within a b _ 17 (malloc_within (plan_of (sliced_seen o)) (sliced_state_of (sliced_seen o)) (sliced_order_in (sliced_seen o)) bytes r)

  pub free_bound : (h : ℕ) (f : Option SliceFault) → RoseBy a b (sliced_free_cost (plan_of (sliced_seen o)) (sliced_state_of (sliced_seen o)) (sliced_order_in (sliced_seen o)) h f)
      → RoseAtMost a b (23 + s.quantum)
  free_bound h f rose = subst (λ (s : SlicedState). RoseAtMost a b (23 + s.quantum)) is
      (rose_within a b _ _ (free_within (plan_of (sliced_seen o)) (sliced_state_of (sliced_seen o)) (sliced_order_in (sliced_seen o)) h f) rose)

  pub slice_bound : RoseBy a b (slice_cost (plan_of (sliced_seen o)) (sliced_state_of (sliced_seen o))) → RoseAtMost a b (15 + s.quantum)
  slice_bound rose = subst (λ (s : SlicedState). RoseAtMost a b (15 + s.quantum)) is
      (rose_within a b _ _ (slice_within (plan_of (sliced_seen o)) (sliced_state_of (sliced_seen o))) rose)
