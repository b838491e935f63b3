-- For the clauses `ordered` and `order`: the lists of an open heap are an order of its objects, with the job's slot as one more object (`IsOrderBeside`).
use Rattle.std.proofs.Common.{◌≡◌, ℕ, ◌+◌, ◌<◌, List, Option, Some, None, length, arith, ◌∙◌}
use Rattle.std.specs.List.{Contains}
use Rattle.std.specs.FinMap.{get, len}
use Rattle.cf_base.proofs.Maps.{len_fresh}
use Rattle.page_model.specs.Held.{Held}
use Rattle.page_slots.proofs.CallerLemmas.{order_is}
use Rattle.slice_model.specs.declared.job_slot.JobSlot.{JobSlot}
use Rattle.slice_model.specs.State.{Plan, job_slot, placeholder, with_slot}
use Rattle.slice_model.specs.Ordered.{IsOrderBeside, numbers_beside}
use Rattle.slice_model.proofs.CallerLemmas.{get_beside, no_placeholder}
use Rattle.sliced_heap.specs.Heap.{Heap}
use Rattle.sliced_heap.specs.Layout.{IsValid, plan_of, sliced_order_in, sliced_state_of}
use Rattle.sliced_heap.proofs.Facts.{held_len, no_place, paging_ok}

-- the spare numbers are those that neither an object nor the placeholder of a job has
module _ (plan : Plan) (m : Held) (none : get m plan.proxies ≡ None) (spare : List ℕ) where
  free_beside : (o : Option JobSlot) → ((q : ℕ) → Contains spare q → (q < plan.proxies) × (get m q ≡ None)) → (q : ℕ) → Contains spare q
      → (q < numbers_beside plan o) × (get (with_slot plan m o) q ≡ None)
  free_beside None free q there = free q there
  free_beside (Some k) free q there = (let f = free q there in let lt = f.0 in (omega arith, get_beside plan m (Some k) q f.0 ∙ f.1))

  all_beside : (o : Option JobSlot) → length spare + len m ≡ plan.proxies → length spare + len (with_slot plan m o) ≡ numbers_beside plan o
  all_beside None all = all
  all_beside (Some k) all = (let more = len_fresh m plan.proxies (placeholder plan.paging k) none in omega arith)

pub order_ok : (h : Heap) → IsValid h → IsOrderBeside (plan_of h) (sliced_state_of h) (sliced_order_in h)
order_ok h k =
    let many = k.numbers in
    let none = no_placeholder (plan_of h) (sliced_state_of h).held k.kept.numbers in
    order_is (paging_ok h k) k.serve k.occupied (numbers_beside (plan_of h) (job_slot h.job)) h.proxies.free
    (free_beside (plan_of h) (sliced_state_of h).held none h.proxies.free (job_slot h.job)
    (λ q among. (let lt = k.handles.free_below q among in omega arith, no_place h k q (k.handles.not_live q among))))
    k.handles.once
    (all_beside (plan_of h) (sliced_state_of h).held none h.proxies.free (job_slot h.job)
    (let all = k.handles.counted in let l = held_len h k in omega arith))
