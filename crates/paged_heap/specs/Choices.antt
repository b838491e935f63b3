-- For `malloc`, `free` and `resize`: each uses the number and the slot, and moves the object, that the order lists next. No public clause cites this module.
use Rattle.std.specs.Prelude.{ℕ, IfOk, IfSome, Result}
use Rattle.cf_base.specs.declared.results.Freed.{Freed}
use Rattle.cf_base.specs.declared.results.Handle.{Handle}
use Rattle.cf_base.specs.declared.results.Refusal.{Refusal}
use Rattle.cf_base.specs.declared.results.Resized.{Resized}
use Rattle.page_model.specs.Order.{FreeFollows, MallocFollows, ResizeFollows}
use Rattle.page_model.specs.Steps.{Request}
use Rattle.cf_model.specs.Answers.{place_of}
use Rattle.cf_model.specs.Steps.{number_of}
use Rattle.paged_heap.specs.Heap.{Heap}
use Rattle.paged_heap.specs.Layout.{held_in, order_in, paging_at, state_of}

-- a malloc of `bytes` bytes that succeeds uses the number and the slot that the order of the heap `old` lists next; the order changes to that of the heap `new`
abbrev pub MallocChooses : Heap → ℕ → Result Handle Refusal → Heap → Type 0
MallocChooses old bytes answer new = IfOk answer (λ q. IfSome (place_of (state_of new) q.0)
    (λ a. MallocFollows (paging_at old) (held_in old) (record { number = q.0; length = bytes }) a (order_in old) (order_in new)))

-- if a free of object q moves an object, it is the one that the order of the heap `old` lists next; in the order of the heap `new` the freed number is next
abbrev pub FreeChooses : Heap → ℕ → Freed → Heap → Type 0
FreeChooses old q freed new = FreeFollows (paging_at old) (held_in old) q (number_of freed.moved) (order_in old) (order_in new)

-- a resize to another class takes the next slot of that class, then frees the old slot as a free does; a resize within the class leaves the order unchanged
abbrev pub ResizeChooses : Heap → Request → Resized → Heap → Type 0
ResizeChooses old asked done new =
    ResizeFollows (paging_at old) (held_in old) asked (record { held = held_in new; moved = number_of done.moved }) (order_in old) (order_in new)
