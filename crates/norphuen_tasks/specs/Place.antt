-- For `NphHeap` of `tasks.rt`, the struct that a caller in C has for its heap, and for `ClosableHeap`, which has the same
-- fields in the same memory: each with the fields of the other, the heap in an `NphHeap`, and the borrow of an `NphHeap`
-- as a `ClosableHeap`.
use Rattle.std.specs.Borrow.{Fml, Lends, MutBor}
use Rattle.c_base.specs.CallerHeap.{CallerHeap}
use Rattle.c_base.specs.ClosablePlace as base
use Rattle.c_base.specs.contracts.closable.ClosableHeap.{the_row as heap_row}
use Rattle.c_base.specs.declared.closable.ClosableHeap.{ClosableHeap}
use Rattle.norphuen_tasks.specs.TasksState.{TasksState}
use Rattle.norphuen_tasks.specs.contracts.held.HeldTasks.{the_row as open_heap}
use Rattle.norphuen_tasks.specs.contracts.tasks.NphHeap.{the_row}
use Rattle.norphuen_tasks.specs.declared.tasks.NphHeap.{NphHeap}

-- the `ClosableHeap` with the fields of the `NphHeap` n
abbrev pub tasks_inner_of : NphHeap → ClosableHeap TasksState
tasks_inner_of n = record { place = record { at = n.place.at; held = n.place.held }; last = n.last; is_open = n.is_open; shown = n.shown }

-- the `NphHeap` with the fields of the `ClosableHeap` h
abbrev pub tasks_outer_of : ClosableHeap TasksState → NphHeap
tasks_outer_of h = record { place = record { at = h.place.at; held = h.place.held }; last = h.last; is_open = h.is_open; shown = h.shown }

-- the heap in the `NphHeap` n: closed or open
abbrev pub tasks_heap_in : NphHeap → CallerHeap TasksState
tasks_heap_in n = base.caller_heap (tasks_inner_of n)

-- s is the borrow of an `NphHeap`, r that of the `ClosableHeap` with its fields: when r ends, the `NphHeap` has the fields
-- that r then has
abbrev pub LendsTasksInner : MutBor NphHeap → MutBor (ClosableHeap TasksState) → Fml
LendsTasksInner s r = Lends the_row (heap_row open_heap) s r tasks_outer_of
