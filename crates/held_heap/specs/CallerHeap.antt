-- What a caller in C has for a heap of one manager once it is closed.
use Rattle.c_base.specs.CallerHeap.{CallerHeap, closed_with}
use Rattle.c_base.specs.Handles.{largest}
use Rattle.held_heap.specs.HeldState.{HeldState}

-- the heap after it is closed, with its largest handle, on which the handles of the next heap depend
abbrev pub closed_by : CallerHeap HeldState → CallerHeap HeldState
closed_by = closed_with (λ h. largest h.handles)
