-- What a caller in C has for a sliced heap (`CallerHeap` of `c_base`) once the heap is closed.
use Rattle.c_base.specs.CallerHeap.{CallerHeap, closed_with}
use Rattle.c_base.specs.Handles.{largest}
use Rattle.norphuen_sliced.specs.HeldState.{SlicedHeldState}

-- the heap after it is closed, with its largest handle, on which the handles of the next heap depend
abbrev pub sliced_closed_by : CallerHeap SlicedHeldState → CallerHeap SlicedHeldState
sliced_closed_by = closed_with (λ h. largest h.handles)
