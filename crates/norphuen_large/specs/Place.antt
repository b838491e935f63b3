-- For `NphHeap` of `large.rt`, the struct that a caller in C has for its heap: the `ClosableHeap` with the same fields in the same memory.
use Rattle.std.specs.Borrow.{Fml, Lends, MutBor}
use Rattle.c_base.specs.CallerHeap.{CallerHeap}
use Rattle.c_base.specs.ClosablePlace as base
use Rattle.c_base.specs.contracts.closable.ClosableHeap.{the_row as heap_row}
use Rattle.c_base.specs.declared.closable.ClosableHeap.{ClosableHeap}
use Rattle.norphuen_large.specs.HeldState.{LargeHeldState}
use Rattle.norphuen_large.specs.contracts.held.Held.{the_row as open_heap}
use Rattle.norphuen_large.specs.contracts.large.NphHeap.{the_row}
use Rattle.norphuen_large.specs.declared.large.NphHeap.{NphHeap}

-- the `ClosableHeap` that has the fields of the struct
abbrev pub large_inner_of : NphHeap → ClosableHeap LargeHeldState
large_inner_of n = record { place = record { at = n.place.at; held = n.place.held }; last = n.last; is_open = n.is_open; shown = n.shown }

-- the struct that has the fields of the `ClosableHeap`
abbrev pub large_outer_of : ClosableHeap LargeHeldState → NphHeap
large_outer_of h = record { place = record { at = h.place.at; held = h.place.held }; last = h.last; is_open = h.is_open; shown = h.shown }

-- the heap of the struct: closed or open
abbrev pub large_heap_in : NphHeap → CallerHeap LargeHeldState
large_heap_in n = base.caller_heap (large_inner_of n)

-- s is the borrow of the struct, r that of the `ClosableHeap` in the same memory: when r ends, the struct is what r leaves
abbrev pub LendsLargeInner : MutBor NphHeap → MutBor (ClosableHeap LargeHeldState) → Fml
LendsLargeInner s r = Lends the_row (heap_row open_heap) s r large_outer_of
