-- For `NphHeap` of `images.rt`, the struct that a caller in C has for its heap: the `ClosableHeap` with the same fields in the same memory, the heap in the
-- struct, and the borrow of the struct as a `ClosableHeap`.
use Rattle.std.specs.Borrow.{Fml, Lends, MutBor}
use Rattle.c_base.specs.CallerHeap.{CallerHeap}
use Rattle.c_base.specs.ClosablePlace as base
use Rattle.c_base.specs.contracts.closable.ClosableHeap.{the_row as heap_row}
use Rattle.c_base.specs.declared.closable.ClosableHeap.{ClosableHeap}
use Rattle.id_table.specs.Sessions.{RunState}
use Rattle.norphuen_images.specs.contracts.held.HeldImages.{the_row as open_heap}
use Rattle.norphuen_images.specs.contracts.images.NphHeap.{the_row}
use Rattle.norphuen_images.specs.declared.images.NphHeap.{NphHeap}

-- the `ClosableHeap` that has the fields of the struct
abbrev pub images_inner_of : NphHeap → ClosableHeap RunState
images_inner_of n = record { place = record { at = n.place.at; held = n.place.held }; last = n.last; is_open = n.is_open; shown = n.shown }

-- the struct that has the fields of the `ClosableHeap`
abbrev pub images_outer_of : ClosableHeap RunState → NphHeap
images_outer_of h = record { place = record { at = h.place.at; held = h.place.held }; last = h.last; is_open = h.is_open; shown = h.shown }

-- the heap of the struct: closed or open
abbrev pub images_heap_in : NphHeap → CallerHeap RunState
images_heap_in n = base.caller_heap (images_inner_of n)

-- s is the borrow of the struct, r that of the `ClosableHeap` in the same memory: when r ends, the struct is what r leaves
abbrev pub LendsImagesInner : MutBor NphHeap → MutBor (ClosableHeap RunState) → Fml
LendsImagesInner s r = Lends the_row (heap_row open_heap) s r images_outer_of
