-- For `NphHeap` of `nonmoving.rt`, the struct that a caller in C has for its heap: the heap that it owns, and the struct when a borrow of that heap ends. For
-- `Place`: the `HeapBlock` that it is in memory, and a borrow of the one as the other.
use denote.RawPtr.{null_ptr}
use Rattle.std.specs.Prelude.{Some, None, refl, true}
use Rattle.std.specs.Borrow.{Fml, Lends, MutBor}
use Rattle.c_base.specs.contracts.block.HeapBlock.{the_row as block_row}
use Rattle.c_base.specs.declared.block.HeapBlock.{HeapBlock}
use Rattle.c_base.specs.CallerHeap.{CallerHeap, heap_of}
use Rattle.held_heap.specs.HeldState.{HeldState}
use Rattle.held_heap.specs.NonMoving.{open_heap}
use Rattle.held_heap.specs.declared.nonmoving.NphHeap.{NphHeap}
use Rattle.held_heap.specs.contracts.nonmoving.NphHeap.{the_row}
use Rattle.held_heap.specs.contracts.nonmoving.Place.{the_row as place_row}
use Rattle.held_heap.specs.declared.nonmoving.Place.{Place}

-- the heap of the struct: closed or open; it is never lent
abbrev pub heap_in : NphHeap → CallerHeap HeldState
heap_in n = heap_of n.place.held None null_ptr n.last

-- s is the borrow of the struct, r that of its heap: when r ends, the struct is open, and has the heap as r leaves it. `Lends` of the standard library states
-- this: its last argument computes the struct from the state h in which r leaves the heap. `the_row` is the type of the struct.
abbrev pub LendsNonMoving : MutBor NphHeap → MutBor HeldState → Fml
LendsNonMoving s r = Lends the_row open_heap s r (λ h. record { place = record { at = s.now.place.at; held = Some h }; last = s.now.last; is_open = true; shown = refl })

-- the `HeapBlock` that a `Place` is in memory, field by field
abbrev pub inner_of : Place → HeapBlock HeldState
inner_of p = record { at = p.at; held = p.held }

-- the `Place` that a `HeapBlock` is in memory, field by field
abbrev pub outer_of : HeapBlock HeldState → Place
outer_of b = record { at = b.at; held = b.held }

-- s is the borrow of the `Place`, r that of the `HeapBlock` in the same memory: when r ends, the `Place` is what r leaves
abbrev pub LendsInner : MutBor Place → MutBor (HeapBlock HeldState) → Fml
LendsInner s r = Lends place_row (block_row open_heap) s r outer_of
