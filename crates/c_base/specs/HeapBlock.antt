-- For `HeapBlock`, which has the address of an open heap's block, or null: it owns that block with the heap, or nothing. R is the type of the heap.
use base.Fml.{Fml, ftrue}
use denote.RattleType.{RattleType}
use denote.RawPtr.{Ptr}
use Rattle.std.specs.Prelude.{Option, Some, None}
use Rattle.std_alloc.specs.Box.Ownership.{box_owns}
use Rattle.std.specs.contracts.prelude.GlobalAllocator.TheImpl.{ghosts}

-- at the address p is the value x of type R, in a block that the global allocator may free
abbrev pub lies_in_block : (R : RattleType) → Ptr → R.Denot → Fml
lies_in_block R p x = box_owns (ghosts.dealloc_token (record { memory = record { seal = tt } })) R p x

-- what a `HeapBlock` with the address p owns: the block with the value x, or nothing
abbrev pub place_owns : (R : RattleType) → Ptr → Option R.Denot → Fml
place_owns R p (Some x) = lies_in_block R p x
place_owns R p None = ftrue
