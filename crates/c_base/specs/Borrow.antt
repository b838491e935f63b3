-- For `HeapBlock::lend`, which borrows the open heap that a `HeapBlock` owns: when the borrow ends, the `HeapBlock` has the same address, and
-- the heap the state in which the borrow leaves it.
use denote.RattleType.{RattleType}
use Rattle.std.specs.Prelude.{Some}
use Rattle.std.specs.Borrow.{Fml, Lends, MutBor}
use Rattle.c_base.specs.declared.block.HeapBlock.{HeapBlock}
use Rattle.c_base.specs.contracts.block.HeapBlock.{the_row}

-- the `HeapBlock` p, at the same address, after the heap there got the state h
abbrev pub with_heap : {T : Type 0} → HeapBlock T → T → HeapBlock T
with_heap p h = record { at = p.at; held = Some h }

-- s is the borrow of the `HeapBlock`, r that of the heap there, of type T: when r ends, the `HeapBlock` has the same address, and the heap has the state in which r leaves
-- it. `Lends` of the standard library states this: its last argument computes the `HeapBlock` from the state in which r leaves the heap. `the_row` is its type.
abbrev pub LendsPlace : (T : RattleType) → MutBor (HeapBlock T.Denot) → MutBor T.Denot → Fml
LendsPlace T s r = Lends (the_row T) T s r (with_heap s.now)
