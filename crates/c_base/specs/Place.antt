-- For `LendableHeap`, the struct that a caller in C has for its heap: the heap that it owns, and the struct when a borrow of that heap ends.
use denote.RattleType.{RattleType}
use Rattle.std.specs.Prelude.{refl, true, false}
use Rattle.std.specs.Borrow.{Fml, Lends, MutBor}
use Rattle.c_base.specs.Borrow.{with_heap}
use Rattle.c_base.specs.CallerHeap.{CallerHeap, heap_of}
use Rattle.c_base.specs.declared.lendable.LendableHeap.{LendableHeap}
use Rattle.c_base.specs.declared.loan.Lendable.{Ghosts}
use Rattle.c_base.specs.contracts.lendable.LendableHeap.{the_row}

-- the heap of the struct: closed, open or lent
abbrev pub caller_heap : {T S : Type 0} → LendableHeap T S → CallerHeap T
caller_heap n = heap_of n.place.held n.loan.heap n.loan.words n.last

-- s is the borrow of the struct, r that of its heap: when r ends, the struct is open, and has the heap as r leaves it. `Lends` of the standard library states
-- this: its last argument computes the struct from the state h in which r leaves the heap. `the_row` is the type of the struct.
abbrev pub LendsHeap : (T S : RattleType) (g : Ghosts T.Denot S.Denot) → MutBor (LendableHeap T.Denot S.Denot) → MutBor T.Denot → Fml
LendsHeap T S g s r = Lends (the_row T S g) T s r (λ h. record {
  place = with_heap s.now.place h;
  loan = s.now.loan;
  last = s.now.last;
  is_open = true;
  is_lent = false;
  shown = refl;
  lent_shown = refl;
  same = refl;
})
