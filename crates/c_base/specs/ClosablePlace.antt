-- For `ClosableHeap`, the struct that a caller in C has for a heap that lends nothing: the heap that it owns, and the struct when a borrow of that heap ends.
use denote.RattleType.{RattleType}
use denote.RawPtr.{null_ptr}
use Rattle.std.specs.Prelude.{None, refl, true}
use Rattle.std.specs.Borrow.{Fml, Lends, MutBor}
use Rattle.c_base.specs.Borrow.{with_heap}
use Rattle.c_base.specs.CallerHeap.{CallerHeap, heap_of}
use Rattle.c_base.specs.declared.closable.ClosableHeap.{ClosableHeap}
use Rattle.c_base.specs.contracts.closable.ClosableHeap.{the_row}

-- the heap of the struct: closed or open; it is never lent
abbrev pub caller_heap : {T : Type 0} → ClosableHeap T → CallerHeap T
caller_heap n = heap_of n.place.held None null_ptr n.last

-- s is the borrow of the struct, r that of its heap: when r ends, the struct is open, and has the heap as r leaves it (as `LendsHeap` of `Place`)
abbrev pub LendsHeap : (T : RattleType) → MutBor (ClosableHeap T.Denot) → MutBor T.Denot → Fml
LendsHeap T s r = Lends (the_row T) T s r (λ h. record { place = with_heap s.now.place h; last = s.now.last; is_open = true; shown = refl })
