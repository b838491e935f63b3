-- For `NphHeap` of `tlsf.rt`, the struct that a caller in C has for its heap: the `LendableHeap` that it is in memory, the heap in it, and a borrow of the one
-- as the other.
use Rattle.std.specs.Borrow.{Fml, Lends, MutBor}
use Rattle.c_base.specs.CallerHeap.{CallerHeap}
use Rattle.c_base.specs.Place as base
use Rattle.c_base.specs.contracts.lendable.LendableHeap.{the_row as heap_row}
use Rattle.c_base.specs.declared.lendable.LendableHeap.{LendableHeap}
use Rattle.held_heap.specs.HeldState.{HeldState}
use Rattle.held_heap.specs.Tag.{loose_heap}
use Rattle.held_heap.specs.Tlsf.{open_heap}
use Rattle.held_heap.specs.contracts.loose_tag.HeldTlsfHeapLendableLooseTag.TheImpl.{ghosts}
use Rattle.held_heap.specs.contracts.tlsf.NphHeap.{the_row}
use Rattle.held_heap.specs.declared.loose_tag.LooseTag.{LooseTag}
use Rattle.held_heap.specs.declared.tlsf.NphHeap.{NphHeap}

-- the `LendableHeap` that the struct is in memory, field by field
abbrev pub inner_of : NphHeap → LendableHeap HeldState LooseTag
inner_of n = record {
  place = record { at = n.place.at; held = n.place.held };
  loan = record { of = record {}; heap = n.loan.heap; block = n.loan.block; words = n.loan.words };
  last = n.last;
  is_open = n.is_open;
  is_lent = n.is_lent;
  shown = n.shown;
  lent_shown = n.lent_shown;
  same = n.same;
}

-- the struct that a `LendableHeap` is in memory, field by field
abbrev pub outer_of : LendableHeap HeldState LooseTag → NphHeap
outer_of h = record {
  place = record { at = h.place.at; held = h.place.held };
  loan = record { of = record {}; heap = h.loan.heap; block = h.loan.block; words = h.loan.words };
  last = h.last;
  is_open = h.is_open;
  is_lent = h.is_lent;
  shown = h.shown;
  lent_shown = h.lent_shown;
  same = h.same;
}

-- the heap of the struct: closed, open or lent
abbrev pub heap_in : NphHeap → CallerHeap HeldState
heap_in n = base.caller_heap (inner_of n)

-- s is the borrow of the struct, r that of the `LendableHeap` in the same memory: when r ends, the struct is what r leaves
abbrev pub LendsInner : MutBor NphHeap → MutBor (LendableHeap HeldState LooseTag) → Fml
LendsInner s r = Lends the_row (heap_row open_heap loose_heap ghosts) s r outer_of
