-- For `NphHeap` of `sliced.rt`, the struct that a caller in C has for its heap, and for `LendableHeap`, which has the same
-- fields in the same memory: each with the fields of the other, the heap in an `NphHeap`, and the borrow of an `NphHeap`
-- as a `LendableHeap`.
use Rattle.std.specs.Borrow.{Fml, Lends, MutBor}
use Rattle.c_base.specs.CallerHeap.{CallerHeap}
use Rattle.c_base.specs.Place as base
use Rattle.c_base.specs.contracts.lendable.LendableHeap.{the_row as heap_row}
use Rattle.c_base.specs.declared.lendable.LendableHeap.{LendableHeap}
use Rattle.norphuen_sliced.specs.HeldState.{SlicedHeldState}
use Rattle.norphuen_sliced.specs.Sliced.{loose_sliced, open_sliced}
use Rattle.norphuen_sliced.specs.contracts.loose.HeldLendableLooseHeld.TheImpl.{ghosts}
use Rattle.norphuen_sliced.specs.contracts.sliced.NphHeap.{the_row}
use Rattle.norphuen_sliced.specs.declared.loose.LooseHeld.{LooseHeld}
use Rattle.norphuen_sliced.specs.declared.sliced.NphHeap.{NphHeap}

-- the `LendableHeap` with the fields of the `NphHeap` n
abbrev pub sliced_inner_of : NphHeap → LendableHeap SlicedHeldState LooseHeld
sliced_inner_of n = record {
  place = record { at = n.place.at; held = n.place.held };
  loan = record { of = record {}; heap = n.loan.heap; block = n.loan.block; words = n.loan.words };
  last = n.last;
  is_open = n.is_open;
  is_lent = n.is_lent;
  shown = n.shown;
  lent_shown = n.lent_shown;
  same = n.same;
}

-- the `NphHeap` with the fields of the `LendableHeap` h
abbrev pub sliced_outer_of : LendableHeap SlicedHeldState LooseHeld → NphHeap
sliced_outer_of h = record {
  place = record { at = h.place.at; held = h.place.held };
  loan = record { of = record {}; heap = h.loan.heap; block = h.loan.block; words = h.loan.words };
  last = h.last;
  is_open = h.is_open;
  is_lent = h.is_lent;
  shown = h.shown;
  lent_shown = h.lent_shown;
  same = h.same;
}

-- the heap in the `NphHeap` n: closed, open or lent
abbrev pub sliced_heap_in : NphHeap → CallerHeap SlicedHeldState
sliced_heap_in n = base.caller_heap (sliced_inner_of n)

-- s is the borrow of an `NphHeap`, r that of the `LendableHeap` with its fields: when r ends, the `NphHeap` has the fields
-- that r then has
abbrev pub LendsSlicedInner : MutBor NphHeap → MutBor (LendableHeap SlicedHeldState LooseHeld) → Fml
LendsSlicedInner s r = Lends the_row (heap_row open_sliced loose_sliced ghosts) s r sliced_outer_of
