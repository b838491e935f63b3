use Rattle.std.proofs.Common.{w64, slice_index}
use Rattle.std.proofs.lemmas.List.{get_or_read}
use Rattle.std.proofs.lemmas.Nat.Bits.{bit_at-trailing_ones}
use Rattle.step_ledger.proofs.cells.Cells+u64.set_least_clear.Goals as goal

pub returns-clause-at : goal.returns-clause-at
returns-clause-at c =
    let read = get_or_read c.self.inside.items.items _ _ (rw (← c.self.view_is) at c.requires.cell) c.index.ensures 0 in
    rw (c.trailing_ones-bit.ensures, ← c.self.view_is, read) (
    (bit_at-trailing_ones w64 (slice_index c.self.inside.items.items c.args.i) (rw (← c.self.view_is) at c.requires.clear)).1)

pub returns-clause-below : goal.returns-clause-below
returns-clause-below c =
    let read = get_or_read c.self.inside.items.items _ _ (rw (← c.self.view_is) at c.requires.cell) c.index.ensures 0 in
    rw (c.trailing_ones-bit.ensures, ← c.self.view_is, read) (
    (bit_at-trailing_ones w64 (slice_index c.self.inside.items.items c.args.i) (rw (← c.self.view_is) at c.requires.clear)).2)
