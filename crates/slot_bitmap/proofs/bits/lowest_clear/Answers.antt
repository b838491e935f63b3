use Rattle.std.proofs.Common.{w64}
use Rattle.std.proofs.lemmas.Nat.Bits.{bit_at-trailing_ones}
use Rattle.slot_bitmap.proofs.bits.lowest_clear.Goals as goal

pub returns : goal.returns
returns c = rw c.trailing_ones.ensures (
    let h = bit_at-trailing_ones w64 c.args.word c.requires in
    record { within = h.0; at = h.1; below = h.2 })
