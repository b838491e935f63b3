use Rattle.std.proofs.Common.{arith, ◌-◌, ◌≤◌, ◌^◌, ◌≡◌, ap}
use Rattle.std.proofs.lemmas.Nat.{pow_pos}
use Rattle.std.proofs.lemmas.Nat.Bits.{ones_shr}
use Rattle.slot_bitmap.proofs.bits.ones.Goals as goal

pub returns : goal.returns
returns c =
    let few : 64 - c.args.count ≤ 64 = omega arith in
    let back : 64 - (64 - c.args.count) ≡ c.args.count = omega (arith, c.requires.few) in
    omega (arith, ones_shr 64 (64 - c.args.count) few, ap (λ k. 2 ^ k) back, pow_pos c.args.count)
