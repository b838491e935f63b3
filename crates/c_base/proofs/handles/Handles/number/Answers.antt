-- The low bits of a handle.
use Rattle.std.proofs.Common.{◌≡◌, ◌-◌, ◌%◌, List, ℕ, length, bit_and, ap, ◌∙◌, arith}
use Rattle.c_base.proofs.Generations.{low_bits}
use Rattle.c_base.proofs.handles.Handles.number.Goals as goal

pub returns-clause-value : goal.returns-clause-value
returns-clause-value c =
    let here : c.self.inside.of.items ≡ c.args.self.now = (let v = c.self.view_is in cc) in
    let mask : c.self.inside.mask ≡ length c.self.inside.of.items - 1 = (let m = c.self.invariant.mask_is in omega (arith, m)) in
    ap (bit_and c.args.handle) mask ∙ low_bits c.args.handle (length c.self.inside.of.items) c.self.invariant.count
    ∙ ap (λ (hs : List ℕ). c.args.handle % length hs) here
