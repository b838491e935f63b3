use Rattle.std.proofs.Common.{arith, sym, ◌∙◌, ap}
use Rattle.std.specs.Int.{from_le_bytes, w32}
use Rattle.large_objects.specs.Large.{bytes_found, handle_at}
use Rattle.large_objects.proofs.InnerSteps.{inner_small}
use Rattle.large_objects.proofs.spine.part_handle.Goals as goal

pub overflow_mul-i : goal.overflow_mul-i
overflow_mul-i g c =
    let small = inner_small (g.H.Manager.state c.args.inner.now) c.requires.ready c.args.spine.0 c.requires.has.bytes c.requires.has.found in
    let within = c.requires.has.within in omega arith

pub returns-clause-value : goal.returns-clause-value
unfolding handle_at
returns-clause-value g c = c.from_le_bytes.ensures ∙ ap (from_le_bytes w32) (c.read_inner.ensures.value c.requires.has.bytes c.requires.has.found)
    ∙ sym (ap (λ o. handle_at (bytes_found o) c.args.i) c.requires.has.found)
