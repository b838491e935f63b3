use Rattle.std.proofs.Common.{ap, sym, ◌-◌, ◌∙◌}
use Rattle.cf_model.specs.Families.{family_of}
use Rattle.cf_model.specs.declared.usage.Usage.{Usage}
use Rattle.held_heap.proofs.FreeParts.{free_tiled}
use Rattle.held_heap.proofs.of_kind.TagHeapOfKind.free_left.Goals as goal

pub returns : goal.returns
returns g c =
    c.saturating_sub.ensures ∙ ap (λ (u : Usage). u.held - u.taken) c.usage-usage.ensures ∙ sym (free_tiled c.args.self.now (ap family_of c.requires.kind ∙ g.met.B.FitPolicy.tiled))
