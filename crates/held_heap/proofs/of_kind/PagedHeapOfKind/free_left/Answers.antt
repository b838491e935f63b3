use Rattle.std.proofs.Common.{ap, sym, ◌∙◌}
use Rattle.cf_model.specs.Families.{family_of}
use Rattle.held_heap.proofs.FreeParts.{free_paged}
use Rattle.held_heap.proofs.of_kind.PagedHeapOfKind.free_left.Goals as goal

pub returns : goal.returns
returns g c = c.from.ensures ∙ c.free_pages.ensures ∙ sym (free_paged c.args.self.now.state (ap family_of c.requires.kind ∙ g.met.A.PageKind.paged))
