use Rattle.std.proofs.Common.{◌∙◌, ap, refl}
use Rattle.std.specs.Prelude.{Ok}
use Rattle.std.specs.FinMap.{get}
use Rattle.id_table.specs.Sessions.{SessionState, run_at}
use Rattle.id_table.proofs.CallerLemmas.{going_inside}
use Rattle.heap_image.proofs.Kept.{malloc_going}
use Rattle.heap_image.proofs.names.NamesNamer.malloc.Goals as goal

pub returns-in-Ok-clause-going : goal.returns-in-Ok-clause-going
returns-in-Ok-clause-going g c = malloc_going (run_at _ (g.H.Manager.state c.args.heap.now)) _
    (going_inside _ _ _ c.self.view_is c.requires.going) c.in-Ok.ensures.rules c.args.id c.args.bytes _ _ (Ok c.in-Ok.h)
    (ap (λ (s : SessionState). get s.ids c.args.id) c.self.view_is ∙ c.requires.fresh) c.in-Ok.ensures.step c.in-Ok.ensures.bound c.in-Ok.ensures.cost
    c.bind.ensures refl
