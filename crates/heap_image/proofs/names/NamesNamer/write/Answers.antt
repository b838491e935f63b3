use Rattle.std.proofs.Common.{refl}
use Rattle.id_table.specs.Sessions.{run_at}
use Rattle.id_table.proofs.CallerLemmas.{going_inside}
use Rattle.heap_image.proofs.Kept.{write_going}
use Rattle.heap_image.proofs.names.NamesNamer.write.Goals as goal

pub returns-clause-going : goal.returns-clause-going
returns-clause-going g c = write_going (run_at _ (g.H.Manager.state c.args.heap.now)) _
    (going_inside _ _ _ c.self.view_is c.requires.going) c.in-Ok.ensures.rules c.in-Some.h.0 c.args.at c.args.bytes.now c.in-Ok.ensures.step refl
