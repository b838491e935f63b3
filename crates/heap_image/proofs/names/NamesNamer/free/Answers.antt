use Rattle.std.proofs.Common.{◌∙◌, ap, sym}
use Rattle.id_table.specs.Sessions.{run_at}
use Rattle.id_table.specs.declared.counters.Counters.{Counters}
use Rattle.id_table.proofs.CallerLemmas.{going_inside}
use Rattle.heap_image.proofs.Kept.{free_going, moved_bound}
use Rattle.heap_image.proofs.names.NamesNamer.free.Goals as goal

pub returns-clause-going : goal.returns-clause-going
returns-clause-going g c = free_going (run_at _ (g.H.Manager.state c.args.heap.now)) _
    (going_inside _ _ _ c.self.view_is c.requires.going) c.in-Ok.ensures.rules c.args.id c.in-Some.h.0 _ _ _ c.in-Ok.freed
    (sym c.in-Some.ensures.found) c.in-Ok.ensures.step c.in-Ok.ensures.bound c.in-Ok.ensures.cost c.unbind.ensures
    (ap (λ (k : Counters). k.bound) c.count_move.ensures ∙ moved_bound _ c.in-Ok.freed.moved c.in-Ok.freed.slot_words)
