use Rattle.id_table.proofs.CallerLemmas.{numbered_by_id}
use Rattle.id_table.specs.Sessions.{run_at}
use Rattle.page_model.specs.Held.{objects}
use Rattle.heap_image.proofs.StepLemmas.{freed, freed_counts}
use Rattle.heap_image.proofs.objects_in.free_object.Goals as goal

pub free-requires-clause-live : goal.free-requires-clause-live
free-requires-clause-live g c = numbered_by_id (g.N.Namer.state c.args.names.now).ids (objects (g.H.Manager.state c.args.heap.now).held) c.args.id
    c.requires.live.0 c.requires.live.1

pub returns : goal.returns
returns g c =
    let old = run_at (g.N.Namer.state c.args.names.now) (g.H.Manager.state c.args.heap.now) in
    let new = run_at (g.N.Namer.state c.free.new.self) (g.H.Manager.state c.free.new.heap) in
    record {
      counts = freed_counts old new c.requires.loading c.free.ensures.going c.args.id c.free.ensures.step;
      frees = freed old new c.requires.loading c.free.ensures.going c.args.id c.free.ensures.step;
    }
