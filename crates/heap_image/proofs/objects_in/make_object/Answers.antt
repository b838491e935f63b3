use Rattle.id_table.proofs.CallerLemmas.{unnumbered_by_id}
use Rattle.id_table.specs.Sessions.{run_at}
use Rattle.page_model.specs.Held.{objects}
use Rattle.heap_image.proofs.StepLemmas.{made_counts, made_or_not}
use Rattle.heap_image.proofs.objects_in.make_object.Goals as goal

pub malloc-requires-clause-fresh : goal.malloc-requires-clause-fresh
malloc-requires-clause-fresh g c = unnumbered_by_id (g.N.Namer.state c.args.names.now).ids (objects (g.H.Manager.state c.args.heap.now).held) c.args.id
    c.requires.fresh

pub returns : goal.returns
returns g c =
    let old = run_at (g.N.Namer.state c.args.names.now) (g.H.Manager.state c.args.heap.now) in
    let new = run_at (g.N.Namer.state c.malloc.new.self) (g.H.Manager.state c.malloc.new.heap) in
    let m = made_or_not old new c.requires.loading c.malloc.ensures.going c.args.id c.args.n c.requires.fresh c.requires.few c.malloc.result
    c.malloc.ensures.step in
    record {
      test = m.0;
      made = m.1;
      counts = made_counts old new c.requires.loading c.malloc.ensures.going c.args.id c.args.n c.requires.fresh c.requires.few c.malloc.result
          c.malloc.ensures.step;
      refused = m.2;
    }
