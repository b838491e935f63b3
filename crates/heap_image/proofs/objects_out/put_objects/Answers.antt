use Rattle.std.proofs.Common.{◌≡◌, ◌-◌, arith, subst, sym}
use Rattle.id_table.specs.Sessions.{run_at}
use Rattle.heap_image.proofs.ObjectsOut.{CameTo, came_first, came_last, came_on, came_past, came_short}
use Rattle.heap_image.proofs.objects_out.put_objects.Goals as goal

pub put_object-requires-clause-live : goal.put_object-requires-clause-live
put_object-requires-clause-live g c = c.requires.tied.ids.named c.ids.id c.in-Some.h.0 (sym c.in-Some.ensures.found)

pub ids-init : goal.ids-init
ids-init g c = record {
  came = came_first g.W.ObjectWriter.text (run_at (g.N.Namer.state c.args.names.now) (g.H.Manager.state c.args.heap.now)) _ c.handle-first.ensures.within;
}

pub ids-preserved-in_default : goal.ids-preserved-in_default
ids-preserved-in_default g c = record {
  came = came_past g.W.ObjectWriter.text (run_at (g.N.Namer.state c.args.names.now) (g.H.Manager.state c.args.heap.now)) _ _ c.ids.id (65535 - c.ids.id) (omega arith)
      (omega arith) c.ids.invariant.came (sym c.in_default.ensures.found);
}

pub returns-in-Err : goal.returns-in-Err
returns-in-Err g c =
    let named = sym c.in-Some.ensures.found in
    let x = c.requires.tied.ids.named c.ids.id c.in-Some.h.0 named in
    came_short g.W.ObjectWriter.text (run_at (g.N.Namer.state c.args.names.now) (g.H.Manager.state c.args.heap.now)) _ _ c.ids.id (65535 - c.ids.id) (omega arith)
    (omega arith) c.ids.invariant.came c.in-Some.h.0 named x.0 x.1 _ c.in-Err.failed (c.in-Err.ensures x.0 x.1)

pub ids-preserved : goal.ids-preserved
ids-preserved g c =
    let named = sym c.in-Some.ensures.found in
    let x = c.requires.tied.ids.named c.ids.id c.in-Some.h.0 named in
    record {
      came = came_on g.W.ObjectWriter.text (run_at (g.N.Namer.state c.args.names.now) (g.H.Manager.state c.args.heap.now)) _ _ c.ids.id (65535 - c.ids.id) (omega arith)
          (omega arith) c.ids.invariant.came c.in-Some.h.0 named x.0 x.1 _ (c.in-Ok.ensures x.0 x.1);
    }

pub returns : goal.returns
returns g c = came_last g.W.ObjectWriter.text (run_at (g.N.Namer.state c.args.names.now) (g.H.Manager.state c.args.heap.now)) _ _
    (let end : c.ids.id ≡ 65536 = omega (arith, c.ids-test.false, c.ids.auto.id-end) in
    subst (CameTo g.W.ObjectWriter.text (run_at (g.N.Namer.state c.args.names.now) (g.H.Manager.state c.args.heap.now)) (g.K.Sink.state c.args.out.now)
    (g.K.Sink.state c.ids.out)) end c.ids.invariant.came)
