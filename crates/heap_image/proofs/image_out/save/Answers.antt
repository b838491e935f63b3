use Rattle.id_table.specs.Sessions.{run_at}
use Rattle.heap_image.proofs.SaveLemmas.{header_cut, header_then, live_shown, profile_parts}
use Rattle.heap_image.proofs.image_out.save.Goals as goal

pub returns-in-Err : goal.returns-in-Err
returns-in-Err g c =
    let p = profile_parts _ _ c.requires.settings in
    header_cut (run_at (g.N.Namer.state c.args.names.now) (g.H.Manager.state c.args.heap.now)) c.requires.tied _ _ _ _ _ _ c.in-Err.failed p.0 p.1 p.2
    (live_shown (g.H.Manager.state c.args.heap.now) _ c.requires.moving c.totals-totals.ensures.value) c.in-Err.ensures

pub returns : goal.returns
returns g c =
    let p = profile_parts _ _ c.requires.settings in
    header_then (run_at (g.N.Namer.state c.args.names.now) (g.H.Manager.state c.args.heap.now)) c.requires.tied _ _ _ _ _ _ _ c.put_objects.result p.0 p.1 p.2
    (live_shown (g.H.Manager.state c.args.heap.now) _ c.requires.moving c.totals-totals.ensures.value) c.in-Ok.ensures c.put_objects.ensures
