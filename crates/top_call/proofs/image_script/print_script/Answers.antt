use Rattle.cf_session.specs.Apply.{run_at}
use Rattle.top_call.proofs.PrintLemmas.{opening_cut, opening_then}
use Rattle.top_call.proofs.image_script.print_script.Goals as goal

pub returns-in-Err : goal.returns-in-Err
returns-in-Err g c =
    opening_cut (run_at c.args.session.now (g.H.Manager.state c.args.heap.now)) _ _ _ c.in-Err.failed c.requires.settings c.in-Err.ensures

pub returns : goal.returns
returns g c =
    opening_then (run_at c.args.session.now (g.H.Manager.state c.args.heap.now)) _ _ _ _ c.put_objects.result c.requires.settings
    c.in-Ok.ensures c.put_objects.ensures
