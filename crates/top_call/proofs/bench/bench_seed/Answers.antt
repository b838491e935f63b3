use Rattle.std.proofs.Common.{◌∙◌, ap, sym}
use Rattle.cf_model.specs.State.{closed_state}
use Rattle.cf_session.specs.Apply.{run_at}
use Rattle.top_call.proofs.Outcomes.{bench_done}
use Rattle.top_call.proofs.bench.bench_seed.Goals as goal

pub returns-in-Moving : goal.returns-in-Moving
returns-in-Moving g c =
    let by = c.run_bench.ensures in
    bench_done c.args.choice _ _ c.run_bench.result c.in-Ok.session _
    (run_at c.run_bench.new.session c.run_bench.new.heap.state) c.in-Ok.ensures
    (c.closed-own.ensures.state ∙ ap closed_state (sym c.in-Moving.is)) by.promise by.outcome by.sink

pub returns-in-NonMoving : goal.returns-in-NonMoving
returns-in-NonMoving g c =
    let by = c.run_bench-in-NonMoving.ensures in
    bench_done c.args.choice _ _ c.run_bench-in-NonMoving.result c.in-Ok.session _
    (run_at c.run_bench-in-NonMoving.new.session c.run_bench-in-NonMoving.new.heap.state) c.in-Ok.ensures
    (c.closed-own-in-NonMoving.ensures.state ∙ ap closed_state (sym c.in-NonMoving.is)) by.promise by.outcome by.sink

pub returns-in-Tlsf : goal.returns-in-Tlsf
returns-in-Tlsf g c =
    let by = c.run_bench-in-Tlsf.ensures in
    bench_done c.args.choice _ _ c.run_bench-in-Tlsf.result c.in-Ok.session _
    (run_at c.run_bench-in-Tlsf.new.session c.run_bench-in-Tlsf.new.heap) c.in-Ok.ensures
    (c.closed-own-in-Tlsf.ensures ∙ ap closed_state (sym c.in-Tlsf.is)) by.promise by.outcome by.sink

pub returns : goal.returns
returns g c =
    let by = c.run_bench-in-HalfFit.ensures in
    bench_done c.args.choice _ _ c.run_bench-in-HalfFit.result c.in-Ok.session _
    (run_at c.run_bench-in-HalfFit.new.session c.run_bench-in-HalfFit.new.heap) c.in-Ok.ensures
    (c.closed-own-in-HalfFit.ensures ∙ ap closed_state (sym c.in-HalfFit.is)) by.promise by.outcome by.sink
