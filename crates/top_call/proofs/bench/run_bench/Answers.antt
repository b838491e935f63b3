use Rattle.std.proofs.Common.{◌∙◌, [], ap, refl, subst}
use Rattle.top_call.specs.Bench.{IsTextWritten, bench_line, bench_settings}
use Rattle.top_call.specs.declared.figures.BenchFigures.{BenchFigures}
use Rattle.run_model.specs.Terms.{HeapState, led, said}
use Rattle.cf_session.specs.Apply.{run_at}
use Rattle.run_model.proofs.CallerLemmas.{begins_going}
use Rattle.top_call.proofs.BenchLemmas.{ends_bench, opened, run_of_bench, shown_figures}
use Rattle.top_call.proofs.bench.run_bench.Goals as goal

pub apply_commands-tally-requires : goal.apply_commands-tally-requires
apply_commands-tally-requires g c = begins_going (g.H.Manager.state c.args.heap.now).kind bench_settings _
    (opened _ _ _ _ c.requires c.in-Ok.ensures.ok c.in-Ok.ensures.rules refl)

pub returns-clause-outcome : goal.returns-clause-outcome
returns-clause-outcome g c =
    let begins = opened _ _ _ _ c.requires c.in-Ok.ensures.ok c.in-Ok.ensures.rules refl in
    let applied = c.apply_commands-tally.ensures.applied in
    let same = ap (λ (h : HeapState). h.kind) begins.heap in
    let run = run_of_bench (g.H.Manager.state c.args.heap.now).kind c.args.seed c.args.count _ _ _ _ begins same applied in
    let to = run_at c.apply_commands-tally.new.session (g.H.Manager.state c.apply_commands-tally.new.heap) in
    let shown = shown_figures c.args.count _ _ _ _ applied.replies to applied.ok_are applied.refused_are c.totals-totals.ensures.value c.moves.ensures in
    ends_bench c.put.result c.args.seed c.args.count _ _ _ _ (record { replies = applied.replies; run = run })
    (subst (λ (f : BenchFigures). IsTextWritten c.put.result (g.K.Sink.state c.args.sink.now).written (led [] (said (bench_line f))) (g.K.Sink.state c.put.new.sink).written)
    shown c.put.ensures.written)

pub returns-clause-kind : goal.returns-clause-kind
returns-clause-kind g c = c.apply_commands-tally.ensures.kind
    ∙ ap (λ (h : HeapState). h.kind) (opened _ _ _ _ c.requires c.in-Ok.ensures.ok c.in-Ok.ensures.rules refl).heap

pub returns-clause-promise : goal.returns-clause-promise
returns-clause-promise g c = c.apply_commands-tally.ensures.promise ∙ c.in-Ok.ensures.promise
