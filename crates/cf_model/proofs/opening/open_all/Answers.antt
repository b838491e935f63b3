use Rattle.std.proofs.Common.{arith, refl}
use Rattle.cf_model.proofs.Sweeping.{on_err, sweep_ends, sweep_more, sweep_stops}
use Rattle.cf_model.proofs.opening.open_all.Goals as goal

pub loop-i-preserved : goal.loop-i-preserved
loop-i-preserved g c = (
  sweep_more _ _ _ _ _ _ c.loop-i.invariant.0 (omega arith) c.index_mut.ensures.value c.in_ok-open_one.ensures.ok,
  sweep_more _ _ _ _ _ _ c.loop-i.invariant.1 (omega arith) c.index_mut.ensures.value c.in_ok-open_one.ensures.promise,
)

pub returns-in_err-open_one-clause-err : goal.returns-in_err-open_one-clause-err
returns-in_err-open_one-clause-err g c = on_err c.from_residual.result _
    (sweep_stops _ _ _ _ _ _ c.loop-i.invariant.0 (omega arith) c.index_mut.ensures.value _ c.in_err-open_one.ensures.err)

pub returns-in_err-open_one-clause-promise : goal.returns-in_err-open_one-clause-promise
returns-in_err-open_one-clause-promise g c =
    sweep_ends _ _ _ _ _ _ c.loop-i.invariant.1 (omega arith) c.index_mut.ensures.value (λ z. refl) c.in_err-open_one.ensures.promise
