use Rattle.std.proofs.Common.{◌∙◌, ℕ, take, drop, take-append-drop, sym, arith, length-drop, true}
use Rattle.std.proofs.lemmas.List.{take_rest}
use Rattle.cf_io.proofs.Feeding.{fails_after, writes_more}
use Rattle.cf_io.proofs.writing.put_all.Goals as goal

pub rest-preserved : goal.rest-preserved
rest-preserved g c =
    let h = rw (take_rest c.args.bytes.now c.rest.at) at c.in-Ok.ensures in
    record { within = omega (arith, h.1, length-drop {A = ℕ}); wrote = writes_more _ _ _ c.args.bytes.now _ _ c.rest.invariant.wrote h.0 }

pub returns-in-Err : goal.returns-in-Err
returns-in-Err g c = record {
  part = (
    take c.rest.at c.args.bytes.now,
    drop c.rest.at c.args.bytes.now,
    sym (take-append-drop c.rest.at c.args.bytes.now),
    c.in-Err.ensures.0 ∙ c.rest.invariant.wrote.wrote,
  );
  fails = fails_after true _ _ _ _ c.rest.invariant.wrote.same c.in-Err.ensures.1;
}
