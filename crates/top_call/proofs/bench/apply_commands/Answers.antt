use Rattle.std.proofs.Common.{◌≡◌, ◌-◌, ◌∙◌, ◌++◌, [], ◌∷◌, ap₂, arith, refl, sym}
use Rattle.script_reader.specs.Generated.{generated}
use Rattle.script_laws.proofs.CallerLemmas.{step_keeps}
use Rattle.run_model.proofs.CallerLemmas.{step_same}
use Rattle.script_reader.specs.Owned.{owned_command}
use Rattle.top_call.proofs.Applied.{applied_all, applied_more, given_all, given_more, one_at_most}
use Rattle.top_call.proofs.bench.apply_commands.Goals as goal

pub loop-i-init : goal.loop-i-init
loop-i-init g c = record {
  done = [];
  given = (let same : c.args.count ≡ c.args.count - 0 = omega arith in ap₂ generated (sym c.new-generator.ensures) same);
  applied = record { replies = []; run = (refl, refl); ok_are = refl; refused_are = refl };
  going = c.requires;
  kind = refl;
  promise = refl;
  few = omega arith;
}

pub loop-i-preserved : goal.loop-i-preserved
loop-i-preserved g c =
    let so_far = c.loop-i.invariant in
    let command = owned_command c.next_ref-command.result in
    let answer = c.in-Ok.ensures.step in
    record {
      done = so_far.done ++ command ∷ [];
      given = given_more _ so_far.done _ _ c.args.count c.loop-i.i command (omega arith) c.next_ref-command.ensures.next so_far.given;
      applied = applied_more _ _ _ so_far.done command answer.0.reply c.in-Ok.outcome _ _ _ _ so_far.applied answer.0.turn answer.1
          c.add.ensures.ok c.add.ensures.refused;
      going = c.in-Ok.ensures.going;
      kind = (step_same _ _ command answer.0.reply so_far.going.rules answer.0.turn.step).kind ∙ so_far.kind;
      promise = step_keeps _ _ command answer.0.reply answer.0.turn.step ∙ so_far.promise;
      few = omega (arith, so_far.few, c.add.ensures.ok, c.add.ensures.refused, one_at_most c.in-Ok.outcome);
    }

pub returns-clause-applied : goal.returns-clause-applied
returns-clause-applied g c =
    let end = c.loop-i.invariant in
    applied_all _ _ end.done _ _ _ (given_all _ end.done _ c.args.count c.loop-i.i (omega arith) end.given) end.applied
