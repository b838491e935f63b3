use Rattle.std.proofs.Common.{◌∙◌, ap}
use Rattle.std.proofs.lemmas.Result.{err_from_is_err_and}
use Rattle.script_reader.specs.Owned.{owned_command}
use Rattle.script_laws.proofs.CallerLemmas.{step_keeps}
use Rattle.top_call.proofs.Passing.{named_cut, named_whole, turn_kind}
use Rattle.top_call.specs.SideBySide.{lead_of}
use Rattle.top_call.proofs.answer.answer_one.Goals as goal

pub returns-clause-step : goal.returns-clause-step
returns-clause-step g c =
    named_whole _ (owned_command c.args.command) c.lead_bytes.result.now _ (c.lead_bytes.ensures.value ∙ ap lead_of c.kind.ensures) c.in_ok-apply_ref.ensures.step.0

pub returns-clause-kind : goal.returns-clause-kind
returns-clause-kind g c = turn_kind _ _ (owned_command c.args.command) c.in_ok-apply_ref.ensures.step.0.reply c.requires.going c.in_ok-apply_ref.ensures.step.0.turn

pub returns-clause-promise : goal.returns-clause-promise
returns-clause-promise g c = step_keeps _ _ (owned_command c.args.command) c.in_ok-apply_ref.ensures.step.0.reply c.in_ok-apply_ref.ensures.step.0.turn.step

pub returns-in_err-apply_ref-clause-step : goal.returns-in_err-apply_ref-clause-step
returns-in_err-apply_ref-clause-step g c =
    let p = err_from_is_err_and c.from_residual.result c.from_residual.ensures.1 in rw p.1
    (named_cut _ (owned_command c.args.command) c.lead_bytes.result.now _ (c.lead_bytes.ensures.value ∙ ap lead_of c.kind.ensures)
    c.in_err-apply_ref.ensures.step)

pub returns-in_err-apply_ref-clause-kind : goal.returns-in_err-apply_ref-clause-kind
returns-in_err-apply_ref-clause-kind g c = turn_kind _ _ (owned_command c.args.command) c.in_err-apply_ref.ensures.step.reply c.requires.going c.in_err-apply_ref.ensures.step.turn

pub returns-in_err-apply_ref-clause-promise : goal.returns-in_err-apply_ref-clause-promise
returns-in_err-apply_ref-clause-promise g c = step_keeps _ _ (owned_command c.args.command) c.in_err-apply_ref.ensures.step.reply c.in_err-apply_ref.ensures.step.turn.step
