use Rattle.script_loop.proofs.OneManager.{step_plan}
use Rattle.script_reader.specs.Owned.{owned_command}
use Rattle.script_loop.proofs.one_manager.SessionModeHandler.answer.Goals as goal

pub returns-clause-plan : goal.returns-clause-plan
returns-clause-plan g c =
    step_plan _ _ (owned_command c.args.command) c.in_ok-apply_ref.ensures.step.0.reply c.requires.going.rules c.in_ok-apply_ref.ensures.step.0.turn.step

pub returns-in_err-apply_ref-clause-plan : goal.returns-in_err-apply_ref-clause-plan
returns-in_err-apply_ref-clause-plan g c =
    step_plan _ _ (owned_command c.args.command) c.in_err-apply_ref.ensures.step.reply c.requires.going.rules c.in_err-apply_ref.ensures.step.turn.step
