use Rattle.script_reader.specs.Owned.{owned_command}
use Rattle.large_session.proofs.RunInvariant.{kind_kept}
use Rattle.large_session.proofs.mode_handler.LargeHandlerModeHandlerLargeHeap.answer.Goals as goal

pub returns-clause-plan : goal.returns-clause-plan
returns-clause-plan g c = kind_kept _ _ (owned_command c.args.command) c.in_ok-apply_ref.ensures.step.0.reply c.requires.going c.in_ok-apply_ref.ensures.step.0.turns

pub returns-in_err-apply_ref-clause-plan : goal.returns-in_err-apply_ref-clause-plan
returns-in_err-apply_ref-clause-plan g c = kind_kept _ _ (owned_command c.args.command) c.in_err-apply_ref.ensures.step.turns.reply c.requires.going
    c.in_err-apply_ref.ensures.step.turns.turn
