use Rattle.script_reader.specs.Owned.{owned_command}
use Rattle.script_loop.proofs.Settling.{answers_settled}
use Rattle.script_loop.proofs.with_settings.WithSettingsModeHandler.answer.Goals as goal

pub returns-clause-step : goal.returns-clause-step
returns-clause-step g c =
    answers_settled g.A.ModeHandler.semantics _ _ c.args.self.now.settings _ _ (owned_command c.args.command) c.answer.result c.answer.ensures.step
