use Rattle.script_loop.proofs.Settling.{opens_settled}
use Rattle.script_loop.proofs.with_settings.WithSettingsModeHandler.open.Goals as goal

pub returns-clause-opens : goal.returns-clause-opens
returns-clause-opens g c = opens_settled g.A.ModeHandler.semantics _ _ c.args.self.now.settings _ _ c.args.settings.now c.open.result c.open.ensures.opens
