use Rattle.script_loop.proofs.Settling.{wrote_settled}
use Rattle.script_loop.proofs.laws.settings_are_kept.Goals as goal

pub returns : goal.returns
returns c = wrote_settled
