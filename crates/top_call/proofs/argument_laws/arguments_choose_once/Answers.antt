use Rattle.top_call.proofs.ReadAlike.{one_choice}
use Rattle.top_call.proofs.argument_laws.arguments_choose_once.Goals as goal

pub returns : goal.returns
returns c = one_choice
