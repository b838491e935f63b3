use Rattle.top_call.proofs.ReadAlike.{read_as_chosen}
use Rattle.top_call.proofs.argument_laws.arguments_with_a_choice_are_read.Goals as goal

pub returns : goal.returns
returns c = read_as_chosen
