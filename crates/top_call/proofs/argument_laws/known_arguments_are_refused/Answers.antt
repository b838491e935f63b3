use Rattle.top_call.proofs.ReadAlike.{read_as_refused}
use Rattle.top_call.proofs.argument_laws.known_arguments_are_refused.Goals as goal

pub returns : goal.returns
returns c = read_as_refused
