use Rattle.top_call.proofs.KnownWords.{other_manager, other_mode}
use Rattle.top_call.proofs.argument_laws.other_names_are_refused.Goals as goal

pub returns : goal.returns
returns c = record { mode = other_mode; manager = other_manager }
