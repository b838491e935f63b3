use Rattle.top_call.proofs.ReadAlike.{same_faults, same_matches}
use Rattle.top_call.proofs.argument_laws.all_such_commands_read_alike.Goals as goal

pub returns : goal.returns
returns c = record { faults = same_faults; matches = same_matches }
