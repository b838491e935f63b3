use Rattle.script_loop.proofs.Consequences.{same_output, same_status}
use Rattle.script_loop.proofs.laws.chunks_never_matter.Goals as goal

pub returns-clause-status : goal.returns-clause-status
returns-clause-status c = same_status

pub returns-clause-output : goal.returns-clause-output
returns-clause-output c = same_output
