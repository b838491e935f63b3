use Rattle.top_call.proofs.OneScript.{output_once}
use Rattle.top_call.proofs.laws.equal_scripts_get_equal_output.Goals as goal

pub returns : goal.returns
returns c = output_once
