use Rattle.top_call.proofs.OneScript.{run_once}
use Rattle.top_call.proofs.laws.a_run_in_order_is_printed.Goals as goal

pub returns : goal.returns
returns c = run_once
