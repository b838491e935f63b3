use Rattle.top_call.proofs.OneScript.{closed_leave_none}
use Rattle.top_call.proofs.laws.closed_managers_leave_no_choice.Goals as goal

pub returns : goal.returns
returns c = closed_leave_none
