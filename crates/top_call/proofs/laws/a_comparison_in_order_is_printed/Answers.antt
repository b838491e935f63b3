use Rattle.top_call.proofs.OneScript.{comparison_once, replies_once}
use Rattle.top_call.proofs.laws.a_comparison_in_order_is_printed.Goals as goal

pub returns-clause-printed : goal.returns-clause-printed
returns-clause-printed c = comparison_once

pub returns-clause-one : goal.returns-clause-one
returns-clause-one c = replies_once
