use Rattle.top_call.proofs.OwnOutcomes.{own_runs_in_part}
use Rattle.top_call.proofs.laws.a_cut_stops_between_two_managers.Goals as goal

pub returns : goal.returns
returns c = λ kinds before replies mid item front end run part. own_runs_in_part kinds before replies mid item front end run part
