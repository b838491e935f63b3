use Rattle.top_call.proofs.OwnOutcomes.{own_of, part_of, stand_of, stand_part_of}
use Rattle.top_call.proofs.laws.outcomes_are_of_each.Goals as goal

pub returns : goal.returns
returns c = record {
  whole = own_of;
  stand = stand_of;
  in_part = part_of;
  stand_in_part = stand_part_of;
}
