use Rattle.top_call.proofs.BrokenStays.{broken_stays}
use Rattle.top_call.proofs.image_laws.a_broken_rule_stays_broken.Goals as goal

pub returns : goal.returns
returns c = broken_stays
