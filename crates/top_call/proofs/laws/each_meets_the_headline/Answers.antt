use Rattle.top_call.proofs.Modes.{headlines_met}
use Rattle.top_call.proofs.laws.each_meets_the_headline.Goals as goal

pub returns : goal.returns
returns c = headlines_met
