use Rattle.script_laws.proofs.Exact.{headline_is_transcript}
use Rattle.script_laws.proofs.headline.at_bound_one_the_headline_is_the_transcript.Goals as goal

pub returns : goal.returns
returns c = λ kind items replies is ones none meets. headline_is_transcript kind items replies is ones none meets
