use Rattle.script_laws.proofs.Claims.{headline_met}
use Rattle.script_laws.proofs.headline.the_headline.Goals as goal

pub returns : goal.returns
returns c = λ kind items replies last run. headline_met kind items replies last run
