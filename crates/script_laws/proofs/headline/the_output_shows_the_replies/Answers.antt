use Rattle.script_laws.proofs.Parting.{shown_by_text}
use Rattle.script_laws.proofs.headline.the_output_shows_the_replies.Goals as goal

pub returns : goal.returns
returns c = λ kind items replies others meets meet same. shown_by_text kind items replies others meets meet same
