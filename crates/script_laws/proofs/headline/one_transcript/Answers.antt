use Rattle.script_laws.proofs.OneTranscript.{one_shown}
use Rattle.script_laws.proofs.headline.one_transcript.Goals as goal

pub returns : goal.returns
returns c = λ kind items replies last paged ones less run. one_shown kind items replies last paged ones less run
