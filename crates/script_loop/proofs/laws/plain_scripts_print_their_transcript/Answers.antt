use Rattle.script_loop.proofs.Consequences.{transcript_shown}
use Rattle.script_loop.proofs.laws.plain_scripts_print_their_transcript.Goals as goal

pub returns : goal.returns
returns c = transcript_shown
