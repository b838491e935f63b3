use Rattle.script_laws.proofs.ReadBack.{reads_are_shown}
use Rattle.script_laws.proofs.runs.reads_give_what_was_written.Goals as goal

pub returns : goal.returns
returns c = reads_are_shown
