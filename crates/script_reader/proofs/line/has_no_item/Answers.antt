use Rattle.script_reader.proofs.SilentLines.{silent_at, silent_gaps}
use Rattle.script_reader.proofs.line.has_no_item.Goals as goal

pub returns-in-Some : goal.returns-in-Some
returns-in-Some c = silent_at c.args.text.now _ c.in-Some.ensures

pub returns-in-None : goal.returns-in-None
returns-in-None c = silent_gaps c.args.text.now c.in-None.ensures
