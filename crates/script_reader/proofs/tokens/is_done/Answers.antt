use Rattle.script_reader.proofs.FirstNumber.{all_gaps}
use Rattle.script_reader.proofs.tokens.is_done.Goals as goal

pub returns : goal.returns
returns c = all_gaps c.args.text.now _ c.gaps.ensures.value
