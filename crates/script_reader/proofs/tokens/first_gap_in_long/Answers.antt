use Rattle.script_reader.specs.Lines.{is_gap}
use Rattle.script_reader.proofs.Searches.{first_is_position}
use Rattle.script_reader.proofs.tokens.first_gap_in_long.Goals as goal

pub returns : goal.returns
returns c = first_is_position is_gap c.args.text.now _ c.memchr2.ensures
