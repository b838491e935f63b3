use Rattle.std.proofs.Common.{◌∙◌, sym}
use Rattle.script_reader.proofs.FirstLine.{line_by_end, line_by_feed, no_feed}
use Rattle.script_reader.proofs.reader.first_line.Goals as goal

pub returns-in-Some : goal.returns-in-Some
returns-in-Some c = line_by_feed _ _ _ c.in-Some.ensures

pub returns-in-None : goal.returns-in-None
returns-in-None c = line_by_end _ _ c.in-None.ensures (sym c.is_line.ensures ∙ c.if-is_line.true)

pub returns-in-None-2 : goal.returns-in-None-2
returns-in-None-2 c = (no_feed c.args.kept.now c.in-None-2.ensures, sym c.is_line.ensures ∙ c.if-is_line.false)
