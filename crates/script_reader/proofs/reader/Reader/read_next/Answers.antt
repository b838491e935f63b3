use Rattle.script_reader.proofs.AnswerLemmas.{answers_then}
use Rattle.script_reader.proofs.reader.Reader.read_next.Goals as goal

pub returns-in-Some-next_line : goal.returns-in-Some-next_line
returns-in-Some-next_line c = answers_then _ _ _ _ c.next_line.ensures.passes c.read_first_line.ensures

pub returns-in-None : goal.returns-in-None
returns-in-None c = answers_then _ _ _ _ c.next_line.ensures.passes c.without_line.ensures
