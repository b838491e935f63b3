use Rattle.page_model.proofs.Writing.{length-written, written_before, written_inside, written_behind}
use Rattle.page_model.proofs.words.a_part_is_written.Goals as goal

pub returns-clause-len : goal.returns-clause-len
returns-clause-len c = length-written

pub returns-clause-before : goal.returns-clause-before
returns-clause-before c = written_before

pub returns-clause-inside : goal.returns-clause-inside
returns-clause-inside c = written_inside

pub returns-clause-behind : goal.returns-clause-behind
returns-clause-behind c = written_behind
