use Rattle.script_reader.proofs.ExactAnswers.{bad_exactly, end_exactly, need_more_exactly}
use Rattle.script_reader.proofs.laws.answers_come_exactly.Goals as goal

pub returns-clause-need_more : goal.returns-clause-need_more
returns-clause-need_more c = λ calls now new next are answer. need_more_exactly calls now new are next answer

pub returns-clause-end : goal.returns-clause-end
returns-clause-end c = λ calls now new next are answer. end_exactly calls now new are next answer

pub returns-clause-bad : goal.returns-clause-bad
returns-clause-bad c = λ calls now new next line are answer none. bad_exactly calls now new are next line answer none
