use Rattle.slice_model.proofs.Results.{free_answered, freed_or_faulty, one_fault}
use Rattle.slice_model.proofs.room.a_free_has_one_answer.Goals as goal

pub returns-clause-some : goal.returns-clause-some
returns-clause-some c = λ plan s h ok kept. free_answered plan ok s kept h

pub returns-clause-one : goal.returns-clause-one
returns-clause-one c = one_fault

pub returns-clause-done : goal.returns-clause-done
returns-clause-done c = λ plan s h new e r. freed_or_faulty plan s h new r e
