use Rattle.slice_model.proofs.RoomBeside.{answered, given_or_refused, one_cause}
use Rattle.slice_model.proofs.room.a_malloc_has_one_answer.Goals as goal

pub returns-clause-some : goal.returns-clause-some
returns-clause-some c = λ plan s bytes ok kept. answered plan ok s kept bytes

pub returns-clause-one : goal.returns-clause-one
returns-clause-one c = one_cause

pub returns-clause-done : goal.returns-clause-done
returns-clause-done c = λ plan s asked new e ok kept g. given_or_refused plan ok s kept asked new g e
