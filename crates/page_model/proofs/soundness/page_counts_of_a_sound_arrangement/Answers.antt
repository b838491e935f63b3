use Rattle.page_model.proofs.PageCounts.{sound_can_hold, sound_stand, sound_few, within}
use Rattle.page_model.proofs.soundness.page_counts_of_a_sound_arrangement.Goals as goal

pub returns-clause-can_hold : goal.returns-clause-can_hold
returns-clause-can_hold c = λ p m c ok s lt. sound_can_hold p ok c lt m s

pub returns-clause-not_full : goal.returns-clause-not_full
returns-clause-not_full c = λ p m c ok s lt. sound_stand p ok c lt m s

pub returns-clause-few : goal.returns-clause-few
returns-clause-few c = λ p m c ok s lt. sound_few p ok c lt m s

pub returns-clause-slots : goal.returns-clause-slots
returns-clause-slots c = λ p m c page ok s lt. within p ok c lt m s page
