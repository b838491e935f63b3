use Rattle.page_model.proofs.Resizing.{changes_class, change_is}
use Rattle.page_model.proofs.soundness.a_resize_in_two_steps.Goals as goal

pub returns-clause-given : goal.returns-clause-given
returns-clause-given c = λ p m h n a spare x moved ok s. changes_class p ok m s h n a spare x moved

pub returns-clause-taken : goal.returns-clause-taken
returns-clause-taken c = λ p old asked after ok s. change_is p ok old s asked after
