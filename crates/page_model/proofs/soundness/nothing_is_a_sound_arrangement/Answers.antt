use Rattle.page_model.proofs.Nothing.{sound_empty, none_home, none_not_full}
use Rattle.page_model.proofs.soundness.nothing_is_a_sound_arrangement.Goals as goal

pub returns-clause-sound : goal.returns-clause-sound
returns-clause-sound c = sound_empty

pub returns-clause-pages : goal.returns-clause-pages
returns-clause-pages c = none_home

pub returns-clause-not_full : goal.returns-clause-not_full
returns-clause-not_full c = none_not_full
