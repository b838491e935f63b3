use Rattle.slice_model.proofs.Occupied.{place_is_free, free_is_place, lacking_is_no_place, no_place_is_lacking}
use Rattle.slice_model.proofs.places.places_are_those_beside_the_job.Goals as goal

pub returns-clause-place : goal.returns-clause-place
returns-clause-place c = λ plan s n a ok kept. (place_is_free plan ok s kept n a, free_is_place plan ok s kept n a)

pub returns-clause-none : goal.returns-clause-none
returns-clause-none c = λ plan s c ok kept lt. (no_place_is_lacking plan ok s kept c lt, lacking_is_no_place plan ok s kept c)
