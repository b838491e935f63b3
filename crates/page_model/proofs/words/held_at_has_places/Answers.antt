use Rattle.page_model.proofs.Reading.{places-held_at, held_at_is, held_at_bytes}
use Rattle.page_model.proofs.words.held_at_has_places.Goals as goal

pub returns-clause-places : goal.returns-clause-places
returns-clause-places c = places-held_at

pub returns-clause-found : goal.returns-clause-found
returns-clause-found c = held_at_is

pub returns-clause-bytes : goal.returns-clause-bytes
returns-clause-bytes c = held_at_bytes
