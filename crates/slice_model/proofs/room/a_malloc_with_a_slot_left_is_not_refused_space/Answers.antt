use Rattle.slice_model.proofs.RoomBeside.{slot_is_within, page_is_within}
use Rattle.slice_model.proofs.room.a_malloc_with_a_slot_left_is_not_refused_space.Goals as goal

pub returns-clause-slot : goal.returns-clause-slot
returns-clause-slot c = λ plan s bytes a ok kept fits. slot_is_within plan ok s kept bytes fits a

pub returns-clause-page : goal.returns-clause-page
returns-clause-page c = λ plan s bytes page ok kept fits. page_is_within plan ok s kept bytes fits page
