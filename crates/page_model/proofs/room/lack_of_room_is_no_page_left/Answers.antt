use Rattle.page_model.proofs.Lacking.{lacks_room_is}
use Rattle.page_model.proofs.room.lack_of_room_is_no_page_left.Goals as goal

pub returns : goal.returns
returns c = λ p m c s. lacks_room_is p m s c
