use Rattle.page_model.proofs.RoomAtOne.{lacks_room_at_one, needed_with_is}
use Rattle.page_model.proofs.room.lack_of_room_is_arithmetic_at_bound_one.Goals as goal

pub returns-clause-room : goal.returns-clause-room
returns-clause-room c = λ p m n ok ones s. lacks_room_at_one p ok ones m s n

pub returns-clause-added : goal.returns-clause-added
returns-clause-added c = needed_with_is
