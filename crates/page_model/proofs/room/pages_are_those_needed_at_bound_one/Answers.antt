use Rattle.page_model.proofs.RoomAtOne.{used_at_one}
use Rattle.page_model.proofs.room.pages_are_those_needed_at_bound_one.Goals as goal

pub returns : goal.returns
returns c = λ p m ok ones s. used_at_one p ok ones m s
