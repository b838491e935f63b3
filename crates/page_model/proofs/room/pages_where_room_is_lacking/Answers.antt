use Rattle.page_model.proofs.Lacking.{lacking}
use Rattle.page_model.proofs.room.pages_where_room_is_lacking.Goals as goal

pub returns : goal.returns
returns c = λ p m c ok s. lacking p m s ok c
