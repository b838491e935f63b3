use Rattle.page_model.proofs.Enough.{needed_le_used}
use Rattle.page_model.proofs.room.objects_need_no_more_pages.Goals as goal

pub returns : goal.returns
returns c = needed_le_used
