use Rattle.std.proofs.Common.{sym}
use Rattle.norphuen_sliced.proofs.HandleLaws.{is_new}
use Rattle.norphuen_sliced.proofs.laws.a_malloc_gives_a_new_handle.Goals as goal

pub returns : goal.returns
returns c old new bytes before after call k = is_new old new bytes before after call.answer k (sym call.by_code) call.by_number call.call.step call.same
