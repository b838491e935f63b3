use Rattle.std.proofs.Common.{sym}
use Rattle.norphuen_large.proofs.HeldLaws.{is_new}
use Rattle.norphuen_large.proofs.laws.a_malloc_gives_a_new_handle.Goals as goal

pub returns : goal.returns
returns c old new bytes before after call k = is_new old new bytes before after call k call.answer (sym call.by_code) call.by_number call.step
