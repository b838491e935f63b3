use Rattle.std.proofs.Common.{sym}
use Rattle.held_heap.proofs.HandleLaws.{is_new}
use Rattle.held_heap.proofs.laws.a_malloc_gives_a_new_handle.Goals as goal

pub returns : goal.returns
returns c most old new bytes before after call k = is_new old new bytes before after call.answer k (sym call.by_code) call.by_number call.step call.same
