use Rattle.c_base.proofs.HandleLaws.{earlier_names_nothing}
use Rattle.c_base.proofs.laws.a_handle_of_an_earlier_heap_names_nothing.Goals as goal

pub returns : goal.returns
returns c = earlier_names_nothing
