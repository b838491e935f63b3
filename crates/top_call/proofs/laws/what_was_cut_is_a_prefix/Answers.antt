use Rattle.script_loop.proofs.CallerLemmas.{cut_is_prefix_by}
use Rattle.top_call.proofs.Begun.{each_is_whole, many_go_on}
use Rattle.top_call.specs.SideBySide.{many_managers}
use Rattle.top_call.proofs.laws.what_was_cut_is_a_prefix.Goals as goal

pub returns : goal.returns
returns c = λ from to call all w. cut_is_prefix_by many_managers from (many_go_on from) each_is_whole to call all w
