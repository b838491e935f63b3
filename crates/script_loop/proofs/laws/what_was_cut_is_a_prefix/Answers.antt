use Rattle.script_loop.proofs.Consequences.{cut_is_prefix}
use Rattle.script_loop.proofs.laws.what_was_cut_is_a_prefix.Goals as goal

pub returns : goal.returns
returns c = cut_is_prefix
