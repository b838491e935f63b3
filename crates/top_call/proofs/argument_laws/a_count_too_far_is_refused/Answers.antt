use Rattle.top_call.proofs.KnownWords.{count_too_large}
use Rattle.top_call.proofs.argument_laws.a_count_too_far_is_refused.Goals as goal

pub returns : goal.returns
returns c = count_too_large
