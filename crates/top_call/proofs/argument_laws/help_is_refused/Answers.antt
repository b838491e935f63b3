use Rattle.top_call.proofs.KnownWords.{help_asked}
use Rattle.top_call.proofs.argument_laws.help_is_refused.Goals as goal

pub returns : goal.returns
returns c = help_asked
