use Rattle.top_call.proofs.KnownWords.{said_words}
use Rattle.top_call.proofs.argument_laws.arguments_choose_what_they_say.Goals as goal

pub returns : goal.returns
returns c = said_words
