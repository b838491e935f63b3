use Rattle.top_call.proofs.KnownWords.{no_words}
use Rattle.top_call.proofs.argument_laws.no_arguments_choose_the_defaults.Goals as goal

pub returns : goal.returns
returns c = no_words
