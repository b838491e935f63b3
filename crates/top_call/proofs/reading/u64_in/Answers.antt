use Rattle.std.proofs.Common.{◌∙◌}
use Rattle.std.specs.Str.Parse.{ParsesUnsigned, ExplainsUnsignedError, HasUnsignedDigitsIfOk}
use Rattle.clap.specs.Words.{found_of, one_text}
use Rattle.top_call.proofs.ClapReads.{number_of_text}
use Rattle.top_call.proofs.reading.u64_in.Goals as goal

pub returns : goal.returns
returns c = c.unwrap_or.ensures ∙ number_of_text (λ bs r. ParsesUnsigned 64 10 bs r × ExplainsUnsignedError 10 bs r × HasUnsignedDigitsIfOk bs r)
    (λ u x g. g.0) (one_text (found_of c.args.matches.now) c.args.id.now) c.get_one.result c.get_one.ensures.none c.get_one.ensures.value
