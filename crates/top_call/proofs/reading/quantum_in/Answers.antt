use Rattle.std.proofs.Common.{◌∙◌, ◌≤◌, subst}
use Rattle.std.specs.Str.Parse.{ParsesUnsigned, ExplainsUnsignedError, HasUnsignedDigitsIfOk}
use Rattle.clap.specs.Words.{found_of, one_text}
use Rattle.top_call.proofs.ClapReads.{quantum_of_text}
use Rattle.top_call.proofs.reading.quantum_in.Goals as goal

pub returns-then-quantum-le16384-clause-value : goal.returns-then-quantum-le16384-clause-value
returns-then-quantum-le16384-clause-value c = c.unwrap_or-quantum.ensures ∙ quantum_of_text
    (λ bs r. ParsesUnsigned 32 10 bs r × ExplainsUnsignedError 10 bs r × HasUnsignedDigitsIfOk bs r)
    (λ u x g. g.0) (one_text (found_of c.args.matches.now) c.args.id.now) c.get_one.result c.get_one.ensures.none c.get_one.ensures.value
    (subst (λ n. 1 ≤ n) c.unwrap_or-quantum.ensures c.if-quantum-ge1.true) (subst (λ n. n ≤ 16384) c.unwrap_or-quantum.ensures c.if-quantum-le16384.true)
