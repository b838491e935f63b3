use Rattle.std.proofs.Common.{arith, refl}
use Rattle.std.proofs.lemmas.Grind.{common_steps}
use Rattle.cf_io.proofs.CallerLemmas.{length_in_hex}
use Rattle.cf_io.proofs.line.Line.push_hex.Goals as goal

pub returns-then-bytes-start : goal.returns-then-bytes-start
returns-then-bytes-start c = (let digits = length_in_hex c.args.bytes.now in (refl, grind (arith, common_steps, digits)))
