use Rattle.std.proofs.Common.{◌≤◌, ap, arith, length}
use Rattle.cf_io.proofs.CallerLemmas.{pushed}
use Rattle.script_reader.proofs.line_text.command_text.Goals as goal

pub returns-clause-fits : goal.returns-clause-fits
returns-clause-fits c = λ empty.
    let fits : length c.bytes.result.now ≤ 9000 = rw c.bytes.ensures.value c.bytes.ensures.fits in
    (pushed c.args.line.now c.bytes.result.now _ c.push.result c.push.ensures (omega (arith, ap length empty, fits))).0
