use Rattle.std.proofs.Common.{arith, length-append}
use Rattle.std.specs.Prelude.{decimal}
use Rattle.cf_io.proofs.LineLemmas.{decimal_short, pushed}
use Rattle.cf_io.proofs.reply_line.push_field.Goals as goal

pub unwrap-requires-2 : goal.unwrap-requires-2
unwrap-requires-2 c =
    let few = decimal_short c.args.n c.ranges.n.fits in
    let first = pushed c.args.line.now c.args.text.now _ c.push.result c.push.ensures (omega (arith, c.requires)) in
    (pushed c.push.new.self (decimal c.args.n) _ c.push_number.result c.push_number.ensures (rw first.1 (rw length-append (omega (arith, c.requires))))).0

pub returns-clause-short : goal.returns-clause-short
returns-clause-short c =
    let few = decimal_short c.args.n c.ranges.n.fits in
    let first = pushed c.args.line.now c.args.text.now _ c.push.result c.push.ensures (omega (arith, c.requires)) in
    let second = pushed c.push.new.self (decimal c.args.n) _ c.push_number.result c.push_number.ensures
    (rw first.1 (rw length-append (omega (arith, c.requires)))) in
    rw (second.1, length-append, first.1, length-append) (omega arith)
