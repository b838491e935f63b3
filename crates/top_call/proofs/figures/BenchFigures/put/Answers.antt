use Rattle.std.proofs.Common.{[], Ok, Err}
use Rattle.cf_io.proofs.CallerLemmas.{puts_line}
use Rattle.top_call.specs.Bench.{bench_line}
use Rattle.top_call.proofs.BenchLemmas.{six}
use Rattle.top_call.proofs.figures.BenchFigures.put.Goals as goal

pub returns-in-Ok-clause-written : goal.returns-in-Ok-clause-written
returns-in-Ok-clause-written g c =
    (puts_line {T = Unit {0}} _ _ [] (bench_line c.args.self.now) c.push_field-6.new.line (Ok tt)
    (six c.new-line.result _ _ _ _ _ _ _ _ _ _ _ _ c.new-line.ensures c.push_field.ensures.text c.push_field-2.ensures.text c.push_field-3.ensures.text
    c.push_field-4.ensures.text c.push_field-5.ensures.text c.push_field-6.ensures.text)
    c.in-Ok.ensures).wrote

pub returns-in-Err-clause-written : goal.returns-in-Err-clause-written
returns-in-Err-clause-written g c =
    (puts_line {T = Unit {0}} _ _ [] (bench_line c.args.self.now) c.push_field-6.new.line (Err (record {}))
    (six c.new-line.result _ _ _ _ _ _ _ _ _ _ _ _ c.new-line.ensures c.push_field.ensures.text c.push_field-2.ensures.text c.push_field-3.ensures.text
    c.push_field-4.ensures.text c.push_field-5.ensures.text c.push_field-6.ensures.text)
    c.in-Err.ensures).part
