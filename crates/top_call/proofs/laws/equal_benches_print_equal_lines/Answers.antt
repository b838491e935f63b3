use Rattle.top_call.proofs.OneScript.{bench_calls_once, bench_once}
use Rattle.top_call.proofs.laws.equal_benches_print_equal_lines.Goals as goal

pub returns-clause-calls : goal.returns-clause-calls
returns-clause-calls c = bench_calls_once

pub returns-clause-runs : goal.returns-clause-runs
returns-clause-runs c = bench_once
