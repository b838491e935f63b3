use Rattle.script_loop.proofs.Consequences.{prints_reads, wrote_all}
use Rattle.script_loop.specs.ScriptOutcome.{items_within}
use Rattle.script_laws.proofs.CallerLemmas.{reads_are_shown}
use Rattle.script_loop.proofs.laws.every_read_gives_what_was_written.Goals as goal

pub returns : goal.returns
returns c = record {
  printed = λ from to call all shown met is. prints_reads from to (items_within all) call (wrote_all from to call all shown met is);
  whole = λ from to wanted call w. reads_are_shown from.heap.kind wanted w.replies w.end w.run;
  in_part = λ from to wanted call w. reads_are_shown from.heap.kind w.before w.replies w.mid w.run;
}
