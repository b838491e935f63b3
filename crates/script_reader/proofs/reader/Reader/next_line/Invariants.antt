use Rattle.std.proofs.Common.{length}
use Rattle.script_reader.specs.Reading.{PassesOver}
use Rattle.script_reader.proofs.reader.Reader.next_line.Given as goal

abbrev pub invariant-lines : goal.invariant-lines
invariant-lines l = PassesOver l.initial.self l.self

abbrev pub decreases-lines : goal.decreases-lines
decreases-lines l = length l.self.kept
