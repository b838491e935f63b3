use Rattle.norphuen_large.proofs.HeldLaws.{written_is_read}
use Rattle.norphuen_large.proofs.laws.a_read_gives_what_was_written.Goals as goal

pub returns : goal.returns
returns c = written_is_read
