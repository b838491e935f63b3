use Rattle.std.proofs.Common.{sym}
use Rattle.heap_image.specs.Image.{number_of_bytes}
use Rattle.heap_image.proofs.fields_in.read_u16.Goals as goal

pub returns-in-Whole-clause-reads : goal.returns-in-Whole-clause-reads
unfolding number_of_bytes
returns-in-Whole-clause-reads g c = (c.fill.new.buffer, c.fill.auto.buffer, sym c.from_le_bytes.ensures, c.in-Whole.ensures.fills)
