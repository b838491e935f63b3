use Rattle.region.proofs.Overwriting.{word_from}
use Rattle.region.proofs.cells.word_of.Goals as goal

pub returns : goal.returns
returns c = word_from c.args.part.now c.from_le_bytes.result (λ i. (c.type_inv.part i).fits) c.from_le_bytes.ensures
