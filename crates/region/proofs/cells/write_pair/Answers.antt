use Rattle.std.proofs.Common.{arith}
use Rattle.region.proofs.Overwriting.{pair_overwritten}
use Rattle.region.proofs.cells.write_pair.Goals as goal

pub returns : goal.returns
returns c =
    pair_overwritten c.args.words.now c.put_words.new.words c.copy_words.new.out c.overwrite.new.cell c.args.at c.args.bytes.now c.requires.two
    (omega arith) (omega arith) c.requires.within (λ k lt. c.copy_words.ensures k (omega arith)) c.overwrite.ensures
    (λ k lt. c.put_words.ensures k (omega arith))
