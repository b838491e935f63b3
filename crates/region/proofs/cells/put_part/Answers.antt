use Rattle.std.proofs.Common.{rules}
use Rattle.region.proofs.Overwriting.{word_overwritten}
use Rattle.region.proofs.cells.put_part.Goals as goal

pub returns-then-not-is_empty : goal.returns-then-not-is_empty
returns-then-not-is_empty c =
    word_overwritten c.args.words.now c.args.at c.patched.result c.args.part.now (search rules) c.requires.one c.patched.ensures
