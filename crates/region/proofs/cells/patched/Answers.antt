use Rattle.std.proofs.Common.{ap, ◌∙◌, List, ℕ}
use Rattle.page_model.specs.Bytes.{written}
use Rattle.region.proofs.Overwriting.{word_patched}
use Rattle.region.proofs.cells.patched.Goals as goal

pub returns : goal.returns
returns c =
    let is = c.overwrite.ensures ∙ ap (λ (cell : List ℕ). written cell c.args.from c.args.part.now) c.to_le_bytes-cell.ensures in
    word_patched c.args.word c.args.from c.from_le_bytes.result c.overwrite.new.cell c.args.part.now c.ranges.word.fits c.requires
    (λ i. (c.type_inv.part i).fits) is c.from_le_bytes.ensures
