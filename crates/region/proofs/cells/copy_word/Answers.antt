use Rattle.std.proofs.Common.{◌+◌, ◌-◌, ◌∙◌, arith, ap, length, get_or, drop}
use Rattle.std.proofs.lemmas.List.{get_or-take, get_or-drop}
use Rattle.region.proofs.Overwriting.{cell_byte}
use Rattle.region.proofs.cells.copy_word.Goals as goal

pub returns-then-out-eq-WORD_BYTES : goal.returns-then-out-eq-WORD_BYTES
returns-then-out-eq-WORD_BYTES c = λ j lt.
    ap (λ xs. get_or xs j 0) c.copy_from_slice.ensures.after
    ∙ get_or-take (c.args.from + 8 - c.args.from) (drop c.args.from c.to_le_bytes-cell.result) j 0 (omega arith)
    ∙ get_or-drop c.args.from c.to_le_bytes-cell.result j 0 ∙ ap (λ xs. get_or xs (c.args.from + j) 0) c.to_le_bytes-cell.ensures
    ∙ cell_byte c.args.word (c.args.from + j) (omega arith)

pub returns-else-out-eq-WORD_BYTES : goal.returns-else-out-eq-WORD_BYTES
returns-else-out-eq-WORD_BYTES c = λ j lt.
    ap (λ xs. get_or xs j 0) c.copy_from_slice-else-out-eq-WORD_BYTES.ensures.after
    ∙ get_or-take (c.args.from + length c.args.out.now - c.args.from) (drop c.args.from c.to_le_bytes-cell.result) j 0 (omega arith)
    ∙ get_or-drop c.args.from c.to_le_bytes-cell.result j 0 ∙ ap (λ xs. get_or xs (c.args.from + j) 0) c.to_le_bytes-cell.ensures
    ∙ cell_byte c.args.word (c.args.from + j) (omega arith)
