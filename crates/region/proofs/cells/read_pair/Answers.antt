-- The bytes of the two words stand in `cells`, and `out` gets those from byte `at` on.
use Rattle.std.proofs.Common.{◌+◌, ◌-◌, ◌∙◌, arith, ap, length, get_or, drop}
use Rattle.std.proofs.lemmas.List.{get_or-take, get_or-drop}
use Rattle.region.proofs.cells.read_pair.Goals as goal

pub returns-then-out-eq-WORD_BYTES : goal.returns-then-out-eq-WORD_BYTES
returns-then-out-eq-WORD_BYTES c = λ j lt.
    ap (λ xs. get_or xs j 0) c.copy_from_slice.ensures.after
    ∙ get_or-take (c.args.at + 8 - c.args.at) (drop c.args.at c.copy_words.new.out) j 0 (omega arith)
    ∙ get_or-drop c.args.at c.copy_words.new.out j 0 ∙ c.copy_words.ensures (c.args.at + j) (omega arith)

pub returns-else-out-eq-WORD_BYTES : goal.returns-else-out-eq-WORD_BYTES
returns-else-out-eq-WORD_BYTES c = λ j lt.
    ap (λ xs. get_or xs j 0) c.copy_from_slice-else-out-eq-WORD_BYTES.ensures.after
    ∙ get_or-take (c.args.at + length c.args.out.now - c.args.at) (drop c.args.at c.copy_words.new.out) j 0 (omega arith)
    ∙ get_or-drop c.args.at c.copy_words.new.out j 0 ∙ c.copy_words.ensures (c.args.at + j) (omega arith)
