use Rattle.std.proofs.Common.{◌≡◌, ◌∙◌, ◌++◌, ap, arith, length, sym, append-nil}
use Rattle.std.specs.Prelude.{[], decimal}
use Rattle.script_reader.proofs.TextLemmas.{next_token}
use Rattle.script_reader.proofs.line_text.push_one.Goals as goal

pub push_field-requires : goal.push_field-requires
push_field-requires c =
    let word : c.push_text.new.line ≡ c.args.word.now = c.push_text.ensures ∙ ap (λ l. l ++ c.args.word.now) c.requires.empty in
    rw word (omega (arith, c.requires.word))

pub returns-clause-text : goal.returns-clause-text
returns-clause-text c =
    let word : c.push_text.new.line ≡ c.args.word.now = c.push_text.ensures ∙ ap (λ l. l ++ c.args.word.now) c.requires.empty in
    next_token c.args.word.now [] (decimal c.args.a) c.push_text.new.line c.push_field.new.line
    (word ∙ sym (append-nil c.args.word.now)) c.push_field.ensures.text

pub returns-clause-short : goal.returns-clause-short
returns-clause-short c =
    let word : c.push_text.new.line ≡ c.args.word.now = c.push_text.ensures ∙ ap (λ l. l ++ c.args.word.now) c.requires.empty in
    omega (arith, c.push_field.ensures.short, ap length word, c.requires.word)
