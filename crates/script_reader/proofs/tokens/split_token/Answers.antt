use Rattle.std.proofs.Common.{◌∙◌, ◌-◌, ◌∷◌, ap, arith, drop, length, refl, sym, take}
use Rattle.std.proofs.lemmas.List.{take_rest}
use Rattle.script_reader.specs.Lines.{is_parted, tokens}
use Rattle.script_reader.proofs.Words.{only_gaps, single_in_text, token_has_byte, token_of_text}
use Rattle.script_reader.proofs.tokens.split_token.Goals as goal

pub returns-then-text-eq0-clause-value : goal.returns-then-text-eq0-clause-value
returns-then-text-eq0-clause-value c = only_gaps _ _ _ refl c.gaps.ensures.value c.if-text-eq0.true

pub returns-clause-value : goal.returns-clause-value
returns-clause-value c = rw (c.split_at.ensures.front, c.split_at.ensures.back)
    (token_of_text _ _ _ _ refl c.gaps.ensures.value c.token_length.ensures.value (omega arith))

pub returns-clause-some : goal.returns-clause-some
returns-clause-some c = rw c.split_at.ensures.front
    (token_has_byte _ _ _ _ refl c.gaps.ensures.value c.token_length.ensures.value (omega arith))

pub returns-in-Some-clause-value : goal.returns-in-Some-clause-value
returns-in-Some-clause-value c =
    let t = c.args.text.now in
    let s = take (length t - c.gaps.result) (drop c.gaps.result t) in
    let after = c.in-Some.ensures in
    let parted = ap is_parted (sym (take_rest s 1)) ∙ after.0 in
    single_in_text t s c.gaps.result refl c.gaps.ensures.value (omega arith) parted
    ∙ ap (λ l. take 1 s ∷ l) (ap tokens (sym (take_rest s 1)) ∙ sym after.1)
