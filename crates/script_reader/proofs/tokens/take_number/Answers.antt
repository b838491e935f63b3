use Rattle.std.proofs.Common.{◌∙◌, ◌-◌, Some, ap, drop, length, refl, sym, take}
use Rattle.std.proofs.lemmas.List.{take_rest}
use Rattle.script_reader.specs.Lines.{is_parted, tokens}
use Rattle.script_reader.proofs.FirstNumber.{begins, no_leading, not_parted, parted_number, same_tokens}
use Rattle.script_reader.proofs.tokens.take_number.Goals as goal

pub returns-in_err-n : goal.returns-in_err-n
returns-in_err-n c =
    let t = c.args.text.now in
    let s = take (length t - c.gaps.result) (drop c.gaps.result t) in
    rw (c.from_residual.ensures, ← same_tokens t s c.gaps.result refl c.gaps.ensures.value)
    (no_leading s (begins t s c.gaps.result refl c.gaps.ensures.value) c.in_err-n.ensures.value)

pub returns-in_err-rest : goal.returns-in_err-rest
returns-in_err-rest c =
    let t = c.args.text.now in
    let s = take (length t - c.gaps.result) (drop c.gaps.result t) in
    rw (c.from_residual-in_err-rest.ensures, ← same_tokens t s c.gaps.result refl c.gaps.ensures.value)
    (not_parted s (begins t s c.gaps.result refl c.gaps.ensures.value) _ c.in_ok-n.digits c.in_ok-n.ensures.value
    (ap is_parted (sym (take_rest s c.in_ok-n.digits)) ∙ c.in_err-rest.ensures))

pub returns : goal.returns
returns c =
    let t = c.args.text.now in
    let s = take (length t - c.gaps.result) (drop c.gaps.result t) in
    let n = c.in_ok-n.digits in
    let after = c.in_ok-rest.ensures in
    rw (← same_tokens t s c.gaps.result refl c.gaps.ensures.value)
    (ap (λ ts. Some (c.in_ok-n.n, ts)) (after.1 ∙ ap tokens (take_rest s n))
    ∙ parted_number s (begins t s c.gaps.result refl c.gaps.ensures.value) c.in_ok-n.n n c.in_ok-n.ensures.value
    (ap is_parted (sym (take_rest s n)) ∙ after.0))
