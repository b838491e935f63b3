use Rattle.std.proofs.Common.{◌≡◌, ◌<◌, ◌≤◌, ◌∙◌, ◌++◌, List, ℕ, arith, length, length-append, ap, refl, sym, codes}
use Rattle.hex.specs.Hex.{encode_lower}
use Rattle.cf_io.proofs.CallerLemmas.{length_in_hex, pushed}
use Rattle.cf_session.specs.Apply.{outcome_in}
use Rattle.cf_session.specs.declared.outcome.Outcome.TheVariants.{Good}
use Rattle.cf_session.proofs.short.push_bytes.Goals as goal

pub unwrap-requires : goal.unwrap-requires
unwrap-requires c =
    let digits = length_in_hex c.args.bytes.now in
    let line : length c.push_text.new.line ≤ 9 = rw (c.push_text.ensures, length-append, c.requires.empty) (omega arith) in
    (pushed c.push_text.new.line (encode_lower c.args.bytes.now) _ c.push_hex.result c.push_hex.ensures (omega (arith, c.requires.few))).0

pub returns-clause-text : goal.returns-clause-text
returns-clause-text c =
    let digits = length_in_hex c.args.bytes.now in
    let line : length c.push_text.new.line ≤ 9 = rw (c.push_text.ensures, length-append, c.requires.empty) (omega arith) in
    (pushed c.push_text.new.line (encode_lower c.args.bytes.now) _ c.push_hex.result c.push_hex.ensures (omega (arith, c.requires.few))).1
    ∙ ap (λ (l : List ℕ). l ++ encode_lower c.args.bytes.now) (c.push_text.ensures ∙ ap (λ (l : List ℕ). l ++ codes "=") c.requires.empty)

pub returns-clause-room : goal.returns-clause-room
returns-clause-room c =
    let digits = length_in_hex c.args.bytes.now in
    let line : length c.push_text.new.line ≤ 9 = rw (c.push_text.ensures, length-append, c.requires.empty) (omega arith) in
    let is = (pushed c.push_text.new.line (encode_lower c.args.bytes.now) _ c.push_hex.result c.push_hex.ensures (omega (arith, c.requires.few))).1 in
    let short : length c.push_hex.new.self < 9000 = rw (is, length-append) (omega (arith, c.requires.few)) in short

pub returns-clause-outcome : goal.returns-clause-outcome
returns-clause-outcome c =
    let digits = length_in_hex c.args.bytes.now in
    let line : length c.push_text.new.line ≤ 9 = rw (c.push_text.ensures, length-append, c.requires.empty) (omega arith) in
    let good : Good ≡ outcome_in (codes "=" ++ encode_lower c.args.bytes.now) = refl in
    good ∙ ap outcome_in (sym ((pushed c.push_text.new.line (encode_lower c.args.bytes.now) _ c.push_hex.result c.push_hex.ensures
    (omega (arith, c.requires.few))).1
    ∙ ap (λ (l : List ℕ). l ++ encode_lower c.args.bytes.now) (c.push_text.ensures ∙ ap (λ (l : List ℕ). l ++ codes "=") c.requires.empty)))
