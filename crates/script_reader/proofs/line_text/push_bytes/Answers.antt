use Rattle.std.proofs.Common.{◌∙◌, ◌≤◌, ◌++◌, [], ◌∷◌, arith, append_assoc, ap, length, length-append}
use Rattle.hex.specs.Hex.{encode_lower}
use Rattle.cf_io.proofs.CallerLemmas.{length_in_hex, pushed}
use Rattle.script_reader.proofs.line_text.push_bytes.Goals as goal

pub unwrap-requires : goal.unwrap-requires
unwrap-requires c =
    let digits = length_in_hex c.args.bytes.now in
    let line : length c.push_text.new.line ≤ 48 = rw (c.push_text.ensures, length-append) (omega (arith, c.requires.line)) in
    (pushed c.push_text.new.line (encode_lower c.args.bytes.now) _ c.push_hex.result c.push_hex.ensures (omega (arith, c.requires.bytes))).0

pub returns-clause-text : goal.returns-clause-text
returns-clause-text c =
    let digits = length_in_hex c.args.bytes.now in
    let line : length c.push_text.new.line ≤ 48 = rw (c.push_text.ensures, length-append) (omega (arith, c.requires.line)) in
    (pushed c.push_text.new.line (encode_lower c.args.bytes.now) _ c.push_hex.result c.push_hex.ensures (omega (arith, c.requires.bytes))).1
    ∙ ap (λ l. l ++ encode_lower c.args.bytes.now) c.push_text.ensures ∙ append_assoc c.args.line.now (32 ∷ []) (encode_lower c.args.bytes.now)

pub returns-clause-short : goal.returns-clause-short
returns-clause-short c =
    let digits = length_in_hex c.args.bytes.now in
    let line : length c.push_text.new.line ≤ 48 = rw (c.push_text.ensures, length-append) (omega (arith, c.requires.line)) in
    let is = (pushed c.push_text.new.line (encode_lower c.args.bytes.now) _ c.push_hex.result c.push_hex.ensures (omega (arith, c.requires.bytes))).1 in
    rw (is, length-append) (omega (arith, c.requires.bytes))
