use Rattle.std.proofs.Common.{◌≤◌, ap, arith, length, length-append}
use Rattle.hex.specs.Hex.{encode_lower}
use Rattle.cf_io.proofs.CallerLemmas.{length_in_hex, pushed, puts_same}
use Rattle.top_call.proofs.PrintLemmas.{write_line}
use Rattle.top_call.proofs.image_script.put_write.Goals as goal

pub unwrap-requires : goal.unwrap-requires
unwrap-requires g c =
    let digits = length_in_hex c.args.bytes.now in
    let line : length c.push_text.new.line ≤ 44 = rw (c.push_text.ensures, length-append)
    (omega (arith, c.push_field.ensures.short, c.push_field-2.ensures.short, ap length c.clear.ensures)) in
    (pushed c.push_text.new.line (encode_lower c.args.bytes.now) _ c.push_hex.result c.push_hex.ensures (omega (arith, c.requires.few))).0

pub put_line-requires : goal.put_line-requires
put_line-requires g c =
    let digits = length_in_hex c.args.bytes.now in
    let line : length c.push_text.new.line ≤ 44 = rw (c.push_text.ensures, length-append)
    (omega (arith, c.push_field.ensures.short, c.push_field-2.ensures.short, ap length c.clear.ensures)) in
    let is = (pushed c.push_text.new.line (encode_lower c.args.bytes.now) _ c.push_hex.result c.push_hex.ensures (omega (arith, c.requires.few))).1 in
    rw (is, length-append) (omega (arith, c.requires.few))

pub returns : goal.returns
returns g c =
    let digits = length_in_hex c.args.bytes.now in
    let line : length c.push_text.new.line ≤ 44 = rw (c.push_text.ensures, length-append)
    (omega (arith, c.push_field.ensures.short, c.push_field-2.ensures.short, ap length c.clear.ensures)) in
    let is = (pushed c.push_text.new.line (encode_lower c.args.bytes.now) _ c.push_hex.result c.push_hex.ensures (omega (arith, c.requires.few))).1 in
    puts_same _ _ _ _ c.put_line.result (write_line c.args.id c.args.at c.args.bytes.now c.clear.new.self c.push_field.new.line c.push_field-2.new.line
    c.push_text.new.line c.push_hex.new.self c.clear.ensures c.push_field.ensures.text c.push_field-2.ensures.text c.push_text.ensures is)
    c.put_line.ensures
