use Rattle.std.proofs.Common.{◌≡◌, arith, sym}
use Rattle.std.proofs.lemmas.Grind.{common_steps}
use Rattle.hex.specs.Hex.{encode_lower}
use Rattle.cf_io.proofs.CallerLemmas.{length_in_hex}
use Rattle.cf_session.proofs.Spelling.{set_first, set_only, spelled}
use Rattle.cf_session.proofs.queries.spell_bytes.Goals as goal

pub returns-clause-text : goal.returns-clause-text
returns-clause-text c =
    let long = length_in_hex c.args.bytes.now in
    let mark = set_only c.split_at_mut-mark.result.0.now 61 (grind (arith, common_steps)) in
    let rest = set_first c.split_at_mut-digits.result.1.now 10 (grind (arith, common_steps)) in
    let digits : c.encode_to_slice.new.output ≡ encode_lower c.args.bytes.now = rw c.unwrap.ensures at c.encode_to_slice.ensures.written in
    rw (c.copy_from_slice.ensures.after, mark, rest, digits) (spelled c.args.lead.now (encode_lower c.args.bytes.now) _ _ (sym long))
