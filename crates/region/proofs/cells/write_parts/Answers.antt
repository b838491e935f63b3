use Rattle.std.proofs.Common.{◌≡◌, ◌+◌, ◌-◌, ◌*◌, ◌/◌, length, take, drop, inl, inr, arith}
use Rattle.std.specs.Prelude.{◌⊎◌}
use Rattle.std.proofs.lemmas.Bool.{cases_eq}
use Rattle.std.proofs.lemmas.List.{length-drop, length-take}
use Rattle.region.specs.Cells.{byte_in}
use borrow.Rule.Slice.PartMut.{put_mid}
use Rattle.region.proofs.Overwriting.{all_overwritten}
use Rattle.region.proofs.Pieces.{words_put}
use Rattle.region.proofs.cells.write_parts.Goals as goal

pub returns : goal.returns
returns c =
    let bytes = c.args.bytes.now in
    let start = c.before_word-start.result in
    let count = (length bytes - start) / 8 in
    let first = (c.args.at + start) / 8 in
    let end = start + 8 * count in
    let m = first + count - first in
    let part = take (end - start) (drop start bytes) in
    let is = c.before_word-start.ensures in
    let fits = c.requires in
    let one = c.put_part.auto.words in let two = c.put_words.auto.words in
    let cut = length-take m (drop first c.put_part.new.words) in let rest = length-drop first c.put_part.new.words in
    let part_cut = length-take (end - start) (drop start bytes) in let part_rest = length-drop start bytes in
    let begins : (count ≡ 0) ⊎ (c.args.at + start ≡ 8 * first) = elim (cases_eq count 0) [ inl none ↦ inl none | inr some ↦ inr (omega arith) ] in
    all_overwritten (byte_in c.args.words.now) (byte_in c.put_part.new.words) (byte_in (put_mid first m c.put_part.new.words c.put_words.new.words))
    (byte_in c.put_part-2.new.words) c.args.at start end bytes (omega arith) (omega arith) c.put_part.ensures
    (words_put c.put_part.new.words c.put_words.new.words (c.args.at + start) first count m part (omega arith) begins (omega arith) (omega arith) (omega arith)
    c.put_words.ensures)
    c.put_part-2.ensures
