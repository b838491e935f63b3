use Rattle.std.proofs.Common.{◌≡◌, ◌+◌, ◌-◌, ◌*◌, ◌/◌, ◌%◌, ℕ, ◌++◌, length, drop, get_or, refl, arith, ap, ◌∙◌}
use Rattle.std.proofs.lemmas.List.{length-append, length-drop, length-take}
use Rattle.page_model.specs.Bytes.{byte_of}
use Rattle.region.specs.Cells.{byte_in}
use Rattle.region.proofs.Pieces.{all_filled}
use Rattle.region.proofs.RunLemmas.{lent_byte}
use Rattle.region.proofs.cells.read_parts.Goals as goal

pub returns : goal.returns
returns c = λ k lt.
    let words = c.args.words.now in
    let start = c.before_word-start.result in
    let count = (length c.args.out.now - start) / 8 in
    let first = (c.args.at + start) / 8 in
    let is = c.before_word-start.ensures in
    let out = c.args.out.now in
    let filled = c.copy_part.new.out ++ drop start out in
    let m = start + 8 * count - start in
    let cut = length-take start out in let rest = length-drop start out in let whole = length-append c.copy_part.new.out (drop start out) in
    let middle = length-take m (drop start filled) in let behind = length-drop start filled in
    let one = c.copy_part.auto.out in let two = c.copy_words.auto.out in let three = c.copy_part-2.auto.out in
    all_filled (λ k. byte_in words (c.args.at + k)) c.args.out.now c.copy_part.new.out c.copy_words.new.out c.copy_part-2.new.out start (start + 8 * count)
    (start + 8 * count - start) _ refl (omega arith) (omega arith) (omega arith) (omega arith) (omega arith) (omega arith)
    (λ i l. c.copy_part.ensures i (omega arith))
    (λ i l. c.copy_words.ensures i (omega arith) ∙ lent_byte words first (first + count - first) i (omega arith)
    ∙ ap (λ (j : ℕ). byte_of (i % 8) (get_or words j 0)) (let e : first + i / 8 ≡ (c.args.at + (start + i)) / 8 = omega arith in e)
    ∙ ap (λ (j : ℕ). byte_of j (get_or words ((c.args.at + (start + i)) / 8) 0)) (let e : i % 8 ≡ (c.args.at + (start + i)) % 8 = omega arith in e))
    (λ i l. c.copy_part-2.ensures i (omega arith) ∙ ap (byte_in words) (let e : c.args.at + (start + 8 * count) + i ≡ c.args.at + (start + 8 * count + i) = omega arith in e))
    k (omega arith)
