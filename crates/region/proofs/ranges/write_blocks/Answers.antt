use Rattle.std.proofs.Common.{◌+◌, ◌-◌, ◌*◌, slice_index, drop, arith, ◌∙◌}
use Rattle.std.proofs.lemmas.List.{length-drop, length-take, get_or-take, get_or-drop}
use Rattle.region.proofs.Blocks.{writes_next}
use Rattle.region.proofs.ranges.write_blocks.Goals as goal

pub fours-preserved : goal.fours-preserved
fours-preserved c =
    let i = c.fours.i in
    let less = c.fours-test.true in
    let fits = c.requires.fits in
    let within = c.requires.within i less in
    let long = c.fours.auto.words in
    let bytes = c.args.bytes.now in
    let m = 32 * i + 32 - 32 * i in
    let cut = length-take m (drop (32 * i) bytes) in
    let rest = length-drop (32 * i) bytes in
    let n = 4 * slice_index c.args.blocks.now i + 4 - 4 * slice_index c.args.blocks.now i in
    let w = c.put_words.auto.words in
    writes_next c.args.words.now c.fours.words c.put_words.new.words c.args.blocks.now bytes i n (omega arith) less
    (w ∙ (let t = length-take n (drop (4 * slice_index c.args.blocks.now i) c.fours.words) in let d = length-drop (4 * slice_index c.args.blocks.now i) c.fours.words in omega arith))
    (omega arith) c.requires.differ
    (λ j l. c.put_words.ensures j (omega arith) ∙ get_or-take m (drop (32 * i) bytes) j 0 (omega arith) ∙ get_or-drop (32 * i) bytes j 0)
    c.fours.invariant (λ k. (c.type_inv.words k).fits)
