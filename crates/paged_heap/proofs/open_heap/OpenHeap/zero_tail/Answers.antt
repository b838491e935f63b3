-- The first word is cut, and those after it are cleared.
use Rattle.std.proofs.Common.{◌≡◌, ◌+◌, ◌-◌, ◌/◌, ◌%◌, take, drop, replicate, arith, sym, ◌∙◌, subst}
use Rattle.page_model.specs.Image.{Clears}
use Rattle.region.specs.Overwriting.{Overwrites}
use Rattle.virtual_words.specs.Words.{words_of}
use Rattle.virtual_words.proofs.CallerLemmas.{laid_long}
use Rattle.paged_heap.proofs.ResizeInPlace.{cut_is, zero_part}
use Rattle.paged_heap.proofs.StepLemmas.{tail_rose, tail_still}
use Rattle.paged_heap.proofs.open_heap.OpenHeap.zero_tail.Goals as goal

pub returns-then-keep-bytes-clause-cut : goal.returns-then-keep-bytes-clause-cut
returns-then-keep-bytes-clause-cut g c = λ less. (
    let kind = g.A.Mapping.kind in let blocks = c.args.self.now.blocks in
    let old = words_of kind blocks c.args.self.now.region in
    let mid = words_of kind blocks c.write_bytes.new.region in
    let new = words_of kind blocks c.clear.new.region in
    let l = laid_long kind blocks c.args.self.now.region c.requires.laid in
    let long = laid_long kind blocks c.clear.new.region c.clear.ensures.laid ∙ c.clear.ensures.len
    ∙ sym (laid_long kind blocks c.write_bytes.new.region c.write_bytes.ensures.laid) in
    let w = subst (λ n. Overwrites old mid (record { from = c.args.place + 1 + c.args.keep / 8; count = n }) (c.args.keep % 8)
    (take (8 - c.args.keep % 8) (drop (c.args.keep % 8) (replicate 8 0))))
    (zero_part (c.args.keep % 8) (omega arith)) c.write_bytes.ensures.words in
    let e : c.div_ceil.result ≡ (c.args.bytes + 7) / 8 = (let f = c.div_ceil.ensures in omega arith) in
    let clear = subst (λ n. Clears mid new (record { from = c.args.place + 1 + c.args.keep / 8 + 1; count = n - c.args.keep / 8 - 1 })) e
    c.clear.ensures.words in
    cut_is old mid new c.args.place c.args.keep c.args.bytes less (let i = c.requires.within in omega arith) w long clear)

pub returns-then-keep-bytes-clause-steps : goal.returns-then-keep-bytes-clause-steps
returns-then-keep-bytes-clause-steps g c =
    let e = c.div_ceil.ensures in
    tail_rose g.A.Mapping.kind c.args.place c.args.keep c.args.bytes c.if-keep-bytes.true _ _ _ _ _ _ _ (zero_part (c.args.keep % 8) (omega arith))
    (omega arith) (omega arith) c.write_bytes.ensures.steps c.clear.ensures.steps

pub returns-else-keep-bytes-clause-steps : goal.returns-else-keep-bytes-clause-steps
returns-else-keep-bytes-clause-steps g c = tail_still g.A.Mapping.kind c.args.place c.args.keep c.args.bytes c.if-keep-bytes.false _
