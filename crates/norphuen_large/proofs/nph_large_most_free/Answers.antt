use Rattle.std.proofs.Common.{◌<◌, ap, arith, ◌∙◌}
use Rattle.norphuen_large.specs.Most.{part_of, slot_cap}
use Rattle.norphuen_large.proofs.MostSteps.{free_long, free_short}
use Rattle.norphuen_large.proofs.nph_large_most_free.Goals as goal

pub returns-then-bytes-words : goal.returns-then-bytes-words
returns-then-bytes-words c = free_short c.args.page_bytes c.args.bytes c.page_words-words.result c.page_words-words.ensures.value (let f = c.if-bytes-words.true in grind arith)
    c.slot_words.result (c.slot_words.ensures.value ∙ ap (slot_cap c.page_words-words.result) c.from.ensures)

pub returns : goal.returns
returns c =
    let long : part_of c.page_words-words.result < c.args.bytes = (let f = c.if-bytes-words.false in grind arith) in
    rw c.from-2.ensures (free_long c.args.page_bytes c.args.bytes c.page_words-words.result c.page_words-words.ensures.value c.from-count.result long
    (c.from-count.ensures ∙ c.parts.ensures) c.slot_words-2.result c.slot_words-2.ensures.value)
