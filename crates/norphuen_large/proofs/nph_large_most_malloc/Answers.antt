use Rattle.std.proofs.Common.{◌<◌, arith, ◌∙◌}
use Rattle.norphuen_large.specs.Most.{part_of}
use Rattle.norphuen_large.proofs.MostSteps.{malloc_long, malloc_short}
use Rattle.norphuen_large.proofs.nph_large_most_malloc.Goals as goal

pub returns-then-bytes-words : goal.returns-then-bytes-words
returns-then-bytes-words c = malloc_short c.args.page_bytes c.args.bytes c.page_words-words.result c.page_words-words.ensures.value (let f = c.if-bytes-words.true in grind arith)

pub returns : goal.returns
returns c =
    let long : part_of c.page_words-words.result < c.args.bytes = (let f = c.if-bytes-words.false in grind arith) in
    malloc_long c.args.page_bytes c.args.bytes c.page_words-words.result c.page_words-words.ensures.value c.from.result long (c.from.ensures ∙ c.parts.ensures)
