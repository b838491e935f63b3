use Rattle.std.proofs.Common.{◌<◌, arith}
use Rattle.norphuen_large.proofs.MostSteps.{access_most, none_most}
use Rattle.norphuen_large.proofs.nph_large_most_access.Goals as goal

pub returns-then-count-eq0 : goal.returns-then-count-eq0
returns-then-count-eq0 c = rw c.if-count-eq0.true (none_most c.args.page_bytes c.args.at)

pub returns : goal.returns
returns c =
    let some : 0 < c.args.count = (let f = c.if-count-eq0.false in grind arith) in
    rw (c.from-first.ensures, c.from-many.ensures, c.from.ensures)
    (access_most c.args.page_bytes c.args.at c.args.count c.page_words.result c.page_words.ensures.value c.page_words.ensures.least some)
