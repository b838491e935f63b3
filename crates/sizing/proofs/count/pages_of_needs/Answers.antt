use Rattle.std.proofs.Common.{ap, arith, sym, ◌∙◌}
use Rattle.cf_base.specs.Classes.{sizes}
use Rattle.sizing.specs.Layout.{pages_by_size}
use Rattle.sizing.proofs.Needed.{in_words}
use Rattle.sizing.proofs.count.pages_of_needs.Goals as goal

pub sum_over_sizes-requires-clause-low : goal.sum_over_sizes-requires-clause-low
sum_over_sizes-requires-clause-low c =
    let e = in_words c.args.page_words c.args.needs.now in
    let same = ap (λ l. pages_by_size c.args.page_words 0 (sizes c.args.page_words l) c.args.needs.now) c.in-Words.is in
    let low = c.requires.low in
    omega arith

pub returns-in-Words : goal.returns-in-Words
returns-in-Words c = c.sum_over_sizes.ensures ∙ in_words c.args.page_words c.args.needs.now
    ∙ sym (ap (λ l. pages_by_size c.args.page_words 0 (sizes c.args.page_words l) c.args.needs.now) c.in-Words.is)
