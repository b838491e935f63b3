use Rattle.std.proofs.Common.{ap, arith, length, sym, ◌∙◌}
use Rattle.cf_base.specs.Classes.{sizes, sizes_from}
use Rattle.cf_base.specs.declared.kind.Layout.TheVariants.{Blocks, Words}
use Rattle.cf_base.proofs.Rising.{are_sizes}
use Rattle.cf_base.proofs.Sizes.{map-one}
use Rattle.quota_model.proofs.sizes.fill_sizes.Goals as goal

pub fill_rising-requires-clause-few : goal.fill_rising-requires-clause-few
fill_rising-requires-clause-few c =
    let few = (are_sizes c.args.page_words Words c.requires.page).few in
    let one = ap length (map-one (sizes_from c.args.page_words 4 c.args.page_words)) in
    omega arith

pub fill_rising-requires-in-Blocks-clause-few : goal.fill_rising-requires-in-Blocks-clause-few
fill_rising-requires-in-Blocks-clause-few c = (are_sizes c.args.page_words Blocks c.requires.page).few

pub returns-in-Words-clause-sizes : goal.returns-in-Words-clause-sizes
returns-in-Words-clause-sizes c = c.fill_rising.ensures.sizes ∙ map-one (sizes_from c.args.page_words 4 c.args.page_words)
    ∙ sym (ap (sizes c.args.page_words) c.in-Words.is)
