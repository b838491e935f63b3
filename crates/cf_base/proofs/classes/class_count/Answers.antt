-- For `class_count`: a page has at most 67 slot sizes.
use Rattle.std.proofs.Common.{◌*◌, ◌/◌, arith}
use Rattle.std.proofs.lemmas.List.{length-map}
use Rattle.cf_base.specs.declared.kind.Layout.TheVariants.{Words, Blocks}
use Rattle.cf_base.specs.Classes.{sizes_from}
use Rattle.cf_base.proofs.Rising.{are_sizes}
use Rattle.cf_base.proofs.classes.class_count.Goals as goal

pub returns-in-Words-clause-few : goal.returns-in-Words-clause-few
returns-in-Words-clause-few c = omega (arith, c.count_rising.ensures, (are_sizes c.args.page_words Words c.requires).few)

pub returns-in-Blocks-clause-few : goal.returns-in-Blocks-clause-few
returns-in-Blocks-clause-few c =
    let page = c.args.page_words / 4 in
    omega (arith, c.count_rising-in-Blocks.ensures, (are_sizes c.args.page_words Blocks c.requires).few, length-map (sizes_from page 1 page) (λ s. 4 * s))
