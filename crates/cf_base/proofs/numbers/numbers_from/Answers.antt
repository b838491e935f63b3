-- For `numbers_from`: a list without items that is extended by a range is the list of its numbers.
use Rattle.std.proofs.Common.{◌+◌, refl, arith, rules}
use Rattle.std.proofs.lemmas.Iterator.{YieldsList-from_range}
use Rattle.std.proofs.lemmas.Iterator.Adapters.{items_from_extend}
use Rattle.cf_base.proofs.numbers.numbers_from.Goals as goal

pub returns : goal.returns
returns c =
    let extended = items_from_extend c.extend.result c.extend.ensures.ran
    (YieldsList-from_range c.args.first (c.args.first + c.args.n) c.args.n refl (omega arith)) in
    search rules
