use Rattle.std.proofs.Common.{◌∙◌}
use Rattle.sizing.proofs.Closed.{most_is}
use Rattle.sizing.proofs.points.pages_at_most.Goals as goal

pub returns : goal.returns
returns c = c.min.ensures ∙ most_is c.args.n c.args.m c.args.k c.requires.some c.requires.bound
