use Rattle.std.proofs.Common.{arith, rules, sym}
use Rattle.std.proofs.lemmas.Grind.{common_steps}
use Rattle.sizing.specs.Checks.{paging_with}
use Rattle.sizing.proofs.CheckedPoints.{leads_same, set_is_more}
use Rattle.sizing.proofs.resizes.leads_resized.Goals as goal

pub returns : goal.returns
returns c = (
  λ yes. leads_same (paging_with 0 c.args.heap.now) c.args.points.now _ _ c.args.x.now c.args.j
      (λ e _. set_is_more c.args.counts.now.kept c.args.c (first_of (search rules, grind (arith, common_steps))) e) (c.leads_into.ensures.0 yes),
  λ sure. c.leads_into.ensures.1 (leads_same (paging_with 0 c.args.heap.now) c.args.points.now _ _ c.args.x.now c.args.j
      (λ e _. sym (set_is_more c.args.counts.now.kept c.args.c (first_of (search rules, grind (arith, common_steps))) e)) sure),
)
