use Rattle.std.proofs.Common.{rules, arith, ◌≡◌}
use Rattle.std.proofs.lemmas.Grind.{common_steps}
use Rattle.sizing.specs.Layout.{declared_between}
use Rattle.sizing.proofs.Needed.{between_few}
use Rattle.sizing.proofs.count.count_between.Goals as goal

pub returns-clause-few : goal.returns-clause-few
returns-clause-few c =
    let is : c.sum.result ≡ declared_between c.args.below c.args.most c.args.needs.now = first_of (search rules, grind (arith, common_steps)) in
    let few = between_few c.args.below c.args.most c.args.needs.now in
    let all = c.requires.objects in
    omega arith
