use Rattle.std.proofs.Common.{◌≢◌, ◌<◌, ap, arith, below_more, get_or-set_other, get_or-set_same, length, length-set, ◌∙◌}
use Rattle.quota_model.specs.Admission.{declared_in_all}
use Rattle.sizing.proofs.Staying.{both_few, both_is}
use Rattle.sizing.proofs.shared.needs_in_both.Goals as goal

pub loop-i-preserved : goal.loop-i-preserved
loop-i-preserved c =
    let k = c.loop-i.invariant in
    let long = k.long in
    let here = c.loop-i-test.true in
    record {
      long = length-set c.loop-i.both c.loop-i.i c.entry_in_both.result ∙ k.long;
      made = below_more _ _ (λ i lt. (let ne : i ≢ c.loop-i.i = omega arith in rw get_or-set_other (k.made i lt)))
          (let lt : c.loop-i.i < length c.loop-i.both = omega arith in rw get_or-set_same c.entry_in_both.ensures);
    }

pub returns-clause-both : goal.returns-clause-both
returns-clause-both c =
    let k = c.loop-i.invariant in
    let long = k.long in
    both_is c.args.needs.now c.args.others.now c.loop-i.both (omega arith) (λ i lt. k.made i (omega arith))

pub returns-clause-few : goal.returns-clause-few
returns-clause-few c =
    let k = c.loop-i.invariant in
    let long = k.long in
    let is = ap declared_in_all (both_is c.args.needs.now c.args.others.now c.loop-i.both (omega arith) (λ i lt. k.made i (omega arith))) in
    let few = both_few c.args.needs.now c.args.others.now in
    let most = c.requires in
    omega arith
