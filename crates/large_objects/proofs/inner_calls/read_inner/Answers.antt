use Rattle.std.proofs.Common.{ap, ◌∙◌, sym, length, arith}
use Rattle.std.proofs.lemmas.Option.{same_Some}
use Rattle.large_objects.proofs.CostLemmas.{access_costs, access_few, read_done}
use Rattle.large_objects.proofs.InnerSteps.{inner_read, inner_small}
use Rattle.large_objects.proofs.inner_calls.read_inner.Goals as goal

pub returns-clause-value : goal.returns-clause-value
returns-clause-value g c v found =
    let e = ap (λ v. length v) (same_Some _ v (sym c.requires.has.found ∙ found)) in
    let within = c.requires.has.within in
    inner_read (g.H.Manager.state c.args.inner.now) (record { number = c.args.object.0; from = c.args.at }) c.args.out.now c.read.new.out c.read.result v found
    (omega arith) c.read.ensures.answer

pub returns-clause-few : goal.returns-clause-few
returns-clause-few g c = access_few c.args.steps.now c.read.new.steps c.args.at (length c.args.out.now) c.read.ensures.bound

pub returns-clause-steps : goal.returns-clause-steps
returns-clause-steps g c = access_costs g.H.StepBounds.most (g.H.Manager.state c.args.inner.now) c.args.steps.now c.read.new.steps c.args.at (length c.args.out.now) c.read.result
    (read_done (g.H.Manager.state c.args.inner.now) (record { number = c.args.object.0; from = c.args.at }) c.args.out.now c.read.new.out c.read.result
    c.requires.has c.read.ensures.answer)
    (let small = inner_small (g.H.Manager.state c.args.inner.now) c.requires.ready c.args.object.0 c.requires.has.bytes c.requires.has.found in
    let within = c.requires.has.within in omega arith)
    (access_few c.args.steps.now c.read.new.steps c.args.at (length c.args.out.now) c.read.ensures.bound) c.read.ensures.most
