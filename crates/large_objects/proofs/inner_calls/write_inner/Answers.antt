use Rattle.std.proofs.Common.{arith, length}
use Rattle.large_objects.proofs.CostLemmas.{access_costs, access_few, write_done}
use Rattle.large_objects.proofs.InnerSteps.{inner_small, inner_written}
use Rattle.large_objects.proofs.inner_calls.write_inner.Goals as goal

pub returns-clause-step : goal.returns-clause-step
returns-clause-step g c = inner_written (g.H.Manager.state c.args.inner.now) (g.H.Manager.state c.write.new.self)
    (record { number = c.args.object.0; from = c.args.at })
    c.args.bytes.now c.write.result c.requires.ready c.requires.has c.write.ensures.step c.write.ensures.rules

pub returns-clause-few : goal.returns-clause-few
returns-clause-few g c = access_few c.args.steps.now c.write.new.steps c.args.at (length c.args.bytes.now) c.write.ensures.bound

pub returns-clause-steps : goal.returns-clause-steps
returns-clause-steps g c = access_costs g.H.StepBounds.most (g.H.Manager.state c.args.inner.now) c.args.steps.now c.write.new.steps c.args.at (length c.args.bytes.now) c.write.result
    (write_done (g.H.Manager.state c.args.inner.now) (g.H.Manager.state c.write.new.self) (record { number = c.args.object.0; from = c.args.at })
    c.args.bytes.now c.write.result c.requires.has c.write.ensures.step)
    (let small = inner_small (g.H.Manager.state c.args.inner.now) c.requires.ready c.args.object.0 c.requires.has.bytes c.requires.has.found in
    let within = c.requires.has.within in omega arith)
    (access_few c.args.steps.now c.write.new.steps c.args.at (length c.args.bytes.now) c.write.ensures.bound) c.write.ensures.most
