use Rattle.large_objects.proofs.CostLemmas.{free_costs, free_few}
use Rattle.large_objects.proofs.InnerSteps.{inner_freed}
use Rattle.large_objects.proofs.inner_calls.release_inner.Goals as goal

pub returns-clause-step : goal.returns-clause-step
returns-clause-step g c = inner_freed (g.H.Manager.state c.args.inner.now) (g.H.Manager.state c.free.new.self) c.args.object.0 c.requires.live.bytes c.free.result
    c.requires.ready c.requires.live.found c.free.ensures.step c.free.ensures.ordered c.free.ensures.rules

pub returns-clause-few : goal.returns-clause-few
returns-clause-few g c = free_few (g.H.Manager.state c.args.inner.now) (g.H.Manager.state c.free.new.self) c.args.object.0 c.free.result c.args.steps.now
    c.free.new.steps c.requires.ready c.free.ensures.step c.free.ensures.bound

pub returns-clause-steps : goal.returns-clause-steps
returns-clause-steps g c = free_costs g.H.StepBounds.most (g.H.Manager.state c.args.inner.now) (g.H.Manager.state c.free.new.self) c.args.object.0 c.free.result
    c.args.steps.now c.free.new.steps c.requires.ready c.free.ensures.step c.free.ensures.ordered c.free.ensures.cost c.free.ensures.most
