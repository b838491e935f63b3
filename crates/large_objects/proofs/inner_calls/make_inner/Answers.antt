use Rattle.large_objects.proofs.CostLemmas.{malloc_costs, takes_paged}
use Rattle.large_objects.proofs.InnerSteps.{inner_given, inner_not_refused}
use Rattle.large_objects.proofs.inner_calls.make_inner.Goals as goal

pub unreachable-requires : goal.unreachable-requires
unreachable-requires g c = inner_not_refused (g.H.Manager.state c.args.inner.now) c.args.bytes c.requires.ready c.requires.room _ c.in-Err.ensures.step.0

pub returns-clause-step : goal.returns-clause-step
returns-clause-step g c = inner_given (g.H.Manager.state c.args.inner.now) (g.H.Manager.state c.malloc.new.self) c.in-Ok.object c.args.bytes
    c.requires.ready c.in-Ok.ensures.step c.in-Ok.ensures.ordered c.malloc.ensures.rules

pub returns-clause-few : goal.returns-clause-few
returns-clause-few g c = takes_paged (g.H.Manager.state c.args.inner.now).kind c.args.steps.now c.malloc.new.steps 64 25 c.requires.ready.pages
    c.malloc.ensures.bound

pub returns-clause-steps : goal.returns-clause-steps
returns-clause-steps g c = malloc_costs g.H.StepBounds.most (g.H.Manager.state c.args.inner.now) (g.H.Manager.state c.malloc.new.self) c.args.bytes
    c.in-Ok.object c.args.steps.now c.malloc.new.steps c.requires.ready c.requires.room.fits c.in-Ok.ensures.ordered c.malloc.ensures.cost c.in-Ok.ensures.most
