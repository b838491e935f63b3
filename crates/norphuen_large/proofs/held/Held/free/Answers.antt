use Rattle.std.proofs.Common.{Ok, Err, refl}
use Rattle.large_objects.specs.LargeCosts.{moving_costs}
use Rattle.norphuen_large.proofs.Frees.{freed}
use Rattle.norphuen_large.proofs.held.Held.free.Goals as goal

pub returns-in-Ok : goal.returns-in-Ok
returns-in-Ok c =
    freed c.args.self.now _ c.args.handle c.number_in-number.result _ _ (Ok c.in-Ok.field-0) _ c.self.view_is c.number_in-number.ensures c.in-Ok.ensures.step c.in-Ok.ensures.kept
    c.for_library-meter.ensures c.lap-self-inside.ensures.count (c.in-Ok.ensures.steps moving_costs c.self.invariant.1) c.raise.ensures

pub returns-in-Err : goal.returns-in-Err
returns-in-Err c =
    freed c.args.self.now _ c.args.handle c.number_in-number.result _ _ (Err c.in-Err.field-0) _ c.self.view_is c.number_in-number.ensures c.in-Err.ensures.step c.in-Err.ensures.kept
    c.for_library-meter.ensures c.lap-self-inside.ensures.count (c.in-Err.ensures.steps moving_costs c.self.invariant.1) refl
