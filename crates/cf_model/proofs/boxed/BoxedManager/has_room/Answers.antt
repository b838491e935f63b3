use Rattle.std.proofs.Common.{subst}
use Rattle.std.specs.Prelude.{IfOk}
use Rattle.cf_base.specs.declared.results.Refusal.{Refusal}
use Rattle.cf_model.specs.Steps.{IsRefusedBy}
use Rattle.cf_model.proofs.boxed.BoxedManager.has_room.Goals as goal

pub returns-clause-ok : goal.returns-clause-ok
returns-clause-ok g c =
    subst (λ v. IfOk c.has_room.result (λ (u : Unit {0}). (r : Refusal) → ¬ IsRefusedBy ((goal.Manager-dyn g v).Manager.state v.1) c.args.bytes r))
    c.deref_box-1.ensures.1 c.has_room.ensures.0
