use Rattle.std.proofs.Common.{◌∙◌, sym}
use Rattle.script_reader.specs.Owned.{owned_command}
use Rattle.top_call.proofs.Passing.{each_answers, promises_seen, mapped_twice}
use Rattle.top_call.proofs.sessions.SessionsModeHandlerVec.answer.Goals as goal

pub returns-clause-plan : goal.returns-clause-plan
returns-clause-plan g c =
    let kinds = mapped_twice (λ h. h.kind) (λ m. g.H.Manager.state m) c.answer_each.new.managers.items ∙ c.answer_each.ensures.kinds
    ∙ sym (mapped_twice (λ h. h.kind) (λ m. g.H.Manager.state m) c.args.heap.now.items) in
    let promises = promises_seen (λ m. g.H.Manager.state m) c.args.heap.now.items c.answer_each.new.managers.items c.answer_each.ensures.promise in
    λ i. (kinds i, promises i)

pub returns-clause-step : goal.returns-clause-step
returns-clause-step g c = each_answers _ _ _ _ (owned_command c.args.command) _ c.answer_each.ensures.step
