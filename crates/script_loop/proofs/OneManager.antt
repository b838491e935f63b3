-- For the mode handler of mode `run` (`Session`): the `heap` line begins a run, and no command changes its plan: the manager's kind, and whether it promises
-- an order.
use Rattle.std.proofs.Common.{◌≡◌}
use Rattle.run_model.specs.Terms.{Command, fresh_session, HeapState, IsGoing, KeepsRules, profile_of, Reply, RunState, SessionState}
use Rattle.cf_base.specs.declared.settings.Settings.{Settings}
use Rattle.cf_model.specs.Steps.{IsEmptyHeap}
use Rattle.cf_session.specs.Apply.{run_at}
use Rattle.script_laws.proofs.CallerLemmas.{step_keeps}
use Rattle.run_model.proofs.CallerLemmas.{begins_going, step_same}
use Rattle.run_model.specs.Steps.{Step}
use Rattle.script_loop.specs.OneManager.{one_manager}

pub opens_going : (settings : Settings) (session : SessionState) (old new : HeapState) → session ≡ fresh_session → IsEmptyHeap old.kind settings new
    → KeepsRules new → IsGoing (run_at session new)
opens_going settings session old new fresh empty rules =
    begins_going old.kind (profile_of settings) (run_at session new)
    (record { session = fresh; words = empty.words; order = empty.order; heap = empty.whole; rules = rules })

-- a step keeps the plan: the kind, and whether the manager promises an order
pub step_plan : (old new : RunState) (c : Command) (reply : Reply) → KeepsRules old.heap → Step old c reply new → one_manager.plan new ≡ one_manager.plan old
step_plan old new c reply rules step =
    let kind = (step_same old new c reply rules step).kind in
    let promise = step_keeps old new c reply step in
    λ i. (kind i, promise i)
