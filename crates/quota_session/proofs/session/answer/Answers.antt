use Rattle.std.proofs.Common.{Some, ap}
use Rattle.run_model.specs.Terms.{owned_command, profile_of}
use Rattle.script_loop.proofs.CallerLemmas.{shown_line}
use Rattle.quota_session.specs.Layout.{tasks_session}
use Rattle.quota_session.specs.Playing.{quota_tasks}
use Rattle.quota_session.specs.QuotaRun.{quota_run}
use Rattle.quota_session.proofs.RunInvariant.{shown_walk}
use Rattle.quota_session.proofs.session.answer.Goals as goal

pub returns-in_default-clause-step : goal.returns-in_default-clause-step
returns-in_default-clause-step g c = shown_line quota_tasks (λ _ _ _ _ turn. turn)
    (quota_run (Some (profile_of c.args.s.now)) (tasks_session c.args.records.now) c.args.heap.now)
    (quota_run (Some (profile_of c.args.s.now)) (tasks_session c.build_reply-outcome.new.records) c.build_reply-outcome.new.heap)
    (owned_command c.args.c)
    c.build_reply-outcome.new.line _ _ c.put_line.result c.build_reply-outcome.result c.ended-in_default.result c.build_reply-outcome.ensures.speaks
    c.build_reply-outcome.ensures.outcome c.put_line.ensures c.ended-in_default.ensures

pub returns-in-Walk-clause-step : goal.returns-in-Walk-clause-step
returns-in-Walk-clause-step g c = shown_walk (quota_run (Some (profile_of c.args.s.now)) (tasks_session c.args.records.now) c.args.heap.now)
    (owned_command c.args.c) _ _ c.walk-written.result c.ended.result (ap owned_command c.in-Walk.is) c.walk-written.ensures c.ended.ensures
