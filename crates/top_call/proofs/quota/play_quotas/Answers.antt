use Rattle.std.proofs.Common.{refl}
use Rattle.std.specs.Option.{option_map}
use Rattle.cf_base.specs.Settings.{profile_of}
use Rattle.quota_session.specs.Playing.{quota_tasks}
use Rattle.quota_session.specs.QuotaRun.{quota_run}
use Rattle.top_call.proofs.Outcomes.{made_ends}
use Rattle.top_call.specs.TopOutcome.{IsMadeForTasks}
use Rattle.top_call.proofs.quota.play_quotas.Goals as goal

pub returns : goal.returns
returns g c = λ managers.
    let by = c.play_script.ensures in
    made_ends quota_tasks IsMadeForTasks _ _ _ _ managers c.play_script.result
    by.causes
    (quota_run (option_map profile_of c.in-Ok.mode_handler.settings) c.in-Ok.mode_handler.session c.closed-heap.result)
    (quota_run (option_map profile_of c.play_script.new.mode_handler.settings) c.play_script.new.mode_handler.session c.play_script.new.heap)
    (rw (c.in-Ok.ensures.session, c.in-Ok.ensures.settings, c.closed-heap.ensures) refl) by.outcome
