use Rattle.script_laws.proofs.CallerLemmas.{runs_on, runs_exist}
use Rattle.quota_session.specs.Playing.{BeginsTasks}
use Rattle.quota_session.specs.QuotaRun.{QuotaStep}
use Rattle.quota_session.proofs.CommandSteps.{tasks_go_on}
use Rattle.quota_session.proofs.laws.a_run_of_tasks_can_always_go_on.Goals as goal

pub returns-clause-there : goal.returns-clause-there
returns-clause-there c = runs_exist BeginsTasks QuotaStep (tasks_go_on c.a_page_is_there_for_each_quota.ensures)

pub returns-clause-on : goal.returns-clause-on
returns-clause-on c = runs_on BeginsTasks QuotaStep (tasks_go_on c.a_page_is_there_for_each_quota.ensures)
