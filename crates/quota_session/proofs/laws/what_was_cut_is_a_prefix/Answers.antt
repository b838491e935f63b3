use Rattle.script_loop.proofs.CallerLemmas.{cut_is_prefix_by}
use Rattle.quota_session.specs.Playing.{quota_tasks}
use Rattle.quota_session.proofs.CommandSteps.{tasks_go_on}
use Rattle.quota_session.proofs.laws.what_was_cut_is_a_prefix.Goals as goal

pub returns : goal.returns
returns c = λ from to call all w. cut_is_prefix_by quota_tasks from (tasks_go_on c.a_page_is_there_for_each_quota.ensures)
    (λ old command out new going can part. (part.reply, new, part.lost, part.turn, part.cut)) to call all w
