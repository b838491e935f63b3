use Rattle.std.proofs.Common.{◌≡◌, ◌∙◌, ap, subst, sym}
use Rattle.std.specs.Prelude.{is_some}
use Rattle.page_model.specs.Arrangement.{pages_needed}
use Rattle.quota_model.specs.Refusals.{task_paging}
use Rattle.quota_heap.specs.Layout.{tasks_state_in}
use Rattle.quota_heap.specs.State.{KeepsTasks, QuotaState, objects_by}
use Rattle.quota_heap.proofs.Rules.{open_rules, pages_used}
use Rattle.quota_heap.proofs.heap.QuotaHeap.pages.Goals as goal

pub returns-clause-used : goal.returns-clause-used
returns-clause-used c =
    let keeps : KeepsTasks c.args.self.now = subst KeepsTasks c.self.view_is (open_rules c.self.inside.inner c.self.invariant (ap is_some c.in-Some.is)) in
    subst (λ (s : QuotaState). c.pages.result ≡ pages_needed (task_paging s.profile) (objects_by s c.args.task))
    (sym (ap tasks_state_in c.in-Some.is) ∙ c.self.view_is) c.pages.ensures
    ∙ sym (pages_used c.args.self.now keeps c.args.task)
