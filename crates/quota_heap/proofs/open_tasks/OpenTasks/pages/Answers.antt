use Rattle.std.proofs.Common.{sym, ◌∙◌, ap}
use Rattle.page_model.specs.Arrangement.{pages_needed}
use Rattle.quota_heap.specs.Layout.{shared_paging}
use Rattle.quota_heap.proofs.Refusals.{objects_same}
use Rattle.quota_heap.proofs.Tasks.{task_there}
use Rattle.quota_heap.proofs.open_tasks.OpenTasks.pages.Goals as goal

pub returns : goal.returns
returns c =
    let h = c.args.self.now in let k = c.requires.kept in let x = c.index-task.result.now in
    let at = task_there h k c.args.t c.requires.sixteen x c.index-task.ensures in
    (k.task c.args.t x at).pages ∙ sym (ap (pages_needed (shared_paging h.shared_pages)) (objects_same h k c.args.t x at))
