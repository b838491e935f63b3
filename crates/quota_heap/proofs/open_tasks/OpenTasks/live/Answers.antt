use Rattle.std.proofs.Common.{sym, ◌∙◌, ap}
use Rattle.std.specs.FinMap.{len}
use Rattle.page_model.specs.Held.{Held, objects}
use Rattle.quota_heap.proofs.Facts.{objects_len}
use Rattle.quota_heap.proofs.Tasks.{part_is, task_there}
use Rattle.quota_heap.proofs.open_tasks.OpenTasks.live.Goals as goal

pub returns : goal.returns
returns c =
    let h = c.args.self.now in let k = c.requires.kept in let x = c.index-task.result.now in
    let at = task_there h k c.args.t c.requires.sixteen x c.index-task.ensures in
    c.live.ensures.count ∙ sym (objects_len h.shared_pages k.shared_pages c.args.t x (k.task c.args.t x at))
    ∙ sym (ap (λ (m : Held). len (objects m)) (part_is h k c.args.t x at))
