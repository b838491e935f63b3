use Rattle.std.proofs.Common.{length, sym, ◌∙◌, ap}
use Rattle.std.specs.Prelude.{option_map}
use Rattle.std.specs.FinMap.{get}
use Rattle.page_model.specs.Held.{Held, Placed}
use Rattle.quota_heap.proofs.Tasks.{part_is, task_there}
use Rattle.quota_heap.proofs.open_tasks.OpenTasks.length.Goals as goal

pub length-requires-clause-kept : goal.length-requires-clause-kept
length-requires-clause-kept c =
    let h = c.args.self.now in let k = c.requires.kept in let x = c.index-task.result.now in
    (c.args.t, k.task c.args.t x (task_there h k c.args.t c.requires.sixteen x c.index-task.ensures))

pub returns-clause-value : goal.returns-clause-value
returns-clause-value c =
    let h = c.args.self.now in let k = c.requires.kept in let x = c.index-task.result.now in
    let at = task_there h k c.args.t c.requires.sixteen x c.index-task.ensures in
    c.length.ensures.value ∙ sym (ap (λ (m : Held). option_map (λ (p : Placed). length p.bytes) (get m c.args.h.0)) (part_is h k c.args.t x at))
