use Rattle.quota_heap.proofs.Parts.{found_in}
use Rattle.quota_heap.proofs.Tasks.{task_there}
use Rattle.quota_heap.proofs.open_tasks.OpenTasks.find.Goals as goal

pub find-requires-clause-kept : goal.find-requires-clause-kept
find-requires-clause-kept c =
    let h = c.args.self.now in let k = c.requires.kept in let x = c.index-task.result.now in
    (c.args.t, k.task c.args.t x (task_there h k c.args.t c.requires.sixteen x c.index-task.ensures))

pub returns-clause-found : goal.returns-clause-found
returns-clause-found c =
    let h = c.args.self.now in let k = c.requires.kept in let x = c.index-task.result.now in
    found_in h k c.args.t x (task_there h k c.args.t c.requires.sixteen x c.index-task.ensures) (record { number = c.args.h.0; from = c.args.at })
    c.args.count c.find.result c.find.ensures.found
