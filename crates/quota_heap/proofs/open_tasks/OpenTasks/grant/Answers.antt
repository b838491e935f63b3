use Rattle.std.proofs.Common.{refl}
use Rattle.std.specs.Vec.{with_item}
use Rattle.quota_heap.specs.declared.open_tasks.OpenTasks.{OpenTasks}
use Rattle.quota_heap.proofs.SetQuota.{quota_kept, quota_state}
use Rattle.quota_heap.proofs.Tasks.{task_there}
use Rattle.quota_heap.proofs.open_tasks.OpenTasks.grant.Goals as goal

pub returns-clause-state : goal.returns-clause-state
returns-clause-state c =
    let h = c.args.self.now in let k = c.requires.kept in let x = c.index_mut-task.result.now in
    let at = task_there h k c.args.t c.requires.sixteen x c.index_mut-task.ensures.value in
    let new : OpenTasks = record h { tasks = with_item h.tasks c.args.t (record x { quota = c.args.pages }); granted = c.args.granted } in
    quota_state h k c.args.t c.requires.sixteen c.args.pages x at c.requires.fits new refl refl c.requires.sums

pub returns-clause-kept : goal.returns-clause-kept
returns-clause-kept c =
    let h = c.args.self.now in let k = c.requires.kept in let x = c.index_mut-task.result.now in
    let at = task_there h k c.args.t c.requires.sixteen x c.index_mut-task.ensures.value in
    let new : OpenTasks = record h { tasks = with_item h.tasks c.args.t (record x { quota = c.args.pages }); granted = c.args.granted } in
    quota_kept h k c.args.t c.requires.sixteen c.args.pages x at c.requires.fits new refl refl c.requires.sums
