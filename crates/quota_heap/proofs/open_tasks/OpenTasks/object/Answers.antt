use Rattle.quota_heap.specs.declared.shared_pages.Found.{Found}
use Rattle.quota_heap.specs.declared.task.Task.{Task}
use Rattle.quota_heap.proofs.Parts.{no_object, none_to, some_to}
use Rattle.quota_heap.proofs.Tasks.{of_task, task_there}
use Rattle.page_slots.specs.Owner.{IsObjectAt}
use Rattle.quota_heap.specs.Layout.{as_owner}
use Rattle.quota_heap.proofs.open_tasks.OpenTasks.object.Goals as goal

pub object-requires-clause-kept : goal.object-requires-clause-kept
object-requires-clause-kept c =
    let h = c.args.self.now in let k = c.requires.kept in let x = c.index-task.result.now in
    (c.args.t, k.task c.args.t x (task_there h k c.args.t c.requires.sixteen x c.index-task.ensures))

pub returns-clause-none : goal.returns-clause-none
returns-clause-none c =
    let h = c.args.self.now in let k = c.requires.kept in let x = c.index-task.result.now in
    none_to c.object.result (no_object h k c.args.t x (task_there h k c.args.t c.requires.sixteen x c.index-task.ensures) c.args.h.0) c.object.ensures.none

pub returns-clause-found : goal.returns-clause-found
returns-clause-found c =
    let h = c.args.self.now in let k = c.requires.kept in let x = c.index-task.result.now in
    some_to c.object.result (λ (f : Found) (o : IsObjectAt (as_owner h.shared_pages x) c.args.h.0 f.place f.length f.class). of_task h k c.args.t
    c.requires.sixteen x
    c.index-task.ensures (λ (y : Task). IsObjectAt (as_owner h.shared_pages y) c.args.h.0 f.place f.length f.class) o) c.object.ensures.found
