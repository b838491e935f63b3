use Rattle.std.proofs.Common.{refl}
use Rattle.std.specs.Vec.{with_item}
use Rattle.quota_heap.specs.declared.open_tasks.OpenTasks.{OpenTasks}
use Rattle.quota_heap.proofs.FreeKinds.{removed_freed, removed_kept}
use Rattle.quota_heap.proofs.StepCounts.{free_sum}
use Rattle.quota_heap.proofs.Tasks.{pages_few, task_there}
use Rattle.quota_heap.proofs.open_tasks.OpenTasks.free.Goals as goal

pub free_inner-requires-clause-kept : goal.free_inner-requires-clause-kept
free_inner-requires-clause-kept c =
    let h = c.args.self.now in let k = c.requires.kept in let x = c.index_mut-owner.result.now in
    k.task c.args.t x (task_there h k c.args.t c.requires.sixteen x c.index_mut-owner.ensures.value)

pub free_inner-requires-clause-few : goal.free_inner-requires-clause-few
free_inner-requires-clause-few c =
    let h = c.args.self.now in let k = c.requires.kept in let x = c.index_mut-owner.result.now in
    pages_few h k c.args.t x (task_there h k c.args.t c.requires.sixteen x c.index_mut-owner.ensures.value)

pub free_inner-requires-clause-object : goal.free_inner-requires-clause-object
free_inner-requires-clause-object c =
    let h = c.args.self.now in let k = c.requires.kept in let x = c.index_mut-owner.result.now in
    c.in-Some.ensures.found x (task_there h k c.args.t c.requires.sixteen x c.index_mut-owner.ensures.value)

pub returns : goal.returns
returns c =
    let h = c.args.self.now in let k = c.requires.kept in let x = c.index_mut-owner.result.now in
    let at = task_there h k c.args.t c.requires.sixteen x c.index_mut-owner.ensures.value in
    let n : OpenTasks = record h { shared_pages = c.free_inner.new.self; tasks = with_item h.tasks c.args.t c.free_inner.new.task } in
    let f = c.in-Some.x in let o = c.in-Some.ensures.found x at in let removed = c.free_inner.ensures.removed in
    record {
      step = removed_freed h n k c.args.t x c.free_inner.new.task at refl refl c.args.h.0 f.place f.length f.class o c.free_inner.result removed
          c.free_inner.ensures.slot;
      kept = removed_kept h n k c.args.t x c.free_inner.new.task at refl refl c.args.h.0 f.place f.length f.class o c.free_inner.result.moved removed;
      steps = free_sum h k c.args.t x at c.args.h.0 f.place f.length f.class o c.free_inner.result c.free_inner.new.self c.free_inner.new.task removed
          c.args.steps.now c.object.new.steps c.free_inner.new.steps c.in-Some.ensures.steps c.free_inner.ensures.steps;
    }
