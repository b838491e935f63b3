use Rattle.std.proofs.Common.{refl, sym, ◌∙◌}
use Rattle.std.specs.Vec.{with_item}
use Rattle.quota_heap.specs.declared.open_tasks.OpenTasks.{OpenTasks}
use Rattle.quota_heap.proofs.Facts.{table_is, paging_ok}
use Rattle.quota_heap.proofs.MallocLemmas.{comes_given, comes_kept}
use Rattle.quota_heap.proofs.Refusals.{has_proxy, has_room}
use Rattle.quota_heap.proofs.StepCounts.{malloc_sum}
use Rattle.quota_heap.proofs.Tasks.{pages_few, task_there}
use Rattle.page_slots.proofs.CallerLemmas.{class_is}
use Rattle.quota_heap.proofs.open_tasks.OpenTasks.malloc.Goals as goal

pub returns-in-Some-refusal-clause-step : goal.returns-in-Some-refusal-clause-step
returns-in-Some-refusal-clause-step c =
    let is = class_is (paging_ok c.args.self.now.shared_pages) (table_is c.args.self.now.shared_pages c.requires.kept.shared_pages) c.args.bytes c.in-Some.c
    c.in-Some.ensures.found in
    (sym (c.in-Some-refusal.ensures c.args.bytes is.0 is.1), refl)

pub malloc_inner-requires-clause-kept : goal.malloc_inner-requires-clause-kept
malloc_inner-requires-clause-kept c =
    let h = c.args.self.now in let k = c.requires.kept in let x = c.index_mut-task.result.now in
    k.task c.args.t x (task_there h k c.args.t c.requires.sixteen x c.index_mut-task.ensures.value)

pub malloc_inner-requires-clause-few : goal.malloc_inner-requires-clause-few
malloc_inner-requires-clause-few c =
    let h = c.args.self.now in let k = c.requires.kept in let x = c.index_mut-task.result.now in
    pages_few h k c.args.t x (task_there h k c.args.t c.requires.sixteen x c.index_mut-task.ensures.value)

pub malloc_inner-requires-clause-class : goal.malloc_inner-requires-clause-class
malloc_inner-requires-clause-class c = (class_is (paging_ok c.args.self.now.shared_pages) (table_is c.args.self.now.shared_pages
    c.requires.kept.shared_pages) c.args.bytes c.in-Some.c c.in-Some.ensures.found).1

pub malloc_inner-requires-clause-some : goal.malloc_inner-requires-clause-some
malloc_inner-requires-clause-some c = λ all. (
    let h = c.args.self.now in let k = c.requires.kept in let x = c.index_mut-task.result.now in
    let at = task_there h k c.args.t c.requires.sixteen x c.index_mut-task.ensures.value in
    let is = class_is (paging_ok h.shared_pages) (table_is h.shared_pages k.shared_pages) c.args.bytes c.in-Some.c c.in-Some.ensures.found in
    has_proxy h k c.args.t x at c.in-Some.c c.args.bytes is.0 is.1 is.2 (c.in_default-refusal.ensures c.args.bytes is.0 is.1)
    (all ∙ (k.task c.args.t x at).numbers))

pub malloc_inner-requires-clause-room : goal.malloc_inner-requires-clause-room
malloc_inner-requires-clause-room c =
    let h = c.args.self.now in let k = c.requires.kept in let x = c.index_mut-task.result.now in
    let at = task_there h k c.args.t c.requires.sixteen x c.index_mut-task.ensures.value in
    let is = class_is (paging_ok h.shared_pages) (table_is h.shared_pages k.shared_pages) c.args.bytes c.in-Some.c c.in-Some.ensures.found in
    has_room h k c.args.t x at c.in-Some.c c.args.bytes is.0 is.1 is.2 (c.in_default-refusal.ensures c.args.bytes is.0 is.1)

pub returns : goal.returns
returns c =
    let h = c.args.self.now in let k = c.requires.kept in let x = c.index_mut-task.result.now in
    let at = task_there h k c.args.t c.requires.sixteen x c.index_mut-task.ensures.value in
    let is = class_is (paging_ok h.shared_pages) (table_is h.shared_pages k.shared_pages) c.args.bytes c.in-Some.c c.in-Some.ensures.found in
    let n : OpenTasks = record h { shared_pages = c.malloc_inner.new.self; tasks = with_item h.tasks c.args.t c.malloc_inner.new.task } in
    let x' = c.malloc_inner.new.task in let q = c.malloc_inner.result in let comes = c.malloc_inner.ensures.comes in
    let none = c.in_default-refusal.ensures c.args.bytes is.0 is.1 in
    record {
      step = comes_given h n k c.args.t x x' at refl refl c.in-Some.c c.args.bytes q.0 is.1 is.2 comes none;
      kept = comes_kept h n k c.args.t x x' at refl refl c.in-Some.c c.args.bytes q.0 is.1 is.2 comes none;
      steps = malloc_sum h k c.args.t x at c.args.bytes c.in-Some.c c.in-Some.ensures.found
          (has_room h k c.args.t x at c.in-Some.c c.args.bytes is.0 is.1 is.2 none)
          q c.args.steps.now c.class_of.new.steps c.malloc_inner.new.steps c.class_of.ensures.steps c.malloc_inner.ensures.steps;
    }
