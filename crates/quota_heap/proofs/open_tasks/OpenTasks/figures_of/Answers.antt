use Rattle.std.proofs.Common.{arith, refl}
use Rattle.quota_heap.proofs.ClassFigures.{class_few, class_in, figures_are, figures_seen, pages_few}
use Rattle.quota_heap.proofs.Tasks.{task_there}
use Rattle.quota_heap.proofs.open_tasks.OpenTasks.figures_of.Goals as goal

pub len-not_full-requires : goal.len-not_full-requires
len-not_full-requires c =
    let h = c.args.self.now in let k = c.requires.kept in let x = c.index-task.result.now in
    let at = task_there h k c.args.t c.requires.sixteen x c.index-task.ensures in
    record { class = class_in h.shared_pages k.shared_pages c.args.t x (k.task c.args.t x at) c.args.c c.requires.class }

pub bounds-task-c : goal.bounds-task-c
bounds-task-c c =
    let h = c.args.self.now in let k = c.requires.kept in let x = c.index-task.result.now in
    let at = task_there h k c.args.t c.requires.sixteen x c.index-task.ensures in
    class_few h.shared_pages k.shared_pages c.args.t x (k.task c.args.t x at) c.args.c c.requires.class

pub len-requires : goal.len-requires
len-requires c =
    let h = c.args.self.now in let k = c.requires.kept in let x = c.index-task.result.now in
    let at = task_there h k c.args.t c.requires.sixteen x c.index-task.ensures in
    record { class = class_in h.shared_pages k.shared_pages c.args.t x (k.task c.args.t x at) c.args.c c.requires.class }

pub overflow_add-result : goal.overflow_add-result
overflow_add-result c =
    let h = c.args.self.now in let k = c.requires.kept in let x = c.index-task.result.now in
    let at = task_there h k c.args.t c.requires.sixteen x c.index-task.ensures in
    let few = pages_few h.shared_pages k.shared_pages c.args.t x (k.task c.args.t x at) c.args.c c.requires.class in
    let a = c.len.ensures.len in let b = c.len-not_full.ensures.len in
    omega arith

pub returns : goal.returns
returns c =
    let h = c.args.self.now in let k = c.requires.kept in let x = c.index-task.result.now in
    let at = task_there h k c.args.t c.requires.sixteen x c.index-task.ensures in
    let a = c.len.ensures.len in let b = c.len-not_full.ensures.len in
    figures_seen h k c.args.t x at c.args.c _
    (figures_are h.shared_pages k.shared_pages c.args.t x (k.task c.args.t x at) c.args.c c.requires.class _ _ _ _ _ c.slot_words.ensures.value c.slots.ensures.value
    refl (omega arith) b)
