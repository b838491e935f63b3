use Rattle.std.proofs.Common.{sym, ◌∙◌}
use Rattle.quota_heap.proofs.ClassFigures.{class_in}
use Rattle.quota_heap.proofs.Refusals.{not_refused, proxy_refused, space_refused}
use Rattle.quota_heap.proofs.Tasks.{task_there}
use Rattle.quota_heap.proofs.open_tasks.OpenTasks.refusal.Goals as goal
use Rattle.quota_heap.proofs.open_tasks.OpenTasks.refusal.Goals.{else-len-eq0-via-then-len-eq0+else-task, else-len-eq0-via-else-len-eq0}

pub returns-then-live-self : goal.returns-then-live-self
returns-then-live-self c = λ bytes fits class. (
    let h = c.args.self.now in let k = c.requires.kept in let x = c.index-task.result.now in
    let at = task_there h k c.args.t c.requires.sixteen x c.index-task.ensures in
    sym (proxy_refused h k c.args.t x at c.args.c bytes fits class c.requires.class (sym c.live.ensures.count ∙ c.if-live-self.true)))

pub len-requires : goal.len-requires
len-requires c =
    let h = c.args.self.now in let k = c.requires.kept in let x = c.index-task.result.now in
    let at = task_there h k c.args.t c.requires.sixteen x c.index-task.ensures in
    record { class = class_in h.shared_pages k.shared_pages c.args.t x (k.task c.args.t x at) c.args.c c.requires.class }

pub returns-then-task : goal.returns-then-task
returns-then-task c = λ bytes fits class. (
    let h = c.args.self.now in let k = c.requires.kept in let x = c.index-task.result.now in
    let at = task_there h k c.args.t c.requires.sixteen x c.index-task.ensures in
    sym (space_refused h k c.args.t x at c.args.c bytes fits class c.requires.class (λ e. c.if-live-self.false (c.live.ensures.count ∙ e))
    (sym c.len.ensures.len ∙ c.if-len-eq0.true) c.if-task.true))

pub returns : goal.returns
returns c = λ bytes fits class. (
    let h = c.args.self.now in let k = c.requires.kept in let x = c.index-task.result.now in
    let at = task_there h k c.args.t c.requires.sixteen x c.index-task.ensures in
    sym (not_refused h k c.args.t x at c.args.c bytes fits class c.requires.class (λ e. c.if-live-self.false (c.live.ensures.count ∙ e))
    (λ none. elim c.else-len-eq0.branch [
      | else-len-eq0-via-then-len-eq0+else-task w ↦ w.if-task.false
      | else-len-eq0-via-else-len-eq0 w ↦ absurd (w.if-len-eq0.false (c.len.ensures.len ∙ none))
    ])))
