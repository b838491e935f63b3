use Rattle.std.proofs.Common.{refl}
use Rattle.quota_heap.specs.declared.open_tasks.OpenTasks.{OpenTasks}
use Rattle.quota_heap.proofs.OpenLemmas.{opened_empty, opened_kept}
use Rattle.quota_heap.proofs.open_tasks.OpenTasks.new.Goals as goal

pub returns-clause-kept : goal.returns-clause-kept
returns-clause-kept c =
    let h : OpenTasks = record { shared_pages = c.in_ok-shared_pages.shared_pages; tasks = c.in_ok-tasks.tasks; granted = 0 } in
    opened_kept c.args.s.now h c.in_ok-shared_pages.ensures c.len.result c.len.ensures c.in_ok-tasks.ensures.first refl c.in_ok-tasks.ensures.handles

pub returns-clause-empty : goal.returns-clause-empty
returns-clause-empty c =
    let h : OpenTasks = record { shared_pages = c.in_ok-shared_pages.shared_pages; tasks = c.in_ok-tasks.tasks; granted = 0 } in
    opened_empty c.args.s.now h c.in_ok-shared_pages.ensures c.len.result c.len.ensures c.in_ok-tasks.ensures.first refl c.in_ok-tasks.ensures.handles
