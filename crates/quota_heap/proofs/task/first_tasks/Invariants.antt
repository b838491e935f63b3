use Rattle.std.proofs.Common.{◌≡◌, ◌≤◌, replicate}
use Rattle.proxy_table.specs.Proxies.{AreBelowLimit, no_proxies}
use Rattle.quota_heap.specs.Layout.{first_task}
use Rattle.quota_heap.proofs.task.first_tasks.Given as goal

abbrev pub invariant-loop-i : goal.invariant-loop-i
invariant-loop-i l = (l.tasks.items ≡ replicate l._i (first_task l.classes l.pages l.proxies)) × (1 ≤ l._i → AreBelowLimit (no_proxies l.proxies))
