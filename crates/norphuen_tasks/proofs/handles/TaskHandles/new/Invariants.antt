use Rattle.std.proofs.Common.{◌≡◌, length}
use Rattle.std.specs.List.{All}
use Rattle.c_base.specs.HandleRules.{AreFirstHandles}
use Rattle.norphuen_tasks.proofs.handles.TaskHandles.new.Given as goal

abbrev pub invariant-loop-i : goal.invariant-loop-i
invariant-loop-i l = (length l.of.items ≡ l._i) × All (AreFirstHandles l.proxies l.last) l.of.items
