use Rattle.std.proofs.Common.{◌+◌, ◌-◌, ◌≡◌, ◌≤◌, length}
use Rattle.cf_base.specs.Classes.{sizes_from}
use Rattle.cf_base.proofs.classes.count_rising.Given as goal

abbrev pub invariant-counted : goal.invariant-counted
invariant-counted l = record {
  low : 1 ≤ l.size;
  few : l.count ≤ l.size;
  counted : l.count + length (sizes_from l.page l.size l.page) ≡ 1 + length (sizes_from l.page l.first l.page);
}

abbrev pub decreases-counted : goal.decreases-counted
decreases-counted l = l.page - l.size
