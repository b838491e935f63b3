use Rattle.std.proofs.Common.{◌-◌, ◌≡◌, ◌*◌, ◌≤◌, ◌++◌, map, take}
use Rattle.cf_base.specs.Classes.{sizes_from}
use Rattle.quota_model.proofs.sizes.fill_rising.Given as goal

abbrev pub invariant-sizes : goal.invariant-sizes
invariant-sizes l = record {
  some : 1 ≤ l.size;
  made : take l.count l.table ++ map (λ s. l.unit * s) (sizes_from l.page l.size l.page) ≡ map (λ s. l.unit * s) (sizes_from l.page l.first l.page);
}

abbrev pub decreases-sizes : goal.decreases-sizes
decreases-sizes l = l.page - l.size
