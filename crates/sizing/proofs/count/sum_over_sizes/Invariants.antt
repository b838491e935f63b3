use Rattle.std.proofs.Common.{◌-◌, ◌≡◌, ◌≤◌, ◌+◌, ◌*◌, map}
use Rattle.cf_base.specs.Classes.{sizes_from}
use Rattle.sizing.specs.Layout.{pages_by_size}
use Rattle.sizing.proofs.count.sum_over_sizes.Given as goal

abbrev pub invariant-sizes : goal.invariant-sizes
invariant-sizes l = record {
  low : 1 ≤ l.size;
  sum : l.pages + pages_by_size (l.unit * l.page) l.below (map (λ s. l.unit * s) (sizes_from l.page l.size l.page)) l.needs
      ≡ pages_by_size (l.unit * l.page) 0 (map (λ s. l.unit * s) (sizes_from l.page l.first l.page)) l.needs;
}

abbrev pub decreases-sizes : goal.decreases-sizes
decreases-sizes l = l.page - l.size
