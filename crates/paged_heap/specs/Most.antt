-- The step bounds that a manager with pages claims for its calls.
use Rattle.cf_base.specs.declared.kind.Kind.{Kind}
use Rattle.cf_model.specs.Bounds.{Bounds}
use Rattle.paged_heap.specs.Costs.{access_steps, free_steps, malloc_steps, resize_steps}

-- the most steps of each call of a kind with pages; those of `access`, `room_exact` and `totals_exact` are exact
abbrev pub page_bounds : Kind → Bounds
page_bounds kind = record {
  malloc = λ answer. malloc_steps kind;
  free = free_steps kind;
  resize = resize_steps kind;
  access = access_steps kind;
  room = λ answer. 1;
  room_exact = λ s bytes answer. 1;
  totals = λ totals. 0;
  totals_exact = λ s. 0;
}
