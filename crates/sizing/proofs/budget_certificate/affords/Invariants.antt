use Rattle.std.proofs.Common.{◌≡◌, ◌+◌, ◌-◌, ◌*◌, ◌^◌, ◌<◌, slice_index}
use Rattle.std.specs.Prelude.{sum_by}
use Rattle.std.specs.List.{range_with_len}
use Rattle.page_model.specs.Paging.{classes, slots_of}
use Rattle.sizing.specs.Checks.{paging_with}
use Rattle.sizing.specs.Demands.{objects_to_open}
use Rattle.sizing.proofs.budget_certificate.affords.Given as goal

abbrev pub invariant-loop-c : goal.invariant-loop-c
invariant-loop-c l = record {
  low : l.left < 2 ^ 32;
  rest : l.left + sum_by (λ c. objects_to_open (slice_index l.opened c) (slots_of (paging_with 0 l.heap) c) * slice_index l.prices c) (range_with_len 0 (classes (paging_with 0 l.heap)))
      ≡ l.budget
      + sum_by (λ c. objects_to_open (slice_index l.opened c) (slots_of (paging_with 0 l.heap) c) * slice_index l.prices c) (range_with_len l.c (classes (paging_with 0 l.heap) - l.c));
}
