-- For `free`: what it does is independent of the stored cost, and its steps are few.
use Rattle.std.proofs.Common.{ℕ, ◌^◌, ◌<◌, Result, Ok, Err, arith, ◌∙◌, ap}
use Rattle.cf_base.specs.declared.results.Freed.{Freed}
use Rattle.cf_base.specs.declared.results.NotLive.{NotLive}
use Rattle.cf_model.specs.Costs.{free_bound}
use Rattle.cf_model.specs.State.{HeapState}
use Rattle.cf_model.specs.Steps.{IsFreeStep}
use Rattle.page_model.specs.Arrangement.{class_at}
use Rattle.page_model.proofs.CallerLemmas.{slot_fits}
use Rattle.paged_heap.specs.Heap.{Heap}
use Rattle.paged_heap.specs.Layout.{IsValid, paging_at, state_of}
use Rattle.paged_heap.proofs.LayoutFacts.{paged_kind, paging_ok}
use Rattle.paged_heap.proofs.CountLimits.{page_small}
use Rattle.paged_heap.proofs.ByKind.{slot_in_is}

-- what a free does (`IsFreeStep`) does not depend on the cost that is stored after it
pub free_with_cost : (o : Heap) (q : ℕ) (r : Result Freed NotLive) (h : Heap) (cost : ℕ) → IsFreeStep (state_of o) q r (state_of h)
    → IsFreeStep (state_of o) q r (state_of (record h { cost = cost }))
free_with_cost o q (Ok freed) h cost g = record {
  object = g.object;
  found = g.found;
  slot = g.slot;
  moves = g.moves;
  held = g.held;
  left = g.left;
  frames = g.frames;
  tiling = g.tiling;
  rest = (let rest = g.rest in record { kind = rest.kind; opened = rest.opened; profile = rest.profile; bounds = rest.bounds });
}
free_with_cost o q (Err e) h cost (cause, same) = (cause, ap (λ (t : HeapState). record t { cost = cost }) same)

-- the most steps of a free are below 2^62
pub few_free : (h : Heap) (k : IsValid h) (q : ℕ) (r : Result Freed NotLive) (s : HeapState) → IsFreeStep (state_of h) q r s → free_bound r < 2 ^ 62
few_free h k q (Ok freed) s g =
    let fits = slot_fits (paging_at h) (paging_ok h k) (class_at (paging_at h) g.object) (k.sound.slots q g.object g.found).class in
    let small = page_small h k in
    let e = g.slot ∙ slot_in_is h.kind (paged_kind h k) (state_of h) g.object in
    omega arith
few_free h k q (Err e) s g = omega arith
