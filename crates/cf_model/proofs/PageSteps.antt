-- The law `calls_are_the_steps_of_pages`: with pages, a malloc and a free that succeed are those of the page model (`PlacesObject`, `RemovesObject`).
use Rattle.std.proofs.Common.{ℕ, ap}
use Rattle.cf_base.specs.declared.results.Freed.{Freed}
use Rattle.page_model.specs.Steps.{PlacesObject, RemovesObject, Request}
use Rattle.cf_model.specs.Rules.{IsPaged}
use Rattle.cf_model.specs.State.{HeapState, paging_in}
use Rattle.cf_model.specs.Steps.{FreesObject, AddsObject, IsPlacedBy, MovesIn, number_of}

pub malloc_places : (old new : HeapState) (asked : Request) → IsPaged old.kind → AddsObject old asked new
    → PlacesObject (paging_in old) old.held asked new.held
malloc_places old new asked is given = record {
  place = given.place;
  unused = given.unused;
  free = rw (is, IsPlacedBy) at given.placed;
  placed = ap (λ (s : HeapState). s.held) given.whole;
}

pub free_removes : (old new : HeapState) (h : ℕ) (freed : Freed) → IsPaged old.kind → FreesObject old h freed new
    → RemovesObject (paging_in old) old.held h (record { held = new.held; moved = number_of freed.moved })
free_removes old new h freed is frees = record {
  freed = frees.object;
  found = frees.found;
  moves = rw (is, MovesIn) at frees.moves;
  left = frees.held;
}
