-- For `free_left` of `of_kind.rt`: what is free in a heap of each family.
use Rattle.std.proofs.Common.{◌≡◌, ℕ, ◌-◌, ap}
use Rattle.cf_model.specs.Answers.{usage_in}
use Rattle.cf_model.specs.Families.{Family, IsPaged, IsTiled, paged, tiled}
use Rattle.cf_model.specs.State.{HeapState, paging_in}
use Rattle.page_model.specs.Arrangement.{free_pages}
use Rattle.held_heap.specs.Counts.{free_left}

abbrev by_family : HeapState → Family → ℕ
by_family s f = elim f [ paged ↦ free_pages (paging_in s) s.held | tiled ↦ (usage_in s.kind s).held - (usage_in s.kind s).taken ]

pub free_paged : (s : HeapState) → IsPaged s.kind → free_left s ≡ free_pages (paging_in s) s.held
free_paged s is = ap (by_family s) is

pub free_tiled : (s : HeapState) → IsTiled s.kind → free_left s ≡ (usage_in s.kind s).held - (usage_in s.kind s).taken
free_tiled s is = ap (by_family s) is
