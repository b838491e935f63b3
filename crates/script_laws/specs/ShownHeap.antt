-- The heap as the headline sees it: what the lines of a script and their replies show; and when it is arranged by the rules (`IsArranged`).
use Rattle.std.specs.Prelude.{ℕ, [], Option, Some, None}
use Rattle.run_model.specs.Terms.{empty, family_of, HeapState, Ids, IsPaging, IsSound, Kind, more_by, paged, paging_in, Profile, region_words, tiled}
use Rattle.block_model.specs.Tiling.{IsTiling}
use Rattle.cf_model.specs.Steps.{empty_heap}

-- `heap` is the state of a manager, with objects under the ids of the script instead of handles. Its words are always the empty list, since the objects and
-- blocks determine them (`ShowsWord`), and its order is none: the headline claims nothing of it. `numbers` has the manager's own number of each id's object,
-- which only the object's header shows. `step_bound` is the bound on the steps of the last malloc, free or resize, 0 before the first. `moves` counts the
-- objects that frees and resizes moved into the slots that they freed, `moved_words` the words of these slots.
pub record ShownHeap : Type 0 where
  pub heap : HeapState
  pub numbers : Ids
  pub step_bound : ℕ
  pub moves : ℕ
  pub moved_words : ℕ

-- the heap after the `heap` line with settings `p`, without objects
abbrev pub heap_opened : Kind → Profile → ShownHeap
heap_opened kind p = record { heap = empty_heap kind p []; numbers = empty; step_bound = 0; moves = 0; moved_words = 0 }

-- the heap `s` with a move counted, if the object of an id moved into a slot of `n` words; `s` itself if none moved
abbrev pub move_counted : ShownHeap → Option ℕ → ℕ → ShownHeap
move_counted s None n = s
move_counted s (Some id) n = record s { moves = more_by s.moves 1; moved_words = more_by s.moved_words n }

-- Heap `h` is arranged by the rules. With pages each object has a slot of its class to itself, a page holds objects of one class, and no class has more partly
-- full pages than its bound. With blocks these fill the region, and no two neighbours are both free.
abbrev pub IsArranged : HeapState → Type 0
IsArranged h = elim (family_of h.kind) [
  | paged ↦ IsPaging (paging_in h) × IsSound (paging_in h) h.held
  | tiled ↦ IsTiling (region_words h.profile) h.tiling
]
