-- How many steps the calls of a heap with blocks take: at most for each (`block_bounds`), exactly for a refused malloc, `has_room`, the figures, `find`,
-- reads, writes and `block_words`.
use Rattle.std.specs.Prelude.{ℕ, ◌+◌, ◌*◌, Option, Some, None, Result, Ok, Err}
use Rattle.cf_base.specs.declared.results.AccessFault.{AccessFault}
use Rattle.cf_base.specs.declared.results.AccessFault.TheVariants as access
use Rattle.cf_base.specs.declared.results.Handle.{Handle}
use Rattle.cf_base.specs.declared.results.Refusal.{Refusal}
use Rattle.cf_base.specs.declared.results.Refusal.TheVariants as refusal
use Rattle.page_model.specs.Order.{Order}
use Rattle.block_model.specs.Costs.{find_steps, largest_steps}
use Rattle.block_model.specs.FreeOrder.{next_block}
use Rattle.block_model.specs.Tiling.{block_need}
use Rattle.cf_model.specs.Bounds.{Bounds}
use Rattle.cf_model.specs.Costs.{block_free_bound, words_touched}
use Rattle.cf_model.specs.ExactCosts.{block_malloc_cost}
use Rattle.cf_model.specs.Families.{free_lists_of, list_count_of}
use Rattle.cf_model.specs.State.{HeapState}

-- the most steps of a malloc that is refused for this cause
abbrev pub refused_steps : Refusal → ℕ
refused_steps refusal.Size = 0
refused_steps refusal.Proxy = 0
refused_steps refusal.Space = 2

-- the most steps of `has_room`, the test whether a malloc would be refused, by its result
abbrev pub room_steps : Result Unit Refusal → ℕ
room_steps (Ok done) = 4
room_steps (Err e) = refused_steps e

-- The exact steps of the test whether a malloc of `bytes` bytes would be refused: those of the search for a block, if neither the size nor the proxies are a
-- cause; else none. A malloc that is refused costs the same steps.
abbrev pub search_steps : HeapState → ℕ → Result ℕ Refusal → ℕ
search_steps s bytes (Ok place) = find_steps (free_lists_of s.kind) (list_count_of s.kind) s.tiling (block_need bytes) (Some place)
search_steps s bytes (Err e) = block_malloc_cost s bytes (Err e) s

-- The steps of `has_room` for `bytes` bytes, by its result. If a malloc would succeed, they are those of the search for its block. If it would be refused, they
-- are those of the malloc. The free lists are those of the heap's order, which a heap of blocks always has.
abbrev pub has_room_steps : HeapState → Option Order → ℕ → Result Unit Refusal → ℕ
has_room_steps s None bytes answer = 0
has_room_steps s (Some order) bytes (Ok done) =
    find_steps (free_lists_of s.kind) (list_count_of s.kind) s.tiling (block_need bytes) (next_block (free_lists_of s.kind) order.not_full (block_need bytes))
has_room_steps s (Some order) bytes (Err e) = block_malloc_cost s bytes (Err e) s

-- The steps of the figures of a heap with this order: those of finding the largest free block. A heap of blocks always has an order.
abbrev pub totals_steps : Option Order → ℕ
totals_steps None = 0
totals_steps (Some order) = largest_steps order.not_full

-- the most steps of a malloc, by its result
abbrev pub tag_malloc_steps : Result Handle Refusal → ℕ
tag_malloc_steps (Ok handle) = 25
tag_malloc_steps (Err e) = refused_steps e

-- the exact steps of a read or a write that is refused: one reads the proxy; if the number is live, a second reads the object's header
abbrev pub tag_fault_steps : AccessFault → ℕ
tag_fault_steps access.Unknown = 1
tag_fault_steps access.Range = 2

-- the exact steps of `find`, by its result: reading the proxy and the header
abbrev pub found_steps : Result ℕ AccessFault → ℕ
found_steps (Ok place) = 2
found_steps (Err e) = tag_fault_steps e

-- the exact steps of a read or a write of `count` bytes from byte `from` on: those of `find`, and one for each word that holds one of the bytes
abbrev pub tag_access_steps : ℕ → ℕ → Result Unit AccessFault → ℕ
tag_access_steps from count (Ok done) = 2 + words_touched from count
tag_access_steps from count (Err e) = tag_fault_steps e

-- the exact steps of a call for the words of an object's block, by its result: the proxy, and if the number is live the block's header
abbrev pub block_words_steps : Option ℕ → ℕ
block_words_steps (Some words) = 2
block_words_steps None = 1

-- the most steps of each call of a kind with blocks; a resize is always refused, after at most 1 step, and the totals take at most 3 steps and 2 for each
-- free block
abbrev pub block_bounds : Bounds
block_bounds = record {
  malloc = tag_malloc_steps;
  free = block_free_bound;
  resize = λ n answer. 1;
  access = tag_access_steps;
  room = room_steps;
  room_exact = λ s bytes answer. has_room_steps s s.order bytes answer;
  totals = λ totals. 3 + 2 * totals.free;
  totals_exact = λ s. totals_steps s.order;
}
