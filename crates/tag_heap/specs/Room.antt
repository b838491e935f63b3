-- For `has_room`: the block that a malloc would take now, or why it would be refused.
use Rattle.std.specs.Prelude.{◌≡◌, ◌≢◌, ℕ, ◌+◌, ◌≤◌, Some, Result, Ok, Err}
use Rattle.std.specs.FinMap.{len}
use Rattle.cf_base.specs.Classes.{need}
use Rattle.cf_base.specs.declared.results.Refusal.{Refusal}
use Rattle.cf_base.specs.declared.kind.Kind.{Kind}
use Rattle.block_model.specs.Buckets.{FreeLists}
use Rattle.block_model.specs.FreeOrder.{next_block}
use Rattle.tag_blocks.specs.Blocks.{FindsBlock}
use Rattle.cf_model.specs.Steps.{IsRefusedBy}
use Rattle.tag_heap.specs.Heap.{Heap, tag_state_of}

-- a result without its address, to compare it with what `has_room` returns
abbrev pub done_by : Result ℕ Refusal → Result Unit Refusal
done_by (Ok place) = Ok tt
done_by (Err e) = Err e

-- An object of `bytes` bytes fits a page, a proxy is free, and `place` is the address of the free block that a malloc of the object takes: the next block of
-- the free lists for the words that it needs.
pub record HasTagRoom (rule : FreeLists) (h : Heap) (bytes place : ℕ) : Type 0 where
  pub fits : need bytes ≤ h.settings.page_words
  pub few : len h.proxies.places ≢ h.proxies.limit
  pub found : FindsBlock rule h.tagged.blocks (need bytes + 1) place
  pub next : next_block rule h.tagged.lists (need bytes + 1) ≡ Some place

-- what `room` returns in the heap h for `bytes` bytes: the address of the block that a malloc takes, or the cause for which it is refused
abbrev pub IsBlockFor : FreeLists → Kind → Heap → ℕ → Result ℕ Refusal → Type 0
IsBlockFor rule kind h bytes (Ok place) = HasTagRoom rule h bytes place
IsBlockFor rule kind h bytes (Err e) = IsRefusedBy (tag_state_of kind h) bytes e
