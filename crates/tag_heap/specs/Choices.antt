-- The choices of a malloc and a free of a heap with blocks: a malloc uses the number (of a proxy) and the block that the order lists next; after a free
-- the number and the block that it frees are first in the order. No public clause cites this module.
use Rattle.std.specs.Prelude.{◌≡◌, ℕ, ◌∷◌, IfOk, IfSome, Result}
use Rattle.cf_base.specs.declared.results.Freed.{Freed}
use Rattle.cf_base.specs.declared.results.Handle.{Handle}
use Rattle.cf_base.specs.declared.results.NotLive.{NotLive}
use Rattle.cf_base.specs.declared.results.Refusal.{Refusal}
use Rattle.cf_base.specs.declared.kind.Kind.{Kind}
use Rattle.block_model.specs.FreeOrder.{lists_released}
use Rattle.cf_model.specs.Answers.{place_of}
use Rattle.cf_model.specs.Families.{free_lists_of}
use Rattle.cf_model.specs.Ordered.{CarvesInOrder}
use Rattle.cf_model.specs.Rules.{listed_by}
use Rattle.tag_heap.specs.Heap.{Heap, tag_order_of, tag_state_of}

-- If a malloc of `bytes` bytes succeeds, it uses the number and carves the block that the order of the heap `old` lists next. It leaves the order of the heap
-- `new`.
abbrev pub TagMallocChooses : Kind → Heap → ℕ → Result Handle Refusal → Heap → Type 0
TagMallocChooses kind old bytes answer new = IfOk answer (λ q. IfSome (place_of (tag_state_of kind new) q.0)
    (λ a. CarvesInOrder (tag_state_of kind old) (record { number = q.0; length = bytes }) a (tag_state_of kind new) (tag_order_of old) (tag_order_of new)))

-- a free of object q, if it succeeds, releases its block and its number: in the order of the heap `new` the free block that results is the first of its list,
-- and the number the first free one
abbrev pub TagFreeChooses : Kind → Heap → ℕ → Result Freed NotLive → Heap → Type 0
TagFreeChooses kind old q answer new = IfOk answer (λ freed. IfSome (place_of (tag_state_of kind old) q) (λ a. tag_order_of new ≡ record (tag_order_of old) {
  not_full = lists_released (free_lists_of kind) (listed_by (tag_state_of kind old) (tag_order_of old)) a;
  spare = q ∷ (tag_order_of old).spare;
}))
