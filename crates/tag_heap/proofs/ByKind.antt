-- What the definitions that depend on the kind of a heap are for TLSF and Half-Fit: there is no block table, the words of an object are those of its block, the
-- free lists are those of the kind's rule, and a malloc follows their order.
use Rattle.std.proofs.Common.{◌≡◌, ℕ, Result, refl, subst}
use Rattle.cf_base.specs.declared.results.Handle.{Handle}
use Rattle.cf_base.specs.declared.results.Refusal.{Refusal}
use Rattle.cf_base.specs.declared.kind.Kind.{Kind}
use Rattle.cf_base.specs.declared.kind.Kind.TheVariants.{Moving, NonMoving, Tlsf, HalfFit}
use Rattle.page_model.specs.Held.{Placed}
use Rattle.page_model.specs.Steps.{CallResult}
use Rattle.block_model.specs.Buckets.{FreeLists}
use Rattle.block_model.specs.FreeOrder.{AreListsOf, BlocksWithLists}
use Rattle.block_model.specs.Tiling.{size_at}
use Rattle.cf_model.specs.Families.{IsTiled, free_lists_of, list_count_of, paged, tiled}
use Rattle.cf_model.specs.Ordered.{BlockMallocInOrder, IsOrderedMalloc}
use Rattle.cf_model.specs.State.{HeapState}
use Rattle.cf_model.specs.Steps.{frames_left, slot_in}
use Rattle.tag_heap.specs.Heap.{Heap, tag_order_of, tag_state_of}

not_paged : paged ≡ tiled → ⊥
not_paged e = cc

-- what holds of both kinds with blocks holds of each
pub of_tiled : (P : Kind → Type 0) → P Tlsf → P HalfFit → (k : Kind) → IsTiled k → P k
of_tiled P t h Moving is = absurd (not_paged is)
of_tiled P t h NonMoving is = absurd (not_paged is)
of_tiled P t h Tlsf is = t
of_tiled P t h HalfFit is = h

module _ (k : Kind) (is : IsTiled k) where
  pub frames_stay : (s : HeapState) (after : CallResult) → frames_left k s after ≡ s.frames
  frames_stay s after = of_tiled (λ k. frames_left k s after ≡ s.frames) refl refl k is

  -- the words of an object are those of its block
  pub slot_is : (s : HeapState) (x : Placed) → slot_in k s x ≡ size_at s.tiling x.place
  slot_is s x = of_tiled (λ k. slot_in k s x ≡ size_at s.tiling x.place) refl refl k is

  -- a malloc in the order of blocks is one in the order of the kind
  pub malloc_by : (old new : Heap) (bytes : ℕ) (answer : Result Handle Refusal)
      → BlockMallocInOrder (tag_state_of k old) bytes answer (tag_state_of k new) (tag_order_of old) (tag_order_of new)
      → IsOrderedMalloc (tag_state_of k old) bytes answer (tag_state_of k new)
  malloc_by old new bytes answer = of_tiled (λ j. BlockMallocInOrder (tag_state_of j old) bytes answer (tag_state_of j new) (tag_order_of old) (tag_order_of new)
      → IsOrderedMalloc (tag_state_of j old) bytes answer (tag_state_of j new)) (λ r. r) (λ r. r) k is

-- lists by a rule are those of the kind that has the rule
pub lists_of_kind : (k : Kind) (rule : FreeLists) (count : ℕ) (s : BlocksWithLists) → rule ≡ free_lists_of k → count ≡ list_count_of k → AreListsOf rule count s
    → AreListsOf (free_lists_of k) (list_count_of k) s
lists_of_kind k rule count s rule_is count_is of =
    subst (λ n. AreListsOf (free_lists_of k) n s) count_is (subst (λ r. AreListsOf r count s) rule_is of)
