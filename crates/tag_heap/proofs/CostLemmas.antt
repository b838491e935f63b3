-- The steps of a malloc and of a free of a heap with blocks, added up from their parts: the search for a free block, the proxy, and making the block used or
-- free. A malloc takes at most 25 steps; its steps and what it chooses don't depend on the cost that the new state holds.
use Rattle.std.proofs.Common.{◌≡◌, ℕ, ◌+◌, ◌-◌, ◌≤◌, List, Option, Some, None, Result, Ok, Err, arith, refl, ◌∙◌, ap}
use Rattle.std.specs.Prelude.{IfSome}
use Rattle.cf_base.specs.Classes.{need}
use Rattle.cf_base.specs.declared.results.Handle.{Handle}
use Rattle.cf_base.specs.declared.results.Refusal.{Refusal}
use Rattle.cf_base.specs.declared.results.Refusal.TheVariants as refusal
use Rattle.cf_base.specs.declared.kind.Kind.{Kind}
use Rattle.block_model.specs.Buckets.{FreeLists}
use Rattle.block_model.specs.Costs.{carve_at_steps, carve_steps, find_steps, release_steps}
use Rattle.block_model.specs.Tiling.{Block, block_need}
use Rattle.cf_model.specs.Answers.{place_of}
use Rattle.cf_model.specs.ExactCosts.{block_malloc_cost}
use Rattle.cf_model.specs.Families.{free_lists_of, list_count_of}
use Rattle.cf_model.specs.Ordered.{CarvesInOrder}
use Rattle.cf_model.specs.State.{HeapState}
use Rattle.tag_heap.specs.Costs.{tag_malloc_steps}
use Rattle.tag_heap.specs.Choices.{TagMallocChooses}
use Rattle.tag_heap.specs.Heap.{Heap, tag_order_of, tag_state_of}

-- the cost of a call is the difference of the counts after and before it
pub cost_is : (old mid count before n : ℕ) → mid ≡ old + n → before ≡ old → count ≡ mid → count - before ≡ n
cost_is old mid count before n rose a b = omega arith

-- ---- mallocs

pub malloc_few : (answer : Result Handle Refusal) → tag_malloc_steps answer ≤ 25
malloc_few (Ok q) = omega arith
malloc_few (Err refusal.Size) = omega arith
malloc_few (Err refusal.Proxy) = omega arith
malloc_few (Err refusal.Space) = omega arith

-- the cost of a malloc doesn't depend on the cost that the state holds
pub malloc_cost_kept : (old new : HeapState) (cost bytes : ℕ) (answer : Result Handle Refusal)
    → block_malloc_cost old bytes answer new ≡ block_malloc_cost old bytes answer (record new { cost = cost })
malloc_cost_kept old new cost bytes (Ok q) = refl
malloc_cost_kept old new cost bytes (Err refusal.Size) = refl
malloc_cost_kept old new cost bytes (Err refusal.Proxy) = refl
malloc_cost_kept old new cost bytes (Err refusal.Space) = refl

-- what a malloc chooses doesn't depend on that cost either
pub malloc_choice_kept : (k : Kind) (old new : Heap) (cost bytes : ℕ) (answer : Result Handle Refusal) → TagMallocChooses k old bytes answer new
    → TagMallocChooses k old bytes answer (record new { cost = cost })
malloc_choice_kept k old new cost bytes (Ok q) made = by_place (place_of (tag_state_of k new) q.0) made
  where
    by_place : (o : Option ℕ)
        → IfSome o (λ a. CarvesInOrder (tag_state_of k old) (record { number = q.0; length = bytes }) a (tag_state_of k new) (tag_order_of old) (tag_order_of new))
        → IfSome o (λ a. CarvesInOrder (tag_state_of k old) (record { number = q.0; length = bytes }) a (tag_state_of k (record new { cost = cost })) (tag_order_of old)
        (tag_order_of new))
    by_place None made = made
    by_place (Some a) made = record { rest = made.rest; number = made.number; carves = made.carves; left = made.left }
malloc_choice_kept k old new cost bytes (Err e) made = made

two_last : (x y : ℕ) → x + (2 + y) ≡ x + y + 2
two_last x y = omega arith

module _ (k : Kind) (rule : FreeLists) (count : ℕ) (rule_is : rule ≡ free_lists_of k) (count_is : count ≡ list_count_of k) (n needed : ℕ)
    (needed_is : needed ≡ need n) where
  words_needed : needed + 1 ≡ block_need n
  words_needed = (let e = needed_is in omega arith)

  -- the steps of a search for a block, by the kind in place of its rule
  pub find_cost : (blocks : List Block) (found : Option ℕ)
      → find_steps rule count blocks (needed + 1) found ≡ find_steps (free_lists_of k) (list_count_of k) blocks (block_need n) found
  find_cost blocks found =
      ap (λ r. find_steps r count blocks (needed + 1) found) rule_is
      ∙ ap (λ c. find_steps (free_lists_of k) c blocks (needed + 1) found) count_is
      ∙ ap (λ m. find_steps (free_lists_of k) (list_count_of k) blocks m found) words_needed

  -- the steps of a malloc: those of a search that finds a block, of a proxy that is bound, and of a carve
  pub malloc_cost_is : (words : List ℕ) (blocks left : List Block) (a : ℕ)
      → find_steps (free_lists_of k) (list_count_of k) blocks (block_need n) (Some a) + (2 + carve_at_steps rule words blocks (needed + 1) a left)
      ≡ carve_steps (free_lists_of k) (list_count_of k) words blocks (block_need n) (Some a) left + 2
  malloc_cost_is words blocks left a =
      ap (λ r. find_steps (free_lists_of k) (list_count_of k) blocks (block_need n) (Some a) + (2 + carve_at_steps r words blocks (needed + 1) a left)) rule_is
      ∙ ap (λ m. find_steps (free_lists_of k) (list_count_of k) blocks (block_need n) (Some a) + (2 + carve_at_steps (free_lists_of k) words blocks m a left))
      words_needed
      ∙ two_last (find_steps (free_lists_of k) (list_count_of k) blocks (block_need n) (Some a))
      (carve_at_steps (free_lists_of k) words blocks (block_need n) a left)

-- ---- frees

four_last : (x : ℕ) → 1 + (1 + (2 + x)) ≡ x + 4
four_last x = omega arith

-- the steps of a free: the proxy and the tag are read, the proxy is released, and so is the block
pub free_cost_is : (k : Kind) (rule : FreeLists) → rule ≡ free_lists_of k → (words : List ℕ) (blocks left : List Block) (a : ℕ)
    → 1 + (1 + (2 + release_steps rule words blocks a left)) ≡ release_steps (free_lists_of k) words blocks a left + 4
free_cost_is k rule rule_is words blocks left a =
    ap (λ r. 1 + (1 + (2 + release_steps r words blocks a left))) rule_is ∙ four_last (release_steps (free_lists_of k) words blocks a left)
