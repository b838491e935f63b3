-- Every call of a heap of any kind has a result, and a state after it that keeps the heap's rules: the answers for pages and for blocks, put together.
use Rattle.std.proofs.Common.{◌≡◌, ℕ, ◌≤◌, List, Some, refl}
use Rattle.run_model.specs.Terms.{AreBytes, family_of, get, HeapState, KeepsRules, Placed, Position, Request, with_bound}
use Rattle.cf_model.specs.Families as family
use Rattle.cf_model.specs.Families.{Family}
use Rattle.run_model.specs.Steps.{class_to_bound}
use Rattle.script_laws.proofs.Answered.{HasFree, HasMalloc, HasResize, HasWrite}
use Rattle.script_laws.proofs.BlockAnswers as blocks
use Rattle.script_laws.proofs.PageRules as pages
use Rattle.script_laws.proofs.PageFree as page_free
use Rattle.script_laws.proofs.PageResize as page_resize

-- a heap for which each call has a result
pub record HasAnswers (s : HeapState) : Type 0 where
  pub malloc : (n : ℕ) → HasMalloc s n
  pub free : (h : ℕ) (x : Placed) → get s.held h ≡ Some x → HasFree s h
  pub write : (position : Position) (bytes : List ℕ) (x : Placed) → AreBytes bytes → get s.held position.number ≡ Some x → HasWrite s position bytes
  pub resize : (asked : Request) (x : Placed) → get s.held asked.number ≡ Some x → HasResize s asked
  pub bound : (slot_words k : ℕ) → 1 ≤ k → k ≤ 64 → KeepsRules (with_bound s (class_to_bound s slot_words) k)

pub answers : (s : HeapState) → KeepsRules s → HasAnswers s
answers s rules = by_family (family_of s.kind) refl
  where
    by_family : (f : Family) → family_of s.kind ≡ f → HasAnswers s
    by_family family.paged is = record {
      malloc = pages.malloc_done s rules is;
      free = page_free.free_done s rules is;
      write = pages.write_done s rules is;
      resize = page_resize.resize_done s rules is;
      bound = pages.bound_done s rules is;
    }
    by_family family.tiled is = record {
      malloc = blocks.malloc_done s rules is;
      free = blocks.free_done s rules is;
      write = blocks.write_done s rules is;
      resize = blocks.resize_done s rules is;
      bound = λ slot_words k some low. blocks.bound_done s rules is slot_words k;
    }
