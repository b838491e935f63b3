-- What other crates' proofs may cite: the object at a live number's address, and which bytes lie in it; and that after a write into the words of an object the
-- heap keeps its invariant, and its state has the written bytes.
use Rattle.std.proofs.Common.{◌≡◌, ℕ, ◌+◌, ◌≤◌, length, Some, None}
use Rattle.std.specs.FinMap.{get}
use Rattle.page_model.specs.Bytes.{bytes_at}
use Rattle.page_slots.specs.Owner.{HoldsBytesAt, placed_at}
use Rattle.page_slots.proofs.CallerLemmas.{held, no_place as absent}
use Rattle.paged_heap.specs.Heap.{Heap}
use Rattle.paged_heap.specs.Layout.{IsValid, held_in, owner_in}
use Rattle.paged_heap.proofs.LayoutFacts.{owns}
pub use Rattle.paged_heap.proofs.WriteLemmas.{wrote, wrote_kept}

module _ (h : Heap) (k : IsValid h) (q : ℕ) where
  pub no_place : get h.proxies.places q ≡ None → get (held_in h) q ≡ None
  no_place e = absent (owner_in h) q e

  module _ (a : ℕ) (some : get h.proxies.places q ≡ Some a) where
    pub has_place : get (held_in h) q ≡ Some (placed_at (owner_in h) a)
    has_place = held (owns k) q a some

    pub lies : (at count : ℕ) → at + count ≤ length (bytes_at h.words a) → HoldsBytesAt (owner_in h) q at count a
    lies at count fits = record { found = some; within = fits }
