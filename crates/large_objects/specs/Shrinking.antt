-- The free of an object, by its inner objects: those that must be live before, an inner manager in the middle of it, with some parts of a long object
-- freed, and what it freed. In all definitions u is the bytes of a whole part, and n those of the object; h is the handle of the object, which is that of
-- its spine if it has one. No public clause cites this module.
use Rattle.std.specs.Prelude.{◌≡◌, ◌≢◌, ℕ, ◌+◌, ◌<◌, ◌≤◌, ◌⊎◌, List, Some, None, length, take, drop, sum_by}
use Rattle.std.specs.FinMap.{get, remove, len}
use Rattle.page_model.specs.Arrangement.{live}
use Rattle.page_model.specs.Held.{Objects, objects}
use Rattle.page_model.specs.Paging.{Paging}
use Rattle.cf_model.specs.State.{HeapState, paging_in}
use Rattle.large_objects.specs.InnerCalls.{StaysReady}
use Rattle.large_objects.specs.Large.{HasSpine, named}
use Rattle.large_objects.specs.InnerObjects.{in_class, length_sum, inner_lengths, part_length, part_count}

-- In a free that began with the inner objects `old`, the first i parts of the object are freed. The inner objects are now those of `now`, where no
-- other one has changed. `named old h j` is the handle of part j in the spine.
pub record IsShrinking (p : Paging) (u n : ℕ) (old : Objects) (h i : ℕ) (now : Objects) : Type 0 where
  pub gone : (j : ℕ) → j < i → get now (named old h j) ≡ None
  pub others : (q : ℕ) → ((j : ℕ) → j < i → q ≢ named old h j) → get now q ≡ get old q
  -- the inner objects of each class, all inner objects, and each sum over their lengths fell by these parts
  pub live_now : (c : ℕ) → live p now c + in_class p c (take i (drop 1 (inner_lengths u n))) ≡ live p old c
  pub all : len now + i ≡ len old
  pub sums_now : (f : ℕ → ℕ) → length_sum f now + sum_by f (take i (drop 1 (inner_lengths u n))) ≡ length_sum f old

-- among the inner objects o the spine h and all parts of the object are live, with different handles
pub record HasParts (u n : ℕ) (o : Objects) (h : ℕ) : Type 0 where
  pub spine : HasSpine u o h n
  pub made : (j : ℕ) → j < part_count u n → (v : List ℕ) × (get o (named o h j) ≡ Some v) × (length v ≡ part_length u n j)
  pub not_spine : (j : ℕ) → j < part_count u n → named o h j ≢ h
  pub apart : (j k : ℕ) → j < part_count u n → k < part_count u n → named o h j ≡ named o h k → j ≡ k

-- `IsShrinking` for the objects that an inner manager has before the free (`old`) and now; the manager has the same settings and is ready (`IsReadyInner`)
pub record Shrinks (u n : ℕ) (old : HeapState) (h i : ℕ) (now : HeapState) : Type 0 where
  pub stays : StaysReady old now
  pub shrinking : IsShrinking (paging_in old) u n (objects old.held) h i (objects now.held)

-- all inner objects of the object h of n bytes are live: the object itself if it fits a page, else its spine and its parts
abbrev pub HasInnerObjects : ℕ → ℕ → HeapState → ℕ → Type 0
HasInnerObjects u n s h = ((n ≤ u) × ((v : List ℕ) × (get (objects s.held) h ≡ Some v) × (length v ≡ n))) ⊎ ((u < n) × HasParts u n (objects s.held) h)

-- the object h of n bytes, which fits a page, was freed as one inner object
pub record ReleasesShort (u n : ℕ) (old : HeapState) (h : ℕ) (new : HeapState) : Type 0 where
  pub short : n ≤ u
  pub stays : StaysReady old new
  pub left : objects new.held ≡ remove (objects old.held) h

-- All parts of the object h of n bytes, which is longer than a page, and then its spine, were freed. In between the inner objects were `mid`.
pub record ReleasesLong (u n : ℕ) (old : HeapState) (h : ℕ) (new : HeapState) : Type 0 where
  pub long : u < n
  pub stays : StaysReady old new
  pub mid : Objects
  pub shrunk : IsShrinking (paging_in old) u n (objects old.held) h (part_count u n) mid
  pub left : objects new.held ≡ remove mid h

-- all inner objects of the object h of n bytes were freed
abbrev pub ReleasesInner : ℕ → ℕ → HeapState → ℕ → HeapState → Type 0
ReleasesInner u n old h new = ReleasesShort u n old h new ⊎ ReleasesLong u n old h new
