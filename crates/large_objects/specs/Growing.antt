-- The malloc of an object, by its inner objects: the room that it needs, an inner manager in the middle of it, with some parts of a long object made, and what
-- it made. u is the bytes of a whole part. If not said otherwise, n is the bytes of the object, and h the handle of its spine. No public clause cites this
-- module.
use Rattle.std.specs.Prelude.{◌≡◌, ◌≢◌, ℕ, ◌+◌, ◌*◌, ◌^◌, ◌≤◌, ◌<◌, ◌⊎◌, List, Some, None, length, take, replicate, sum_by}
use Rattle.std.specs.FinMap.{get, insert, len}
use Rattle.std.specs.Int.{to_le_bytes, w32}
use Rattle.page_model.specs.Arrangement.{live, pages_for}
use Rattle.page_model.specs.Bytes.{written}
use Rattle.page_model.specs.Held.{Objects, objects}
use Rattle.page_model.specs.Paging.{Paging}
use Rattle.cf_model.specs.State.{HeapState, paging_in}
use Rattle.large_objects.specs.InnerCalls.{IsReadyInner, StaysReady}
use Rattle.large_objects.specs.Large.{HasSpine, named}
use Rattle.large_objects.specs.LargeSteps.{FitsSpine}
use Rattle.large_objects.specs.InnerObjects.{in_class, length_sum, inner_lengths, whole_part_bytes, part_length, part_count}

-- the inner manager s is ready (`IsReadyInner`: open, with its rules, with pages, every bound 1), and has the proxies and the pages for all inner objects of one
-- more object of n bytes, which fits a page, or whose spine does
pub record HasObjectRoom (u n : ℕ) (s : HeapState) : Type 0 where
  pub ready : IsReadyInner s
  pub part_bytes : u ≡ whole_part_bytes s.profile
  pub fits : FitsSpine u n
  pub proxies : len (objects s.held) + length (inner_lengths u n) ≤ s.profile.proxies
  pub pages : pages_for (paging_in s) (λ c. live (paging_in s) (objects s.held) c + in_class (paging_in s) c (inner_lengths u n)) ≤ s.profile.pages

-- In a malloc that began with the inner objects `old`, the spine h and the first i parts are made, and the spine holds the handles of these parts.
-- The inner objects are now those of `now`: all old ones unchanged, and these. `named now h j` is the handle of part j in the spine.
pub record IsGrowing (p : Paging) (u n : ℕ) (old : Objects) (h i : ℕ) (now : Objects) : Type 0 where
  pub spine : HasSpine u now h n
  pub unused : get old h ≡ None
  pub others : (q : ℕ) (b : List ℕ) → get old q ≡ Some b → get now q ≡ Some b
  -- each of the first i parts is live and zero; its handle is new, differs from the spine's and from those of the other parts
  pub made : (j : ℕ) → j < i → get now (named now h j) ≡ Some (replicate (part_length u n j) 0)
  pub fresh : (j : ℕ) → j < i → get old (named now h j) ≡ None
  pub not_spine : (j : ℕ) → j < i → named now h j ≢ h
  pub apart : (j k : ℕ) → j < i → k < i → named now h j ≡ named now h k → j ≡ k
  -- no other inner object was made
  pub no_others : (q : ℕ) (b : List ℕ) → get now q ≡ Some b → get old q ≡ None → (q ≡ h) ⊎ ((j : ℕ) × (j < i) × (q ≡ named now h j))
  -- the inner objects of each class, all inner objects, and each sum over their lengths grew by the spine and these parts
  pub live_now : (c : ℕ) → live p now c ≡ live p old c + in_class p c (take (1 + i) (inner_lengths u n))
  pub all : len now ≡ len old + (1 + i)
  pub sums_now : (f : ℕ → ℕ) → length_sum f now ≡ length_sum f old + sum_by f (take (1 + i) (inner_lengths u n))

-- `IsGrowing` for the objects that an inner manager has before the malloc (`old`) and now; the manager has the same settings and is ready (`IsReadyInner`)
pub record GrowsInner (u n : ℕ) (old : HeapState) (h i : ℕ) (now : HeapState) : Type 0 where
  pub stays : StaysReady old now
  pub growing : IsGrowing (paging_in old) u n (objects old.held) h i (objects now.held)

-- One part of n zero bytes was made, with the handle `number`, and the spine h holds this handle at place i. `spine` are the bytes of the spine before the
-- call.
pub record NamesPart (old : HeapState) (h i n : ℕ) (new : HeapState) : Type 0 where
  pub stays : StaysReady old new
  pub number : ℕ
  pub unused : get (objects old.held) number ≡ None
  pub below : number < 2 ^ 32
  pub spine : List ℕ
  pub found : get (objects old.held) h ≡ Some spine
  pub left : objects new.held ≡ insert (insert (objects old.held) number (replicate n 0)) h (written spine (4 * i) (to_le_bytes w32 number))

-- an object of n zero bytes, which fits a page, was made as the inner object h
pub record MakesShort (u n : ℕ) (old : HeapState) (h : ℕ) (new : HeapState) : Type 0 where
  pub short : n ≤ u
  pub stays : StaysReady old new
  pub unused : get (objects old.held) h ≡ None
  pub left : objects new.held ≡ insert (objects old.held) h (replicate n 0)

-- the spine h and all parts of an object of n zero bytes, which is longer than a page, were made
pub record MakesLong (u n : ℕ) (old : HeapState) (h : ℕ) (new : HeapState) : Type 0 where
  pub long : u < n
  pub grown : GrowsInner u n old h (part_count u n) new

-- all inner objects of an object of n zero bytes were made; h is its handle
abbrev pub MakesInner : ℕ → ℕ → HeapState → ℕ → HeapState → Type 0
MakesInner u n old h new = MakesShort u n old h new ⊎ MakesLong u n old h new
