-- What the fields of a heap of long objects represent, and their invariant. The heap stores the length of each object by handle; the inner manager holds the
-- bytes. In all definitions u is the bytes of a whole part. No public clause cites this module.
use Rattle.std.specs.Prelude.{◌≡◌, ℕ, ◌+◌, ◌<◌, Bool, true, false, List, [], ◌∷◌, Option, Some, None, length, option_map, nat_le, if◌then◌else◌, slice_index_or}
use Rattle.std.specs.FinMap.{get, empty}
use Rattle.std.specs.List.{flat_map, range_with_len}
use Rattle.cf_base.specs.Maps.{numbered}
use Rattle.page_model.specs.Held.{Objects, objects}
use Rattle.cf_model.specs.State.{HeapState}
use Rattle.large_objects.specs.Large.{KeepsParts, LargeState, bytes_found, named}
use Rattle.large_objects.specs.InnerObjects.{whole_part_bytes, part_count}

-- the bytes of the object h, which has n bytes: those of the inner object h if it fits a page, else those of its parts, in order
unfoldable pub gathered : ℕ → Objects → ℕ → ℕ → List ℕ
gathered u inner h n = if nat_le n u then bytes_found (get inner h) else flat_map (λ i. bytes_found (get inner (named inner h i))) (range_with_len 0 (part_count u n))

-- for each handle from k on: the gathered bytes of its object, or None if the handle has no length
abbrev pub gathered_from : ℕ → Objects → ℕ → List (Option ℕ) → List (Option (List ℕ))
gathered_from u inner k [] = []
gathered_from u inner k (None ∷ lengths) = None ∷ gathered_from u inner (k + 1) lengths
gathered_from u inner k (Some n ∷ lengths) = Some (gathered u inner k n) ∷ gathered_from u inner (k + 1) lengths

-- the map of all objects: the gathered bytes of each handle that has a length
unfoldable pub gathered_objects : ℕ → List (Option ℕ) → Objects → Objects
gathered_objects u lengths inner = numbered 0 (gathered_from u inner 0 lengths)

-- the objects of a heap; none if it is closed
abbrev pub objects_in : Bool → ℕ → List (Option ℕ) → HeapState → Objects
objects_in true u lengths s = gathered_objects u lengths (objects s.held)
objects_in false u lengths s = empty

-- the state that the fields of a heap represent; s is the state of the inner manager
abbrev pub large_state : Bool → ℕ → List (Option ℕ) → HeapState → LargeState
large_state is_open u lengths s = record { is_open = is_open; objects = objects_in is_open u lengths s; inner = s }

-- `lengths` has one entry for each proxy: the length of the object with this handle, None if there is no such object
pub record AreLengths (lengths : List (Option ℕ)) (large : Objects) (proxies : ℕ) : Type 0 where
  pub count : length lengths ≡ proxies
  pub each : (h : ℕ) → slice_index_or lengths h None ≡ option_map length (get large h)

-- The fields of an open heap, `pages`, u and `lengths`, agree with its objects `large` and its inner manager s: they are the number of pages, the bytes of
-- a whole part, and the length of each object.
pub record AreKept (pages u : ℕ) (lengths : List (Option ℕ)) (large : Objects) (s : HeapState) : Type 0 where
  pub parts : KeepsParts (record { is_open = true; objects = large; inner = s })
  pub lengths_are : AreLengths lengths large s.profile.proxies
  pub part_bytes : u ≡ whole_part_bytes s.profile
  pub some : 0 < u
  pub pages_are : pages ≡ s.profile.pages

-- the invariant of the fields: they agree with the objects if the heap is open (`AreKept`)
abbrev pub IsValid : Bool → ℕ → ℕ → List (Option ℕ) → HeapState → Type 0
IsValid true pages u lengths s = AreKept pages u lengths (gathered_objects u lengths (objects s.held)) s
IsValid false pages u lengths s = Unit {0}
