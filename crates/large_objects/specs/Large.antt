-- The state of a heap of long objects, the handles in its spines, the bytes of an inner object that was looked up and of a part, and the rules that the inner
-- manager and its objects keep.
use Rattle.std.specs.Prelude.{◌≡◌, ℕ, Bool, IsTrue, ◌*◌, ◌<◌, ◌≤◌, List, [], Option, Some, None, length, take, drop, refl}
use Rattle.std.specs.Coded.{Coded, code_by, coded×, coded_ℕ, coded_list, coded_bool}
use Rattle.std.specs.FinMap as map
use Rattle.std.specs.FinMap.{get, len}
use Rattle.std.specs.Int.{from_le_bytes, w32}
use Rattle.page_model.specs.Arrangement.{live}
use Rattle.page_model.specs.Held.{Objects, objects}
use Rattle.page_model.specs.Paging.{EveryBoundIsOne, Paging}
use Rattle.cf_model.specs.Families.{IsPaged}
use Rattle.cf_model.specs.Rules.{KeepsRules}
use Rattle.cf_model.specs.State.{HeapState, paging_in, state_code}
use Rattle.large_objects.specs.InnerObjects.{inner_count, inner_live, inner_sum, length_sum, whole_part_bytes, part_count, spine_bytes}

-- a heap of long objects: whether it is open, its objects as a map from handles to bytes, and the state of its inner manager
pub record LargeState : Type 0 where
  pub is_open : Bool
  pub objects : Objects
  pub inner : HeapState

-- the encoding of the state as nested pairs, which the trait `Model` requires
abbrev pub large_code : Coded LargeState
large_code = code_by (Bool × (Objects × HeapState)) (coded× coded_bool (coded× (map.code coded_ℕ (coded_list coded_ℕ)) state_code))
    (λ s. (s.is_open, (s.objects, s.inner))) (λ q. record { is_open = q.0; objects = q.1.0; inner = q.1.1 }) (λ _. refl)

-- the bytes of an object that was looked up; no bytes if it isn't live
abbrev pub bytes_found : Option (List ℕ) → List ℕ
bytes_found None = []
bytes_found (Some v) = v

-- the handle in place i of a spine: four bytes, the least significant first
unfoldable pub handle_at : List ℕ → ℕ → ℕ
handle_at spine i = from_le_bytes w32 (take 4 (drop (4 * i) spine))

-- the handle of part i of the object whose spine is h: the one in place i of the spine, which is among the inner objects `inner`
abbrev pub named : Objects → ℕ → ℕ → ℕ
named inner h i = handle_at (bytes_found (get inner h)) i

-- the bytes of part i of an object with the bytes v; a whole part has u bytes
abbrev pub part_bytes_at : ℕ → List ℕ → ℕ → List ℕ
part_bytes_at u v i = take u (drop (u * i) v)

-- The inner object q is part i of the object h, which is longer than a page. `large` are the objects and `inner` the inner ones; a whole part has u bytes.
pub record IsPart (u : ℕ) (large inner : Objects) (q h i : ℕ) : Type 0 where
  pub bytes : List ℕ
  pub found : get large h ≡ Some bytes
  pub long : u < length bytes
  pub below : i < part_count u (length bytes)
  pub is : q ≡ named inner h i

-- h, the handle of an object of n bytes, is that of a spine among the inner objects, which has four bytes for each part
pub record HasSpine (u : ℕ) (inner : Objects) (h n : ℕ) : Type 0 where
  pub spine : List ℕ
  pub found : get inner h ≡ Some spine
  pub long : length spine ≡ spine_bytes u n

-- The inner objects `inner` are exactly those of the objects `large`: an object that fits a page is an inner object, and a longer one has a spine, which holds
-- the handles of its parts in order. A part belongs to one object, and isn't an object itself. There are no other inner objects.
pub record AreLaidOut (u : ℕ) (large inner : Objects) : Type 0 where
  pub small : (h : ℕ) (v : List ℕ) → get large h ≡ Some v → length v ≤ u → get inner h ≡ Some v
  pub spines : (h : ℕ) (v : List ℕ) → get large h ≡ Some v → u < length v → HasSpine u inner h (length v)
  pub parts_are : (h : ℕ) (v : List ℕ) → get large h ≡ Some v → u < length v
      → (i : ℕ) → i < part_count u (length v) → get inner (named inner h i) ≡ Some (part_bytes_at u v i)
  pub not_objects : (q h i : ℕ) → IsPart u large inner q h i → get large q ≡ None
  pub of_one : (q h i g j : ℕ) → IsPart u large inner q h i → IsPart u large inner q g j → (h ≡ g) × (i ≡ j)
  pub no_others : (q : ℕ) (b : List ℕ) → get inner q ≡ Some b → get large q ≡ None → (h : ℕ) × (i : ℕ) × IsPart u large inner q h i

-- The number of inner objects, in all and in each class, follows from the lengths of the objects `large`; so does every sum over the inner lengths.
pub record AreInnerCounted (p : Paging) (u : ℕ) (large inner : Objects) : Type 0 where
  pub all : len inner ≡ inner_count u large
  pub each : (c : ℕ) → live p inner c ≡ inner_live p u large c
  pub sums : (f : ℕ → ℕ) → length_sum f inner ≡ inner_sum f u large

-- What an open heap of long objects keeps: its inner manager is open, keeps the rules of managers, has pages, and the bound 1 in each class; the inner objects
-- are those of the heap's objects, and their numbers follow from the lengths of these.
pub record KeepsParts (s : LargeState) : Type 0 where
  pub opened : IsTrue s.inner.is_open
  pub rules : KeepsRules s.inner
  pub pages : IsPaged s.inner.kind
  pub ones : EveryBoundIsOne (paging_in s.inner)
  pub laid : AreLaidOut (whole_part_bytes s.inner.profile) s.objects (objects s.inner.held)
  pub counted : AreInnerCounted (paging_in s.inner) (whole_part_bytes s.inner.profile) s.objects (objects s.inner.held)
