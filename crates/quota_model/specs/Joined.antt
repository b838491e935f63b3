-- One map of the addresses of all tasks' objects, under their keys (task times 65,536, plus number). A list `all` has a map for each task, from its objects'
-- numbers to their addresses.
use Rattle.std.specs.Prelude.{ℕ, ◌+◌, ◌<◌, ◌≡◌, List, [], ◌∷◌, ◌++◌, Some, map, slice_index_or}
use Rattle.std.specs.Ordering.{nat_cmp}
use Rattle.std.specs.FinMap.{FinMap, empty, entries, from_entries, get}
use Rattle.quota_model.specs.Parts.{key_of}

-- the numbers and addresses of one task's objects, as pairs, with the object's key in place of its number
abbrev pub keyed : ℕ → List (ℕ × ℕ) → List (ℕ × ℕ)
keyed task es = map (λ (e : ℕ × ℕ). (key_of task e.0, e.1)) es

-- the keys and addresses, as pairs, of the objects of several tasks: the list has a map for each, from number `task` on
abbrev pub all_keyed : ℕ → List (FinMap nat_cmp ℕ) → List (ℕ × ℕ)
all_keyed task [] = []
all_keyed task (places ∷ rest) = keyed task (entries places) ++ all_keyed (task + 1) rest

-- one map from the keys of all tasks' objects to their addresses
unfoldable pub joined_places : List (FinMap nat_cmp ℕ) → FinMap nat_cmp ℕ
joined_places all = from_entries {R = nat_cmp} (all_keyed 0 all)

-- the addresses of one task's objects, by their numbers in that task; none if the list has no such task
abbrev pub places_at : List (FinMap nat_cmp ℕ) → ℕ → FinMap nat_cmp ℕ
places_at all task = slice_index_or all task empty

-- each number of a task that has an address is below 65,536, so that keys of different objects differ
abbrev pub AreNumbers : List (FinMap nat_cmp ℕ) → Type 0
AreNumbers all = (task h a : ℕ) → get (places_at all task) h ≡ Some a → h < 65536
