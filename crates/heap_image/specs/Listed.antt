-- The objects of consecutive ids as a list, by rising id: what `put_objects` still has to write. No public clause cites this module.
use Rattle.std.specs.Prelude.{ℕ, zero, suc, ◌+◌, List, [], ◌∷◌, Option, Some, None}
use Rattle.std.specs.FinMap.{get}
use Rattle.page_model.specs.Held.{Objects}

-- the list `rest`, with the id and its object as a new first entry if the id has an object
abbrev pub listed_before : ℕ → Option (List ℕ) → List (ℕ × List ℕ) → List (ℕ × List ℕ)
listed_before id None rest = rest
listed_before id (Some v) rest = (id, v) ∷ rest

-- the objects of the n ids from `id` on, each with its id
unfoldable pub listed_objects : Objects → ℕ → ℕ → List (ℕ × List ℕ)
listed_objects objects id zero = []
listed_objects objects id (suc n) = listed_before id (get objects id) (listed_objects objects (id + 1) n)
