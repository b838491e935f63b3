-- Finite maps whose keys are numbers: a function applied to each value, and the map that a list of options represents; the list of options without a value.
use Rattle.std.specs.Prelude.{ℕ, ◌+◌, List, [], ◌∷◌, Option, Some, None, map, replicate}
use Rattle.std.specs.Ordering.{nat_cmp}
use Rattle.std.specs.FinMap.{FinMap, empty, insert, from_sorted, entries}

-- the map with the same keys, and with f applied to each value
unfoldable pub map_values : {X Y : Type 0} → (X → Y) → FinMap nat_cmp X → FinMap nat_cmp Y
map_values f m = from_sorted (map (λ e. (e.0, f e.1)) (entries m))

-- the map that a list of options represents: the key of a value is its position in the list, counted from k; a position without a value is no key
abbrev pub numbered : {X : Type 0} → ℕ → List (Option X) → FinMap nat_cmp X
numbered k [] = empty
numbered k (None ∷ xs) = numbered (k + 1) xs
numbered k (Some x ∷ xs) = insert (numbered (k + 1) xs) k x

-- a list of n entries without a value
abbrev pub vacant : {X : Type 0} → ℕ → List (Option X)
vacant n = replicate n None
