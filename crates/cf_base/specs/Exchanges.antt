-- Two ranges of n numbers, one from a on, the other from b on, change places: which numbers are in a range, which number each becomes, and a list after its
-- entries in the two ranges changed places.
use Rattle.std.specs.Prelude.{ℕ, Bool, ◌+◌, ◌-◌, List, length, map, slice_index, if◌then◌else◌, nat_le, nat_lt, ◌&&◌}
use Rattle.std.specs.List.{range_with_len}

-- whether v is one of the n numbers from a on
abbrev pub is_among : ℕ → ℕ → ℕ → Bool
is_among a n v = nat_le a v && nat_lt v (a + n)

-- the number that v becomes if the n numbers from a on change places with those from b on, pair by pair; others stay
abbrev pub partner : ℕ → ℕ → ℕ → ℕ → ℕ
partner a b n v = if is_among a n v then b + (v - a) else (if is_among b n v then a + (v - b) else v)

-- the list xs after its n entries from a on changed places with those from b on, pair by pair
unfoldable pub exchanged : List ℕ → ℕ → ℕ → ℕ → List ℕ
exchanged xs a b n = map (λ v. slice_index xs (partner a b n v)) (range_with_len 0 (length xs))
