-- How a proxy table keeps its numbers in memory: the addresses, the stack of the free numbers, and the invariant of both. No public clause cites this module.
use Rattle.std.specs.Prelude.{◌≡◌, ◌≢◌, ℕ, zero, suc, ◌+◌, ◌-◌, ◌^◌, ◌<◌, List, [], ◌∷◌, Option, None, length, slice_index, slice_index_or, count_by, is_some}
use Rattle.cf_base.specs.Maps.{numbered}
use Rattle.proxy_table.specs.Proxies.{Proxies}

-- the first `left` entries of a stack, the last of them first: in the order in which they are taken
abbrev pub top_down : List ℕ → ℕ → List ℕ
top_down stack zero = []
top_down stack (suc left) = slice_index stack left ∷ top_down stack left

-- the proxies that the fields represent: `places` has the address of each number, if it has one, and the first `left` entries of the stack are the free
-- numbers
abbrev pub proxies_of : List (Option ℕ) → List ℕ → ℕ → Proxies
proxies_of places stack left = record { limit = length places; places = numbered 0 places; free = top_down stack left }

-- the list has all numbers below n, the greatest first
pub record IsFalling (n : ℕ) (numbers : List ℕ) : Type 0 where
  pub long : length numbers ≡ n
  pub falls : (i : ℕ) → i < length numbers → slice_index numbers i ≡ n - 1 - i

-- the invariant of `ProxyTable`: there are fewer than 2^32 numbers, and as many entries of the stack; the first `left` entries are the numbers without an
-- address, each once
pub record IsValid (places : List (Option ℕ)) (stack : List ℕ) (left : ℕ) : Type 0 where
  pub as_long : length stack ≡ length places
  pub counted : left + count_by is_some places ≡ length places
  pub few : length places < 2 ^ 32
  pub in_range : (i : ℕ) → i < left → slice_index stack i < length places
  pub not_live : (i : ℕ) → i < left → slice_index_or places (slice_index stack i) None ≡ None
  pub distinct : (i j : ℕ) → i < j → j < left → slice_index stack i ≢ slice_index stack j
