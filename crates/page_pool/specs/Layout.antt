-- How a page pool keeps its free pages in memory. No public clause cites this module.
use Rattle.std.specs.Prelude.{ℕ, ◌^◌, ◌<◌, ◌≤◌, List, length, drop}
use Rattle.page_pool.specs.Pool.{Pool, IsPool}

-- the pool that the fields represent: the free pages are the entries of the stack from index `first` on; those before it mean nothing
abbrev pub pool_of : List ℕ → ℕ → Pool
pool_of stack first = record { pages = length stack; free = drop first stack }

-- the invariant of `PagePool`: `first` is at most the length of the stack, which fits 32 bits, and the fields represent a pool
pub record IsValid (stack : List ℕ) (first : ℕ) : Type 0 where
  pub within : first ≤ length stack
  pub small : length stack < 2 ^ 32
  pub pool : IsPool (pool_of stack first)
