-- How many pages the objects of one class may be on, by arithmetic: p pages, n objects, m slots to a page, and at most k pages partly full.
use Rattle.std.specs.Prelude.{ℕ, zero, suc, Bool, true, false, ◌&&◌, ◌+◌, ◌-◌, ◌*◌, ◌/◌, ◌≤◌, nat_le}
use Rattle.std.specs.List.{range_with_len, list_any}

-- n objects are on p pages of m slots, no page is empty, and exactly q pages, at most k, are partly full: the other p - q are full, and a partly full page has
-- from 1 to m - 1 objects
pub record LieOn (p n m k q : ℕ) : Type 0 where
  pub few : q ≤ k
  pub within : q ≤ p
  pub least : (p - q) * m + q ≤ n
  pub most : n ≤ (p - q) * m + q * (m - 1)

-- n objects can be on p pages of m slots, none empty and at most k partly full
abbrev pub CanHold : ℕ → ℕ → ℕ → ℕ → Type 0
CanHold p n m k = (q : ℕ) × LieOn p n m k q

-- `CanHold` as a test: it tries each number q of partly full pages from 0 to k
abbrev pub can_hold : ℕ → ℕ → ℕ → ℕ → Bool
can_hold p n m k = list_any (λ q. nat_le q p && nat_le ((p - q) * m + q) n && nat_le n ((p - q) * m + q * (m - 1))) (range_with_len 0 (k + 1))

-- n / m, rounded up: the least number of pages of m slots that hold n objects
abbrev pub ceil_div : ℕ → ℕ → ℕ
ceil_div n m = (n + (m - 1)) / m

-- the greatest number from 1 to p at which the test passes; 0 if there is none
abbrev pub greatest : (ℕ → Bool) → ℕ → ℕ
greatest test zero = 0
greatest test (suc p) = elim (test (suc p)) [ true ↦ suc p | false ↦ greatest test p ]

-- the most pages of m slots that n objects can be on, with at most k of them partly full
unfoldable pub most_pages : ℕ → ℕ → ℕ → ℕ
most_pages n m k = greatest (λ p. can_hold p n m k) (n / m + k)
