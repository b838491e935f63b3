-- A list of numbers without one of them.
use Rattle.std.specs.Prelude.{ℕ, List, not, nat_eq}
use Rattle.std.specs.List.{filter}

-- the list xs without n: its other numbers, in order
abbrev pub without_number : ℕ → List ℕ → List ℕ
without_number n xs = filter (λ other. not (nat_eq other n)) xs
