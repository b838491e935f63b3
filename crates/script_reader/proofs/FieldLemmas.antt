-- For `settings`, which reads the fields of a `heap` line: four numbers are read one by one.
use Rattle.std.proofs.Common.{◌≡◌, ℕ, List, Option, Some, arith}
use Rattle.cf_io.specs.Numbers.{number_in}
use Rattle.script_reader.specs.Commands.{four_of, ◌>>=◌}
use Rattle.script_reader.specs.Fields.{first_by, two_by}

-- the value of f at the four numbers that the tokens spell, from how they are read one by one
pub at_numbers : {A : Type 0} (f : ℕ → ℕ → ℕ → ℕ → Option A) (ts r s : List (List ℕ)) (a b c d : ℕ) → Some (a, r) ≡ first_by number_in ts
    → Some (b, s) ≡ first_by number_in r → Some (c, d) ≡ two_by number_in number_in s
    → (four_of ts >>= λ p. number_in p.0 >>= λ k. number_in p.1 >>= λ l. number_in p.2 >>= λ m. number_in p.3 >>= λ n. f k l m n) ≡ f a b c d
at_numbers f ts r s a b c d first second last = grind (arith, first, second, last)
