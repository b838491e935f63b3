-- For `src/fields.rt`, which reads the fields of a line in turn: the value at the first or the only token, or at two tokens; none if a token is missing or
-- wrong. No public clause cites this module.
use Rattle.std.specs.Prelude.{List, [], ◌∷◌, ℕ, Option, Some, None, option_map}
use Rattle.script_reader.specs.Commands.{one_of, two_of, ◌>>=◌}

-- the value of `reads` at the first token, and the tokens after it; none if there is no token, or `reads` has no value there
abbrev pub first_by : {A : Type 0} → (List ℕ → Option A) → List (List ℕ) → Option (A × List (List ℕ))
first_by reads [] = None
first_by reads (a ∷ rest) = option_map (λ x. (x, rest)) (reads a)

-- the value of `reads` at the only token; none if there isn't exactly one token, or `reads` has no value there
abbrev pub one_by : {A : Type 0} → (List ℕ → Option A) → List (List ℕ) → Option A
one_by reads args = one_of args >>= reads

-- the values of f at the first and of g at the second of two tokens; none if there aren't exactly two, or f or g has no value there
abbrev pub two_by : {A B : Type 0} → (List ℕ → Option A) → (List ℕ → Option B) → List (List ℕ) → Option (A × B)
two_by f g args = do
  p ← two_of args
  x ← f p.0
  y ← g p.1
  Some (x, y)
