-- The handles after any frees, how often a number is among the freed ones, and the generation of a handle after frees of its number.
use Rattle.std.specs.Prelude.{ℕ, zero, suc, ◌+◌, List, [], ◌∷◌, cond, nat_eq, nat_lt}
use Rattle.c_base.specs.Handles.{raised}

-- the handles after the objects with these numbers were freed, the first of the list first
abbrev pub raised_all : List ℕ → List ℕ → List ℕ
raised_all handles [] = handles
raised_all handles (n ∷ ns) = raised_all (raised handles n) ns

-- how often the list has n
abbrev pub times_in : ℕ → List ℕ → ℕ
times_in n [] = 0
times_in n (m ∷ ms) = cond (nat_eq m n) (suc (times_in n ms)) (times_in n ms)

-- the generation g, one of c, after k frees: a free leads to the next generation, from the last one to 0
abbrev pub generation_after : ℕ → ℕ → ℕ → ℕ
generation_after c zero g = g
generation_after c (suc k) g = generation_after c k (cond (nat_lt (g + 1) c) (g + 1) 0)
