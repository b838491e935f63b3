-- What other crates' proofs may cite: how many slots of a map are used, after one becomes used or free, and that a map has a free or a used slot.
use Rattle.std.proofs.Common.{◌≡◌, ℕ, zero, suc, ◌+◌, ◌<◌, Bool, true, false, cond, not, List, [], ◌∷◌, length, set, replicate, Some, None, arith, zero-add}
use Rattle.std.proofs.Common.{refl, ◌∙◌}
use Rattle.std.specs.Prelude.{slice_get, IsSome, nat_lt}
use Rattle.std.specs.List.{position, position_or_len, count_by}
use Rattle.std.proofs.lemmas.Bool.{cond-true, lt-ltb}
use Rattle.std.proofs.lemmas.List.Sums.{sum_by-cons, sum_by-set}
use Rattle.std.proofs.lemmas.Option.{slice_get_within, get_or_from_slice_get}

-- the number of used slots
abbrev pub used_in : List Bool → ℕ
used_in xs = count_by (λ u. u) xs

pub count-cons : (x : Bool) (xs : List Bool) → used_in (x ∷ xs) ≡ cond x 1 0 + used_in xs
count-cons x xs = sum_by-cons (λ (u : Bool). cond u 1 0) x xs

pub count-replicate : (n : ℕ) → used_in (replicate n false) ≡ 0
count-replicate zero = refl
count-replicate (suc n) = count-cons false (replicate n false) ∙ zero-add _ ∙ count-replicate n

pub counted_set : (xs : List Bool) (i : ℕ) (old b : Bool) → slice_get xs i ≡ Some old → used_in (set xs i b) + cond old 1 0 ≡ used_in xs + cond b 1 0
counted_set xs i old b h =
    let e = sum_by-set (λ (u : Bool). cond u 1 0) xs i b old (slice_get_within xs i old h) in
    rw (get_or_from_slice_get xs i old old h) at e

-- a slot becomes used, or free
pub count-set : (xs : List Bool) (i : ℕ) → slice_get xs i ≡ Some false → used_in (set xs i true) ≡ used_in xs + 1
count-set xs i h = omega (arith, counted_set xs i false true h)

pub count-unset : (xs : List Bool) (i : ℕ) → slice_get xs i ≡ Some true → used_in (set xs i false) + 1 ≡ used_in xs
count-unset xs i h = omega (arith, counted_set xs i true false h)

-- if not all slots are used there is a free one, and if some are there is a used one
first_within : (xs : List Bool) (p : Bool → Bool) → position_or_len p xs < length xs → IsSome (position p xs)
first_within xs p lt = rw (cond-true (nat_lt (position_or_len p xs) (length xs)) (Some (position_or_len p xs)) None (lt-ltb _ _ lt)) refl

free_within : (xs : List Bool) → used_in xs < length xs → position_or_len (λ u. not u) xs < length xs
free_within [] h = absurd (omega arith)
free_within (true ∷ xs) h = let e = count-cons true xs in let rest = free_within xs (omega arith) in omega arith
free_within (false ∷ xs) h = omega arith

used_within : (xs : List Bool) → 0 < used_in xs → position_or_len (λ u. u) xs < length xs
used_within [] h = absurd (omega arith)
used_within (true ∷ xs) h = omega arith
used_within (false ∷ xs) h = let e = count-cons false xs in let rest = used_within xs (omega arith) in omega arith

pub some_free : (xs : List Bool) → used_in xs < length xs → IsSome (position (λ u. not u) xs)
some_free xs h = first_within xs (λ u. not u) (free_within xs h)

pub some_used : (xs : List Bool) → 0 < used_in xs → IsSome (position (λ u. u) xs)
some_used xs h = first_within xs (λ u. u) (used_within xs h)
