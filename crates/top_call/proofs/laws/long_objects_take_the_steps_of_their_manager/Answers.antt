use Rattle.std.proofs.Common.{ℕ, Bool, true, false, ◌≤◌, ◌+◌, ◌/◌, arith, refl, if◌then◌else◌, nat_eq}
use Rattle.top_call.proofs.laws.long_objects_take_the_steps_of_their_manager.Goals as goal

at_most : (n : ℕ) → n ≤ n
at_most n = omega arith

moving_free : (b : Bool) (s : ℕ) → (if b then 6 + (s + 10) else (20 + s)) ≤ (if b then 16 else 20) + s
moving_free true s = omega arith
moving_free false s = omega arith

nonmoving_free : (b : Bool) (s : ℕ) → (if b then 7 + (s + s / 4 + 10) else (22 + (s + s / 2))) ≤ (if b then 17 + (s + s / 4) else (22 + (s + s / 2)))
nonmoving_free true s = omega arith
nonmoving_free false s = omega arith

pub returns-clause-moving : goal.returns-clause-moving
returns-clause-moving c s kind order = rw (kind, order) (record {
  malloc = λ k h. at_most (if nat_eq k 1 then 15 else 17);
  free = λ k freed. moving_free (nat_eq k 1) freed.slot_words;
  access = λ from count u. refl;
  totals = λ s. refl;
})

pub returns-clause-non_moving : goal.returns-clause-non_moving
returns-clause-non_moving c s kind order = rw (kind, order) (record {
  malloc = λ k h. at_most (if nat_eq k 1 then 16 else 18);
  free = λ k freed. nonmoving_free (nat_eq k 1) freed.slot_words;
  access = λ from count u. refl;
  totals = λ s. refl;
})
