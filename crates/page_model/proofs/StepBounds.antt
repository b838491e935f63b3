-- Bounds on the steps of words, runs of words and slots for every kind, of taking, leaving and filling a slot, and of a choice of two.
use Rattle.std.proofs.Common.{ℕ, Bool, true, false, ◌+◌, ◌*◌, ◌/◌, ◌≤◌, List, [], ◌∷◌, arith}
use Rattle.std.specs.Prelude.{if◌then◌else◌, nat_eq}
use Rattle.cf_base.specs.declared.kind.Kind.{Kind}
use Rattle.cf_base.specs.declared.kind.Kind.TheVariants.{Moving, NonMoving, Tlsf, HalfFit}
use Rattle.page_model.specs.Arrangement.{objects_on}
use Rattle.page_model.specs.Held.{Held}
use Rattle.page_model.specs.Order.{Order, drop_steps, fill_steps, new_page_steps, not_full_in, open_steps, steps_to_fill, steps_to_take, word_steps}
use Rattle.page_model.specs.Paging.{Paging, slots_of}
use Rattle.page_model.specs.WordSteps.{copy_steps, run_steps, slot_steps, wipe_steps}

pub word_few : (k : Kind) → word_steps k ≤ 2
word_few Moving = omega arith
word_few NonMoving = omega arith
word_few Tlsf = omega arith
word_few HalfFit = omega arith

pub run_few : (k : Kind) (i n : ℕ) → run_steps k i n ≤ 2 * n
run_few Moving i n = omega arith
run_few NonMoving i n = omega arith
run_few Tlsf i n = omega arith
run_few HalfFit i n = omega arith

pub copy_few : (k : Kind) (i n : ℕ) → copy_steps k i n ≤ n + n / 2 + 4
copy_few Moving i n = omega arith
copy_few NonMoving i n = omega arith
copy_few Tlsf i n = omega arith
copy_few HalfFit i n = omega arith

pub wipe_few : (k : Kind) (n : ℕ) → wipe_steps k n ≤ n + n / 2
wipe_few Moving n = omega arith
wipe_few NonMoving n = omega arith
wipe_few Tlsf n = omega arith
wipe_few HalfFit n = omega arith

pub slot_few : (k : Kind) (n : ℕ) → slot_steps k n ≤ n + n / 2
slot_few Moving n = omega arith
slot_few NonMoving n = omega arith
slot_few Tlsf n = omega arith
slot_few HalfFit n = omega arith

-- if both branches of a test are within a bound, so is the result
pub either_few : (b : Bool) (x y most : ℕ) → x ≤ most → y ≤ most → (if b then x else y) ≤ most
either_few true x y most a b = a
either_few false x y most a b = b

pub drop_few : (used n : ℕ) → drop_steps used n ≤ 13
drop_few used n =
    either_few (nat_eq used 1) 10 (if nat_eq used n then 13 else 5) 13 (omega arith) (either_few (nat_eq used n) 13 5 13 (omega arith) (omega arith))

module _ (p : Paging) (m : Held) (o : Order) (c : ℕ) where
  pub take_few : steps_to_take p m o c ≤ 13
  take_few = by (not_full_in o c)
    where
      by : (pages : List ℕ) → (elim pages [ [] ↦ new_page_steps | page ∷ rest ↦ open_steps (objects_on p m c page) (slots_of p c) ]) ≤ 13
      by [] = omega arith
      by (page ∷ rest) = either_few (nat_eq (objects_on p m c page + 1) (slots_of p c)) 13 5 13 (omega arith) (omega arith)

  pub fill_few : steps_to_fill p m o c ≤ 12
  fill_few = by (not_full_in o c)
    where
      by : (pages : List ℕ) → (elim pages [ [] ↦ 0 | page ∷ rest ↦ fill_steps (objects_on p m c page) ]) ≤ 12
      by [] = omega arith
      by (page ∷ rest) = either_few (nat_eq (objects_on p m c page) 1) 12 7 12 (omega arith) (omega arith)
