-- For the clauses on steps: counts that rose by equal numbers, or by at most a number; and the steps of the search for the first free list with a block,
-- within a group of 16 lists or past it.
use Rattle.std.proofs.Common.{◌≡◌, ℕ, ◌+◌, ◌*◌, ◌/◌, ◌<◌, ◌≤◌, List, Option, Some, None, arith, sym, ap, ◌∙◌, subst, inl, inr}
use Rattle.std.proofs.lemmas.Bool.{cases_eq}
use Rattle.step_ledger.specs.Counting.{RoseBy, RoseAtMost}
use Rattle.block_model.specs.Costs.{group_steps, list_steps}
use Rattle.tag_blocks.specs.ListHeads.{IsFirstFrom}
use Rattle.tag_blocks.proofs.ThreadLemmas.{chosen, other}

-- a count that rose by m steps rose by n, if m and n are equal
pub by_same : (old new m n : ℕ) → RoseBy old new m → m ≡ n → RoseBy old new n
by_same old new m n r e = subst (λ k. RoseBy old new k) e r

pub at_most_by : (old new n m : ℕ) → RoseBy old new n → n ≤ m → RoseAtMost old new m
at_most_by old new n m a le = record { kept = a.kept; bound = (let x = a.bound in omega arith) }

-- ---- lists

pub here_steps : (start bit : ℕ) → bit < 16 → list_steps start (Some (16 * (start / 16) + bit)) ≡ 1
here_steps start bit low = chosen ((16 * (start / 16) + bit) / 16) (start / 16) 1 3 (omega arith)

pub rest_steps : (heads : List ℕ) (start : ℕ) (rest : Option ℕ) → IsFirstFrom heads (16 * (start / 16 + 1)) rest
    → 1 + group_steps (start / 16 + 1) rest ≡ list_steps start rest
rest_steps heads start None all = elim (cases_eq (start / 16) 31) [
  | inl is ↦ ap (λ n. 1 + n) (chosen (start / 16 + 1) 32 0 1 (omega arith)) ∙ sym (chosen (start / 16) 31 1 2 is)
  | inr not ↦ ap (λ n. 1 + n) (other (start / 16 + 1) 32 0 1 (omega arith)) ∙ sym (other (start / 16) 31 1 2 not)
]
rest_steps heads start (Some list) is = sym (other (list / 16) (start / 16) 1 3 (let f = is.from in omega arith))
