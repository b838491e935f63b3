-- For the worked examples of mallocs (`worked.rt`): if each block of a list passes a test that can be computed, no free block may serve a need, or none that
-- may is in an earlier free list.
use Rattle.std.proofs.Common.{◌≡◌, ℕ, Bool, true, ◌≤◌, List, [], ◌∷◌, Some, None, arith, inl, inr}
use Rattle.std.specs.Prelude.{◌&&◌, ◌||◌, nat_le, nat_lt, is_some}
use Rattle.std.proofs.lemmas.Bool.{cases_eq, and_parts as both_pass}
use Rattle.std.proofs.lemmas.Bool.Decides.{nat_tests}
use Rattle.block_model.specs.Buckets.{FreeLists}
use Rattle.block_model.specs.Tiling.{Block, block_at, Serves, LacksBlock}
use Rattle.cf_base.proofs.Tests.{eq_yes, eq_no}

-- whether each block passes the test
abbrev pub all_pass : (Block → Bool) → List Block → Bool
all_pass f [] = true
all_pass f (b ∷ bs) = f b && all_pass f bs

found_passes : (f : Block → Bool) (blocks : List Block) (a : ℕ) (b : Block) → all_pass f blocks ≡ true → block_at blocks a ≡ Some b → f b ≡ true
found_passes f [] a b all there = absurd (let t : None ≡ Some b = there in cc)
found_passes f (x ∷ xs) a b all there = elim (cases_eq x.address a) [
  | inl is ↦ (
      let same : x ≡ b = (let t : Some x ≡ Some b = rw (eq_yes x.address a is) at there in cc) in
      rw (← same) ((both_pass (f x) (all_pass f xs) all).0))
  | inr other ↦ found_passes f xs a b ((both_pass (f x) (all_pass f xs) all).1) (rw (eq_no x.address a other) at there)
]

module _ (rule : FreeLists) (need : ℕ) where
  -- whether a block is used, or in a list before the first one that is searched
  abbrev pub is_passed : Block → Bool
  is_passed b = is_some b.owner || nat_lt (rule.bucket b.size) (rule.search need)

  -- whether a block is used, or in this list or a later one
  abbrev pub is_no_earlier : ℕ → Block → Bool
  is_no_earlier list b = is_some b.owner || nat_le list (rule.bucket b.size)

  pub lacks : (blocks : List Block) → all_pass is_passed blocks ≡ true → LacksBlock rule blocks need
  lacks blocks all a b there serves =
      let t = found_passes is_passed blocks a b all there in
      let free = serves.free in
      let reached = serves.reached in
      let less : nat_lt (rule.bucket b.size) (rule.search need) ≡ true = rw free at t in
      absurd (grind (arith, nat_tests))

  pub no_earlier : (list : ℕ) (blocks : List Block) → all_pass (is_no_earlier list) blocks ≡ true
      → (a : ℕ) (b : Block) → block_at blocks a ≡ Some b → Serves rule need b → list ≤ rule.bucket b.size
  no_earlier list blocks all a b there serves =
      let t = found_passes (is_no_earlier list) blocks a b all there in
      let free = serves.free in
      let le : nat_le list (rule.bucket b.size) ≡ true = rw free at t in
      grind (arith, nat_tests)
