-- After a free, which coalesces the freed block with its free neighbours, the blocks still fill the region without a gap, and no two neighbours are both free:
-- the law `free_keeps_tiling`.
use Rattle.std.proofs.Common.{◌≡◌, ℕ, Bool, true, false, ◌+◌, List, [], ◌∷◌, arith, inl, inr, refl, subst}
use Rattle.std.specs.Prelude.{◌&&◌}
use Rattle.std.proofs.lemmas.Bool.{cases_eq, and_parts}
use Rattle.cf_base.proofs.Tests.{eq_yes, eq_no, and_false}
use Rattle.block_model.specs.Tiling.{Block, is_free, Fill, starts_free, AreMerged, IsTiling, joined, merged, freed_at, released}

behind_free : (x y : Bool) → x ≡ true → (x && y) ≡ false → y ≡ false
behind_free true y e f = f
behind_free false y e f = cc

pub freed_fill : (blocks : List Block) (a from to : ℕ) → Fill blocks from to → Fill (freed_at blocks a) from to
freed_fill [] a from to f = f
freed_fill (b ∷ bs) a from to f = elim (cases_eq b.address a) [
  | inl is ↦ rw (eq_yes b.address a is) f
  | inr other ↦ rw (eq_no b.address a other) (f.0, f.1, freed_fill bs a (from + b.size) to f.2)
]

joined_fill : (b : Block) (bs : List Block) (from to : ℕ) → Fill (b ∷ bs) from to → Fill (joined b bs) from to
joined_fill b [] from to f = f
joined_fill b (c ∷ cs) from to f = by_cases (is_free b && is_free c) refl
  where
    by_cases : (t : Bool) → (is_free b && is_free c) ≡ t → Fill (joined b (c ∷ cs)) from to
    by_cases false e = rw e f
    by_cases true e = rw e (f.0, omega (arith, f.1), subst (λ n. Fill cs n to) (omega arith) f.2.2)

pub merged_fill : (blocks : List Block) (from to : ℕ) → Fill blocks from to → Fill (merged blocks) from to
merged_fill [] from to f = f
merged_fill (b ∷ bs) from to f = joined_fill b (merged bs) from to (f.0, f.1, merged_fill bs (from + b.size) to f.2)

joined_merged : (b : Block) (bs : List Block) → AreMerged bs → AreMerged (joined b bs)
joined_merged b [] m = (and_false (is_free b), tt)
joined_merged b (c ∷ cs) m = by_cases (is_free b && is_free c) refl
  where
    by_cases : (t : Bool) → (is_free b && is_free c) ≡ t → AreMerged (joined b (c ∷ cs))
    by_cases false e = rw e (e, m)
    by_cases true e = rw e (behind_free (is_free c) (starts_free cs) (and_parts (is_free b) (is_free c) e).1 m.0, m.1)

-- no two neighbours are both free after merging
pub merged_are : (blocks : List Block) → AreMerged (merged blocks)
merged_are [] = tt
merged_are (b ∷ bs) = joined_merged b (merged bs) (merged_are bs)

-- a free keeps the tiling
pub free_keeps_tiling : (words : ℕ) (old : List Block) (place : ℕ) → IsTiling words old → IsTiling words (released old place)
free_keeps_tiling words old place t = record {
  fill = merged_fill (freed_at old place) 0 words (freed_fill old place 0 words t.fill);
  merged = merged_are (freed_at old place);
}
