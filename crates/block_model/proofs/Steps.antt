-- For the law `malloc_keeps_tiling`: after a malloc, which splits a free block, the blocks still fill the region without a gap, and no two neighbours are
-- both free.
use Rattle.std.proofs.Common.{◌≡◌, ℕ, Bool, true, false, ◌+◌, ◌≤◌, List, [], ◌∷◌, ◌++◌, Some, None, arith, ◌∙◌, inl, inr, ap, refl, subst}
use Rattle.std.specs.Prelude.{◌&&◌, is_none}
use Rattle.std.proofs.lemmas.Bool.{cases_lt, cases_eq}
use Rattle.cf_base.proofs.Tests.{eq_yes, eq_no, le_yes, le_no}
use Rattle.block_model.specs.Buckets.{FreeLists}
use Rattle.block_model.specs.Tiling.{Block, is_free, Fill, starts_free, AreMerged, IsTiling, block_at, Demand, carved, carved_at, Carves}

free_is : (b : Block) → b.owner ≡ None → is_free b ≡ true
free_is b e = ap is_none e

module _ (d : Demand) (some : 2 ≤ d.need) where
  -- the blocks that a split leaves fill the words of the block that was split
  carved_fill : (b : Block) (bs : List Block) (from to : ℕ) → Fill (b ∷ bs) from to → Fill (carved b d ++ bs) from to
  carved_fill b bs from to (is, size, rest) = elim (cases_lt b.size (d.need + 2)) [
    | inl small ↦ rw (le_no (d.need + 2) b.size small) (is, size, rest)
    | inr large ↦ rw (le_yes (d.need + 2) b.size large) (is, some, (ap (λ n. n + d.need) is, omega arith, subst (λ n. Fill bs n to) (omega arith) rest))
  ]

  pub fill_carved : (blocks : List Block) (a from to : ℕ) → Fill blocks from to → Fill (carved_at blocks a d) from to
  fill_carved [] a from to f = f
  fill_carved (b ∷ bs) a from to f = elim (cases_eq b.address a) [
    | inl is ↦ rw (eq_yes b.address a is) (carved_fill b bs from to f)
    | inr other ↦ rw (eq_no b.address a other) (f.0, f.1, fill_carved bs a (from + b.size) to f.2)
  ]

-- the first block that a split leaves is used
carved_starts : (b : Block) (bs : List Block) (d : Demand) → starts_free (carved b d ++ bs) ≡ false
carved_starts b bs d = elim (cases_lt b.size (d.need + 2)) [
  | inl small ↦ rw (le_no (d.need + 2) b.size small) refl
  | inr large ↦ rw (le_yes (d.need + 2) b.size large) refl
]

starts_carved : (blocks : List Block) (a : ℕ) (d : Demand) → starts_free blocks ≡ false → starts_free (carved_at blocks a d) ≡ false
starts_carved [] a d e = refl
starts_carved (b ∷ bs) a d e = elim (cases_eq b.address a) [
  | inl is ↦ rw (eq_yes b.address a is) (carved_starts b bs d)
  | inr other ↦ rw (eq_no b.address a other) e
]

both : (x y z : Bool) → (x && y) ≡ false → (y ≡ false → z ≡ false) → (x && z) ≡ false
both true y z e f = f e
both false y z e f = refl

carved_merged : (b : Block) (bs : List Block) (d : Demand) → b.owner ≡ None → AreMerged (b ∷ bs) → AreMerged (carved b d ++ bs)
carved_merged b bs d free (apart, rest) =
    let next : starts_free bs ≡ false = rw (free_is b free) at apart in
    elim (cases_lt b.size (d.need + 2)) [
      | inl small ↦ rw (le_no (d.need + 2) b.size small) (refl, rest)
      | inr large ↦ rw (le_yes (d.need + 2) b.size large) (refl, (next, rest))
    ]

pub merged_carved : (blocks : List Block) (a : ℕ) (d : Demand) (b : Block) → block_at blocks a ≡ Some b → b.owner ≡ None → AreMerged blocks
    → AreMerged (carved_at blocks a d)
merged_carved [] a d b there free m = m
merged_carved (x ∷ xs) a d b there free m = elim (cases_eq x.address a) [
  | inl is ↦ (
      let same : x ≡ b = (let t : Some x ≡ Some b = rw (eq_yes x.address a is) at there in cc) in
      rw (eq_yes x.address a is) (carved_merged x xs d (ap (λ (y : Block). y.owner) same ∙ free) m))
  | inr other ↦ (
      let t : block_at xs a ≡ Some b = rw (eq_no x.address a other) at there in
      rw (eq_no x.address a other) (
        both (is_free x) (starts_free xs) (starts_free (carved_at xs a d)) m.0 (starts_carved xs a d),
        merged_carved xs a d b t free m.1,
      ))
]

-- a malloc keeps the tiling
pub malloc_keeps_tiling : (rule : FreeLists) (words : ℕ) (old new : List Block) (d : Demand) (place : ℕ) → 2 ≤ d.need → IsTiling words old
    → Carves rule old d place new → IsTiling words new
malloc_keeps_tiling rule words old new d place some t step = (let e = step.carved in rw e (record {
  fill = fill_carved d some old place 0 words t.fill;
  merged = merged_carved old place d step.found step.there step.serves.free t.merged;
}))
