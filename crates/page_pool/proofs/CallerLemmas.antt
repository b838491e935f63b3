-- What other crates' proofs may cite: lists of free pages without repeats, and how many pages are free.
use Rattle.std.proofs.Common.{◌≡◌, ℕ, zero, suc, ◌+◌, ◌<◌, ◌≤◌, Bool, true, false, List, [], ◌∷◌, length, arith, refl, inl, inr, ◌⊎◌, eqb, eq-eqb, ◌||◌}
use Rattle.std.proofs.lemmas.Bool.{eqb-true, ne_eqb}
use Rattle.std.proofs.lemmas.Map.Steps.{length-le_from_distinct_below}
use Rattle.std.specs.List.{AllByRecursion, IsDistinct, range_with_len}
use Rattle.page_pool.specs.Pool.{is_in_pool, HasNoRepeats, IsPool}

some_true : (a b : Bool) → (a || b) ≡ true → (a ≡ true) ⊎ (b ≡ true)
some_true true b h = inl refl
some_true false b h = inr h

none_true : (a b : Bool) → (a || b) ≡ false → (a ≡ false) × (b ≡ false)
none_true true b h = cc
none_true false b h = (refl, h)

right_true : (a b : Bool) → b ≡ true → (a || b) ≡ true
right_true true b h = refl
right_true false b h = h

both_false : (a b : Bool) → a ≡ false → b ≡ false → (a || b) ≡ false
both_false true b h k = cc
both_false false b h k = k

abbrev pub Pooled : ℕ → List ℕ → Type 0
Pooled n free = IsPool (record { pages = n; free = free })

-- one of the free pages, if there are any
pub some_free : (free : List ℕ) → 1 ≤ length free → (page : ℕ) × (is_in_pool free page ≡ true)
some_free [] some = absurd (omega arith)
some_free (page ∷ free) some = (page, rw (eq-eqb page page refl) refl)

-- the first page isn't among the other free pages
pub front_gone : (n page : ℕ) (free : List ℕ) → Pooled n (page ∷ free) → is_in_pool free page ≡ false
front_gone n page free h = h.distinct.0

-- the first page is one of the pages
pub front_below : (n page : ℕ) (free : List ℕ) → Pooled n (page ∷ free) → page < n
front_below n page free h = h.below page (rw (eq-eqb page page refl) refl)

pub pooled_rest : (n page : ℕ) (free : List ℕ) → Pooled n (page ∷ free) → Pooled n free
pooled_rest n page free h = record { distinct = h.distinct.1; below = λ q is. h.below q (right_true (eqb q page) (is_in_pool free q) is) }

pub pooled_front : (n page : ℕ) (free : List ℕ) → Pooled n free → page < n → is_in_pool free page ≡ false → Pooled n (page ∷ free)
pooled_front n page free h lt gone = record {
  distinct = (gone, h.distinct);
  below = λ q is. elim (some_true (eqb q page) (is_in_pool free q) is) [
    | inl e ↦ (let same : q ≡ page = eqb-true q page e in omega arith)
    | inr e ↦ h.below q e
  ];
}

others_by_test : (page : ℕ) (free : List ℕ) → is_in_pool free page ≡ false → AllByRecursion (λ q. eqb page q ≡ false) free
others_by_test page [] gone = tt
others_by_test page (q ∷ free) gone = let parts = none_true (eqb page q) (is_in_pool free page) gone in (parts.0, others_by_test page free parts.1)

distinct_by_test : (free : List ℕ) → HasNoRepeats free → IsDistinct eqb free
unfolding IsDistinct
distinct_by_test [] h = tt
distinct_by_test (page ∷ free) h = (others_by_test page free h.0, distinct_by_test free h.1)

-- at most all pages are free
pub free_within : (n : ℕ) (free : List ℕ) → Pooled n free → length free ≤ n
free_within n free h = length-le_from_distinct_below free n (distinct_by_test free h.distinct) h.below

-- if a page isn't free, fewer pages are free than there are
pub free_room : (n page : ℕ) (free : List ℕ) → Pooled n free → page < n → is_in_pool free page ≡ false → length free < n
free_room n page free h lt gone = let all = free_within n (page ∷ free) (pooled_front n page free h lt gone) in omega arith

-- no page below a is among the numbers from a on
range_absent : (a n page : ℕ) → page < a → is_in_pool (range_with_len a n) page ≡ false
range_absent a zero page lt = refl
range_absent a (suc n) page lt = both_false (eqb page a) (is_in_pool (range_with_len (a + 1) n) page) (ne_eqb page a (omega arith))
    (range_absent (a + 1) n page (omega arith))

range_distinct : (a n : ℕ) → HasNoRepeats (range_with_len a n)
range_distinct a zero = tt
range_distinct a (suc n) = (range_absent (a + 1) n a (omega arith), range_distinct (a + 1) n)

range_below : (a n page : ℕ) → is_in_pool (range_with_len a n) page ≡ true → page < a + n
range_below a zero page is = cc
range_below a (suc n) page is = elim (some_true (eqb page a) (is_in_pool (range_with_len (a + 1) n) page) is) [
  | inl e ↦ (let same : page ≡ a = eqb-true page a e in omega arith)
  | inr e ↦ (let lt : page < a + 1 + n = range_below (a + 1) n page e in omega arith)
]

pub pooled_range : (n : ℕ) → Pooled n (range_with_len 0 n)
pooled_range n = record { distinct = range_distinct 0 n; below = λ page is. let lt : page < 0 + n = range_below 0 n page is in omega arith }
