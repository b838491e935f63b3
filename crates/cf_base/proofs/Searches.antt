-- A search among the numbers below a bound finds one with a property, or shows that none has it; if a count over a range isn't 0, one of its numbers passes. A
-- number below n + 1 other than n is below n. A key is in a map or not, and removing it lowers the number of keys by one. How many keys there are if all keys
-- are below n, or all numbers below n are keys; with fewer than n keys, a number below n is no key.
use Rattle.std.proofs.Common.{◌≡◌, ◌≢◌, ℕ, zero, suc, true, false, Bool, ◌+◌, ◌<◌, ◌≤◌, Option, Some, None, arith, sym, ◌∙◌, ap, refl, inl, inr}
use Rattle.std.specs.Prelude.{◌⊎◌, count_by}
use Rattle.std.specs.List.{range_with_len}
use Rattle.std.proofs.lemmas.List.Sums.{sum_by-cons}
use Rattle.std.proofs.lemmas.Bool.{cases_eq}
use Rattle.std.specs.Ordering.{nat_cmp}
use Rattle.std.specs.FinMap.{FinMap, empty, get, len, remove, get-empty, len-empty}
use Rattle.cf_base.proofs.Maps.{equal_maps, some_removed, get_removed, get_remove_other, len_fresh}
use Rattle.cf_base.proofs.Ranges.{one}
use Rattle.cf_base.proofs.Sums.{put_back}

-- a number below n + 1 other than n is below n
pub below_other : (n h : ℕ) → h < suc n → h ≢ n → h < n
below_other n h lt ne = omega arith

-- either A holds of each number below n, or B of one of them
pub search_below : (A B : ℕ → Type 0) → ((k : ℕ) → A k ⊎ B k) → (n : ℕ) → ((k : ℕ) → k < n → A k) ⊎ ((k : ℕ) × (k < n) × B k)
search_below A B test zero = inl (λ k lt. absurd (omega arith))
search_below A B test (suc n) = elim (search_below A B test n) [
  | inr found ↦ inr (found.0, omega (arith, found.1), found.2)
  | inl all ↦ elim (test n) [
    | inr here ↦ inr (n, omega arith, here)
    | inl last ↦ inl (λ k lt. elim (cases_eq k n) [
      | inl is ↦ rw is last
      | inr ne ↦ all k (omega arith)
    ])
  ]
]

-- if the count over a range isn't 0, the test passes at one of its numbers
pub counted_in_range : (f : ℕ → Bool) (a n : ℕ) → 0 < count_by f (range_with_len a n) → (d : ℕ) × (a ≤ d) × (d < a + n) × (f d ≡ true)
counted_in_range f a zero some = absurd (omega arith)
counted_in_range f a (suc n) some = (
    let x : count_by f (range_with_len a (suc n)) ≡ one (f a) + count_by f (range_with_len (a + 1) n) =
    sum_by-cons (λ p. one (f p)) a (range_with_len (a + 1) n) in
    go (f a) refl (λ more. counted_in_range f (a + 1) n more) (omega arith))
  where
    go : (b : Bool) → f a ≡ b → (0 < count_by f (range_with_len (a + 1) n) → (d : ℕ) × (a + 1 ≤ d) × (d < a + 1 + n) × (f d ≡ true))
        → 0 < one b + count_by f (range_with_len (a + 1) n)
        → (d : ℕ) × (a ≤ d) × (d < a + suc n) × (f d ≡ true)
    go true e rest some = (a, omega arith, omega arith, e)
    go false e rest some = (let r = rest (omega arith) in (r.0, omega (arith, r.1), omega (arith, r.2), r.3))

module _ {V : Type 0} where
  -- a key is in the map or not
  pub there_or_not : (m : FinMap nat_cmp V) (h : ℕ) → ((x : V) × (get m h ≡ Some x)) ⊎ (get m h ≡ None)
  there_or_not m h = go (get m h)
    where
      go : (o : Option V) → ((x : V) × (o ≡ Some x)) ⊎ (o ≡ None)
      go None = inr refl
      go (Some x) = inl (x, refl)

  -- removing a key lowers the count by one
  pub len_without : (m : FinMap nat_cmp V) (h : ℕ) (x : V) → get m h ≡ Some x → len m ≡ len (remove m h) + 1
  len_without m h x some = ap len (sym (put_back m h x some)) ∙ len_fresh (remove m h) h x (get_removed m h)

  -- if every number below n is a key, there are at least n keys
  pub keys_below : (n : ℕ) (m : FinMap nat_cmp V) → ((h : ℕ) → h < n → (x : V) × (get m h ≡ Some x)) → n ≤ len m
  keys_below zero m all = omega arith
  keys_below (suc n) m all =
      let last = all n (omega arith) in
      let less = len_without m n last.0 last.1 in
      let rest = keys_below n (remove m n) (λ h lt. ((all h (omega arith)).0, get_remove_other m n h (omega arith) ∙ (all h (omega arith)).1)) in
      omega arith

  -- if every key is below n, there are at most n keys
  pub few_keys : (n : ℕ) (m : FinMap nat_cmp V) → ((h : ℕ) (x : V) → get m h ≡ Some x → h < n) → len m ≤ n
  few_keys zero m below =
      let e : m ≡ empty = equal_maps m empty (λ h. elim (there_or_not m h) [
        | inl (x, there) ↦ absurd (let l = below h x there in omega arith)
        | inr none ↦ none ∙ sym (get-empty nat_cmp h)
      ]) in
      rw e (let z = len-empty nat_cmp V in omega arith)
  few_keys (suc n) m below = elim (there_or_not m n) [
    | inr none ↦ (let l = few_keys n m (λ h x there. (let b = below h x there in below_other n h b
        (λ is. (let z : Some x ≡ None = sym there ∙ ap (get m) is ∙ none in cc)))) in omega arith)
    | inl (v, some) ↦ (
        let less = len_without m n v some in
        let l = few_keys n (remove m n) (λ h x there. (let was = some_removed m n h x there in let b = below h x was.1 in below_other n h b was.0)) in
        omega arith)
  ]

  -- with fewer than n keys, a number below n isn't a key
  pub fresh_key : (n : ℕ) (m : FinMap nat_cmp V) → len m < n → (h : ℕ) × (h < n) × (get m h ≡ None)
  fresh_key n m few = elim (search_below (λ h. (x : V) × (get m h ≡ Some x)) (λ h. get m h ≡ None) (there_or_not m) n) [
    | inl all ↦ absurd (let l = keys_below n m all in omega arith)
    | inr found ↦ found
  ]
