-- For proofs about `numbered`, as of the tables of ids and proxies: lookups, changes and the number of keys in the finite map that a list of options
-- represents.
use Rattle.std.proofs.Common.{◌≡◌, ℕ, zero, suc, ◌+◌, ◌<◌, List, [], ◌∷◌, Option, Some, None, length, get_or, set, arith, sym, ◌∙◌, inl, inr}
use Rattle.std.specs.Prelude.{count_by, is_some, IsSome, cond}
use Rattle.std.proofs.lemmas.List.Sums.{sum_by-cons}
use Rattle.std.proofs.lemmas.List.{get_or_past, get_or-set_same, get_or-set_other}
use Rattle.std.proofs.lemmas.Bool.{cases_eq, cases_lt, false≢true}
use Rattle.std.specs.Ordering.{nat_cmp}
use Rattle.std.specs.FinMap.{get, insert, remove, len, get-empty, len-empty}
use Rattle.cf_base.specs.Maps.{numbered}
use Rattle.cf_base.proofs.Maps.{get_inserted, get_insert_other, get_removed, get_remove_other, len_fresh, equal_maps}

module _ {X : Type 0} where
  pub numbered_below : (k : ℕ) (xs : List (Option X)) (q : ℕ) → q < k → get (numbered k xs) q ≡ None
  numbered_below k [] q lt = get-empty nat_cmp q
  numbered_below k (None ∷ xs) q lt = numbered_below (k + 1) xs q (omega arith)
  numbered_below k (Some x ∷ xs) q lt = get_insert_other (numbered (k + 1) xs) k x q (omega arith) ∙ numbered_below (k + 1) xs q (omega arith)

  pub numbered_from : (k : ℕ) (xs : List (Option X)) (i q : ℕ) → q ≡ k + i → get (numbered k xs) q ≡ get_or xs i None
  numbered_from k [] i q is = get-empty nat_cmp q
  numbered_from k (None ∷ xs) zero q is = numbered_below (k + 1) xs q (omega arith)
  numbered_from k (None ∷ xs) (suc i) q is = numbered_from (k + 1) xs i q (omega arith)
  numbered_from k (Some x ∷ xs) zero q is = (let e : q ≡ k = omega arith in rw e (get_inserted (numbered (k + 1) xs) k x))
  numbered_from k (Some x ∷ xs) (suc i) q is = get_insert_other (numbered (k + 1) xs) k x q (omega arith) ∙ numbered_from (k + 1) xs i q (omega arith)

  -- a lookup in the map is a lookup in the list
  pub get-numbered : (xs : List (Option X)) (q : ℕ) → get (numbered 0 xs) q ≡ get_or xs q None
  get-numbered xs q = numbered_from 0 xs q q (omega arith)

  pub numbered-set : (xs : List (Option X)) (h : ℕ) (x : X) → h < length xs → numbered 0 (set xs h (Some x)) ≡ insert (numbered 0 xs) h x
  numbered-set xs h x lt = equal_maps _ _ (λ q. elim (cases_eq q h) [
    | inl is ↦ rw is (get-numbered (set xs h (Some x)) h ∙ get_or-set_same xs h (Some x) None lt ∙ sym (get_inserted (numbered 0 xs) h x))
    | inr ne ↦ get-numbered (set xs h (Some x)) q ∙ get_or-set_other xs h q (Some x) None ne ∙ sym (get-numbered xs q)
        ∙ sym (get_insert_other (numbered 0 xs) h x q ne)
  ])

  pub numbered-clear : (xs : List (Option X)) (h : ℕ) → h < length xs → numbered 0 (set xs h None) ≡ remove (numbered 0 xs) h
  numbered-clear xs h lt = equal_maps _ _ (λ q. elim (cases_eq q h) [
    | inl is ↦ rw is (get-numbered (set xs h None) h ∙ get_or-set_same xs h None None lt ∙ sym (get_removed (numbered 0 xs) h))
    | inr ne ↦ get-numbered (set xs h None) q ∙ get_or-set_other xs h q None None ne ∙ sym (get-numbered xs q) ∙ sym (get_remove_other (numbered 0 xs) h q ne)
  ])

  pub len-numbered : (k : ℕ) (xs : List (Option X)) → len (numbered k xs) ≡ count_by is_some xs
  len-numbered k [] = len-empty nat_cmp X
  len-numbered k (None ∷ xs) =
      let e : count_by is_some (None ∷ xs) ≡ 0 + count_by is_some xs = sum_by-cons (λ (o : Option X). cond (is_some o) 1 0) None xs in
      omega (arith, len-numbered (k + 1) xs)
  len-numbered k (Some x ∷ xs) =
      let e : count_by is_some (Some x ∷ xs) ≡ 1 + count_by is_some xs = sum_by-cons (λ (o : Option X). cond (is_some o) 1 0) (Some x) xs in
      omega (arith, len-numbered (k + 1) xs, len_fresh (numbered (k + 1) xs) k x (numbered_below (k + 1) xs k (omega arith)))

  -- the number of a live entry is below the list's length
  pub numbered_live : (xs : List (Option X)) (h : ℕ) → IsSome (get (numbered 0 xs) h) → h < length xs
  numbered_live xs h live = elim (cases_lt h (length xs)) [
    | inl lt ↦ lt
    | inr past ↦ absurd (let none : get (numbered 0 xs) h ≡ None = get-numbered xs h
        ∙ get_or_past xs h None past in let none' : IsSome {T = X} None = rw none at live in false≢true none')
  ]
