-- Sums over the lengths of objects, and of their inner objects, after one object is added, removed or rewritten; and sums over the first lengths of a list,
-- with one more.
use Rattle.std.proofs.Common.{◌≡◌, ℕ, ◌+◌, ◌<◌, List, [], ◌∷◌, Some, None, length, get_or, take, arith, ap, refl}
use Rattle.std.specs.Prelude.{sum_by}
use Rattle.std.specs.FinMap.{get, insert, remove}
use Rattle.std.proofs.lemmas.List.Sums.{sum_by-cons, sum_by_more}
use Rattle.cf_base.proofs.Sums.{sum_by-inserted, sum_by-removed, sum_by-replaced}
use Rattle.page_model.specs.Held.{Objects}
use Rattle.large_objects.specs.InnerObjects.{inner_sum, length_sum, inner_lengths}

module _ (f : ℕ → ℕ) where
  module _ (o : Objects) (h : ℕ) (v : List ℕ) where
    pub sum_inserted : get o h ≡ None → length_sum f (insert o h v) ≡ length_sum f o + f (length v)
    unfolding length_sum
    sum_inserted none = sum_by-inserted (λ v. f (length v)) o h v none

    pub sum_removed : get o h ≡ Some v → length_sum f (remove o h) + f (length v) ≡ length_sum f o
    unfolding length_sum
    sum_removed some = sum_by-removed (λ v. f (length v)) o h v some

    pub sum_rewritten : (w : List ℕ) → get o h ≡ Some v → length w ≡ length v → length_sum f (insert o h w) ≡ length_sum f o
    unfolding length_sum
    sum_rewritten w some same = (let e = sum_by-replaced (λ v. f (length v)) o h v w some in let l = ap f same in omega arith)

  module _ (u : ℕ) (large : Objects) (h : ℕ) (v : List ℕ) where
    pub inner_inserted : get large h ≡ None → inner_sum f u (insert large h v) ≡ inner_sum f u large + sum_by f (inner_lengths u (length v))
    unfolding inner_sum
    inner_inserted none = sum_by-inserted (λ v. sum_by f (inner_lengths u (length v))) large h v none

    pub inner_removed : get large h ≡ Some v → inner_sum f u (remove large h) + sum_by f (inner_lengths u (length v)) ≡ inner_sum f u large
    unfolding inner_sum
    inner_removed some = sum_by-removed (λ v. sum_by f (inner_lengths u (length v))) large h v some

    pub inner_rewritten : (w : List ℕ) → get large h ≡ Some v → length w ≡ length v → inner_sum f u (insert large h w) ≡ inner_sum f u large
    unfolding inner_sum
    inner_rewritten w some same = (
        let e = sum_by-replaced (λ v. sum_by f (inner_lengths u (length v))) large h v w some in
        let l = ap (λ n. sum_by f (inner_lengths u n)) same in
        omega arith)

  pub sum_one : (n : ℕ) → sum_by f (n ∷ []) ≡ f n
  sum_one n = (let z : sum_by f (n ∷ []) ≡ f n + 0 = sum_by-cons f n [] in omega arith)

  pub sum_more : (xs : List ℕ) (i : ℕ) → i < length xs → sum_by f (take (i + 1) xs) ≡ sum_by f (take i xs) + f (get_or xs i 0)
  sum_more xs i lt = sum_by_more f xs i 0 lt

  pub sum_take_none : (xs : List ℕ) → sum_by f (take 0 xs) ≡ 0
  sum_take_none [] = refl
  sum_take_none (x ∷ xs) = refl
