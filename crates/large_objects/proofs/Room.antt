-- If there is room for all inner objects of an object, there are pages for each, and a part fits a page; how the number of inner objects, in all and in each
-- class, changes with the objects; and the pages that all need are the same by the inner objects and by the objects.
use Rattle.std.proofs.Common.{◌≡◌, ℕ, ◌+◌, ◌≤◌, List, Some, None, length, take, arith, ap}
use Rattle.std.specs.Prelude.{nat_eq}
use Rattle.std.proofs.lemmas.List.Sums.{sum_by-take-le}
use Rattle.std.specs.FinMap.{get, insert, remove}
use Rattle.cf_base.specs.Classes.{need}
use Rattle.cf_base.specs.Settings.{Profile}
use Rattle.cf_base.proofs.Ranges.{one}
use Rattle.cf_base.proofs.Sums.{sum_by-inserted, sum_by-removed, sum_by-replaced}
use Rattle.page_model.specs.Arrangement.{live, pages_for, pages_needed_with}
use Rattle.page_model.specs.Held.{Objects}
use Rattle.page_model.specs.Paging.{Paging, class_for}
use Rattle.page_model.proofs.CallerLemmas.{pages_grow, pages_same}
use Rattle.large_objects.specs.Large.{AreInnerCounted}
use Rattle.large_objects.specs.InnerObjects.{in_class, inner_count, inner_live, inner_pages_with, inner_lengths, whole_part_bytes}

-- if there are pages for all inner objects of an object, there are for one of them
pub inner_has_pages : (p : Paging) (o : Objects) (n : ℕ) (g : ℕ → ℕ) (most : ℕ) → pages_for p g ≤ most
    → ((c : ℕ) → live p o c + one (nat_eq (class_for p n) c) ≤ g c) → pages_needed_with p o n ≤ most
unfolding pages_needed_with
inner_has_pages p o n g most le each = (let h = pages_grow p (λ c. live p o c + one (nat_eq (class_for p n) c)) g each in omega arith)

pub in_class_take : (p : Paging) (c : ℕ) (xs : List ℕ) (i : ℕ) → in_class p c (take i xs) ≤ in_class p c xs
unfolding in_class
in_class_take p c xs i = sum_by-take-le (λ n. one (nat_eq (class_for p n) c)) xs i

-- a part needs at most the words of a page
pub part_fits : (p : Profile) (n : ℕ) → 1 ≤ p.page_words → n ≤ whole_part_bytes p → need n ≤ p.page_words
part_fits p n some le = omega arith

module _ (p : Paging) (u : ℕ) (large : Objects) (h : ℕ) (v : List ℕ) where
  pub count_inserted : get large h ≡ None → inner_count u (insert large h v) ≡ inner_count u large + length (inner_lengths u (length v))
  unfolding inner_count
  count_inserted none = sum_by-inserted (λ v. length (inner_lengths u (length v))) large h v none

  pub live_inserted : (c : ℕ) → get large h ≡ None → inner_live p u (insert large h v) c ≡ inner_live p u large c + in_class p c (inner_lengths u (length v))
  unfolding inner_live
  live_inserted c none = sum_by-inserted (λ v. in_class p c (inner_lengths u (length v))) large h v none

  pub count_removed : get large h ≡ Some v → inner_count u (remove large h) + length (inner_lengths u (length v)) ≡ inner_count u large
  unfolding inner_count
  count_removed some = sum_by-removed (λ v. length (inner_lengths u (length v))) large h v some

  pub live_removed : (c : ℕ) → get large h ≡ Some v → inner_live p u (remove large h) c + in_class p c (inner_lengths u (length v)) ≡ inner_live p u large c
  unfolding inner_live
  live_removed c some = sum_by-removed (λ v. in_class p c (inner_lengths u (length v))) large h v some

  -- a write doesn't change the counts
  pub count_replaced : (w : List ℕ) → get large h ≡ Some v → length w ≡ length v → inner_count u (insert large h w) ≡ inner_count u large
  unfolding inner_count
  count_replaced w some same =
      let e = sum_by-replaced (λ v. length (inner_lengths u (length v))) large h v w some in
      let l = ap (λ n. length (inner_lengths u n)) same in omega arith

  pub live_replaced : (w : List ℕ) (c : ℕ) → get large h ≡ Some v → length w ≡ length v → inner_live p u (insert large h w) c ≡ inner_live p u large c
  unfolding inner_live
  live_replaced w c some same =
      let e = sum_by-replaced (λ v. in_class p c (inner_lengths u (length v))) large h v w some in
      let l = ap (λ n. in_class p c (inner_lengths u n)) same in omega arith

module _ (p : Paging) (o : Objects) (h : ℕ) (v : List ℕ) where
  -- an inner object replaced by one of the same length leaves the live objects of each class the same
  pub live_rewritten : (w : List ℕ) (c : ℕ) → get o h ≡ Some v → length w ≡ length v → live p (insert o h w) c ≡ live p o c
  unfolding live
  live_rewritten w c some same =
      let e = sum_by-replaced (λ v. one (nat_eq (class_for p (length v)) c)) o h v w some in
      let l = ap (λ n. one (nat_eq (class_for p n) c)) same in omega arith

-- the pages computed from the inner objects are those computed from the objects
pub pages_counted : (p : Paging) (u : ℕ) (large inner : Objects) (n : ℕ) → AreInnerCounted p u large inner
    → pages_for p (λ c. live p inner c + in_class p c (inner_lengths u n)) ≡ inner_pages_with p u large n
unfolding inner_pages_with
pages_counted p u large inner n counted = pages_same p (λ c. live p inner c + in_class p c (inner_lengths u n)) (λ c. inner_live p u large c + in_class p c (inner_lengths u n))
    (λ c. ap (λ k. k + in_class p c (inner_lengths u n)) (counted.each c))
