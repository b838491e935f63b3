-- For the laws of `figures.rt`: how adding, removing or rewriting an object changes the live objects of each class, the bytes asked and the bytes taken.
-- `objects` has one entry for each object. Used and free pages add up to all pages. A class has at most all objects, and at most all pages.
use Rattle.std.proofs.Common.{◌≡◌, ℕ, ◌+◌, ◌*◌, ◌≤◌, List, Some, None, length, arith, ap}
use Rattle.std.specs.Prelude.{nat_eq}
use Rattle.std.specs.FinMap.{get, insert, remove, len}
use Rattle.cf_base.proofs.Maps.{get_removed}
use Rattle.cf_base.proofs.Sums.{insert_again, sum_by-inserted, sum_by-removed}
use Rattle.cf_base.proofs.Ranges.{count_at_most, one}
use Rattle.cf_base.proofs.Values.{len-map_values, sum_at_most}
use Rattle.page_model.specs.Held.{Held, Objects, Placed, objects}
use Rattle.page_model.specs.Paging.{Paging, slot_words, class_for}
use Rattle.page_model.specs.Arrangement.{pages_of_class, live, used_pages, free_pages, IsSound}
use Rattle.page_model.specs.Figures.{asked_bytes, taken_bytes}
use Rattle.page_model.proofs.Counting.{one_le}
use Rattle.page_model.proofs.Lacking.{used_le}

-- `objects` has one entry for each object
pub len-objects : (m : Held) → len (objects m) ≡ len m
len-objects = len-map_values (λ (x : Placed). x.bytes)

module _ (p : Paging) (o : Objects) (h : ℕ) (v : List ℕ) where
  pub live_added : (c : ℕ) → get o h ≡ None → live p (insert o h v) c ≡ live p o c + one (nat_eq (class_for p (length v)) c)
  unfolding live
  live_added c none = sum_by-inserted (λ v. one (nat_eq (class_for p (length v)) c)) o h v none

  pub live_taken : (c : ℕ) → get o h ≡ Some v → live p (remove o h) c + one (nat_eq (class_for p (length v)) c) ≡ live p o c
  unfolding live
  live_taken c some = sum_by-removed (λ v. one (nat_eq (class_for p (length v)) c)) o h v some

  pub taken_added : get o h ≡ None → taken_bytes p (insert o h v) ≡ taken_bytes p o + 8 * slot_words p (class_for p (length v))
  unfolding taken_bytes
  taken_added none = (let e = sum_by-inserted (λ v. slot_words p (class_for p (length v))) o h v none in omega arith)

  pub taken_taken : get o h ≡ Some v → taken_bytes p (remove o h) + 8 * slot_words p (class_for p (length v)) ≡ taken_bytes p o
  unfolding taken_bytes
  taken_taken some = (let e = sum_by-removed (λ v. slot_words p (class_for p (length v))) o h v some in omega arith)

-- other bytes of the same class change no count
pub live_rewritten : (p : Paging) (o : Objects) (h : ℕ) (v u : List ℕ) → get o h ≡ Some v → class_for p (length u) ≡ class_for p (length v) → (c : ℕ)
    → live p (insert o h u) c ≡ live p o c
live_rewritten p o h v u some same c =
    let a = live_taken p o h v c some in
    let b = live_added p (remove o h) h u c (get_removed o h) in
    let e : live p (insert (remove o h) h u) c ≡ live p (insert o h u) c = ap (λ o. live p o c) (insert_again o h u) in
    let f : one (nat_eq (class_for p (length u)) c) ≡ one (nat_eq (class_for p (length v)) c) = ap (λ d. one (nat_eq d c)) same in
    omega arith

-- a class has at most all objects
pub live_few : (p : Paging) (m : Held) (c : ℕ) → live p (objects m) c ≤ len m
unfolding live
live_few p m c =
    let a = sum_at_most (λ v. one (nat_eq (class_for p (length v)) c)) 1 (objects m) (λ q v e. one_le (nat_eq (class_for p (length v)) c)) in
    let l = len-objects m in
    omega arith

-- a class has at most all pages
pub home_at_most : (p : Paging) (m : Held) (c : ℕ) → pages_of_class p m c ≤ p.pages
unfolding pages_of_class
home_at_most p m c = count_at_most _ 0 p.pages

module _ (o : Objects) (h : ℕ) (v : List ℕ) where
  pub asked_added : get o h ≡ None → asked_bytes (insert o h v) ≡ asked_bytes o + length v
  unfolding asked_bytes
  asked_added none = sum_by-inserted length o h v none

  pub asked_taken : get o h ≡ Some v → asked_bytes (remove o h) + length v ≡ asked_bytes o
  unfolding asked_bytes
  asked_taken some = sum_by-removed length o h v some

pub pages_add_up : (p : Paging) (m : Held) → IsSound p m → used_pages p m + free_pages p m ≡ p.pages
pages_add_up p m s = (let l = used_le p m s in omega arith)
