-- The exact steps of a malloc, free or resize of a heap with pages (`malloc_cost` and so on) are within 64, 96 + 2s and 160 + 3s; s counts the words of the
-- slot, in a resize of the larger one.
use Rattle.std.proofs.Common.{◌≡◌, ℕ, ◌+◌, ◌-◌, ◌*◌, ◌/◌, ◌≤◌, Option, Some, None, Ok, length, arith, refl, sym, ap, subst, max, min, nat_eq, nat_lt}
use Rattle.run_model.specs.Terms.{class_at, Freed, get, Handle, HeapState, need, page_of, paging_in, Placed, Request, Resized, slots_of}
use Rattle.page_model.specs.Arrangement.{objects_on}
use Rattle.page_model.specs.Image.{slot_for}
use Rattle.page_model.specs.Order.{Order, steps_to_take, word_steps}
use Rattle.page_model.specs.Paging.{class_for}
use Rattle.page_model.specs.WordSteps.{copy_steps, run_steps, slot_steps, wipe_steps}
use Rattle.page_model.proofs.CallerLemmas.{copy_few, drop_few, either_few, fill_few, run_few, slot_few, take_few, wipe_few, word_few}
use Rattle.cf_model.specs.Costs.{resize_bound}
use Rattle.cf_model.specs.ExactCosts.{carrying_cost, free_cost, leaving_cost, malloc_cost, resize_cost, resized_cost, tail_steps}

pub space_few : (s : HeapState) → 4 + word_steps s.kind ≤ 160
space_few s = (let w = word_few s.kind in omega arith)

module _ (s : HeapState) (o : Order) where
  pub malloc_few : (bytes : ℕ) (h : Handle) → malloc_cost s o bytes (Ok h) ≤ 64
  malloc_few bytes h =
      let a = word_few s.kind in
      let b = take_few (paging_in s) s.held o (class_for (paging_in s) bytes) in
      omega arith

  leaving_few : (x : Placed) (moved : Option Handle) (n : ℕ) → n ≡ slot_for (paging_in s) (length x.bytes) → leaving_cost s o x moved ≤ 15 + n + n / 2
  leaving_few x None n is =
      let a : wipe_steps s.kind (slot_for (paging_in s) (length x.bytes)) ≤ n + n / 2 = subst (λ k. wipe_steps s.kind k ≤ n + n / 2) is (wipe_few s.kind n) in
      let b = drop_few (objects_on (paging_in s) s.held (class_at (paging_in s) x) (page_of (paging_in s) x.place)) (slots_of (paging_in s) (class_at (paging_in s) x)) in
      omega arith
  leaving_few x (Some y) n is =
      let a : slot_steps s.kind (slot_for (paging_in s) (length x.bytes)) ≤ n + n / 2 = subst (λ k. slot_steps s.kind k ≤ n + n / 2) is (slot_few s.kind n) in
      let b = fill_few (paging_in s) s.held o (class_at (paging_in s) x) in
      let c = word_few s.kind in
      omega arith

  pub free_few : (h : ℕ) (x : Placed) → get s.held h ≡ Some x → (freed : Freed) → freed.slot_words ≡ slot_for (paging_in s) (length x.bytes)
      → free_cost s o h (Ok freed) ≤ 96 + 2 * freed.slot_words
  free_few h x found freed is =
      let at : free_cost s o h (Ok freed) ≡ 5 + word_steps s.kind + leaving_cost s o x freed.moved =
      ap (λ (m : Option Placed). elim m [ None ↦ 0 | Some y ↦ 5 + word_steps s.kind + leaving_cost s o y freed.moved ]) found in
      let a = word_few s.kind in
      let b = leaving_few x freed.moved freed.slot_words is in
      omega arith

  tail_few : (a n m : ℕ) → tail_steps s.kind a n m ≤ 2 + 2 * ((m + 7) / 8 - n / 8 - 1)
  tail_few a n m =
      let w = word_few s.kind in
      let r = run_few s.kind (a + 2 + n / 8) ((m + 7) / 8 - n / 8 - 1) in
      either_few (nat_lt n m) (word_steps s.kind + run_steps s.kind (a + 2 + n / 8) ((m + 7) / 8 - n / 8 - 1)) 0 (2 + 2 * ((m + 7) / 8 - n / 8 - 1))
      (both_few (word_steps s.kind) (run_steps s.kind (a + 2 + n / 8) ((m + 7) / 8 - n / 8 - 1)) ((m + 7) / 8 - n / 8 - 1) w r) (omega arith)
    where
      both_few : (x y z : ℕ) → x ≤ 2 → y ≤ 2 * z → x + y ≤ 2 + 2 * z
      both_few x y z a b = omega arith

  carrying_few : (m n j : ℕ) → j ≡ (min m n + 7) / 8 → carrying_cost s.kind m n ≤ 9 + j + j / 2
  carrying_few m n j is =
      let a : copy_steps s.kind 1 ((min m n + 7) / 8) ≤ j + j / 2 + 4 = subst (λ k. copy_steps s.kind 1 k ≤ j + j / 2 + 4) is (copy_few s.kind 1 j) in
      let b : tail_steps s.kind 0 n (8 * ((min m n + 7) / 8)) ≤ 2 + 2 * ((8 * j + 7) / 8 - n / 8 - 1) =
      subst (λ k. tail_steps s.kind 0 n (8 * k) ≤ 2 + 2 * ((8 * j + 7) / 8 - n / 8 - 1)) is (tail_few 0 n (8 * j)) in
      let c : (8 * j + 7) / 8 - n / 8 - 1 ≡ 0 = cut m n j is in
      let w = word_few s.kind in
      sum_few (copy_steps s.kind 1 ((min m n + 7) / 8)) (tail_steps s.kind 0 n (8 * ((min m n + 7) / 8))) (word_steps s.kind) j a
      (subst (λ k. tail_steps s.kind 0 n (8 * ((min m n + 7) / 8)) ≤ 2 + 2 * k) c b) w
    where
      cut : (m n j : ℕ) → j ≡ (min m n + 7) / 8 → (8 * j + 7) / 8 - n / 8 - 1 ≡ 0
      cut m n j is = omega arith

      sum_few : (a b w j : ℕ) → a ≤ j + j / 2 + 4 → b ≤ 2 + 2 * 0 → w ≤ 2 → a + b + w + 1 ≤ 9 + j + j / 2
      sum_few a b w j x y z = omega arith

  -- x in its slot of `old` words, and n bytes in one of `new` words
  module _ (x : Placed) (n old new : ℕ) (was : old ≡ slot_for (paging_in s) (length x.bytes)) (holds : need (length x.bytes) ≤ old) (fits : need n ≤ new) where
    stays_few : 3 + 2 * word_steps s.kind + tail_steps s.kind 0 n (length x.bytes) ≤ 160 + 3 * max old new
    stays_few =
        sum_few (word_steps s.kind) (tail_steps s.kind 0 n (length x.bytes)) (length x.bytes) n old new (word_few s.kind) (tail_few 0 n (length x.bytes)) holds
      where
        sum_few : (w t m n old new : ℕ) → w ≤ 2 → t ≤ 2 + 2 * ((m + 7) / 8 - n / 8 - 1) → 1 + (m + 7) / 8 ≤ old → 3 + 2 * w + t ≤ 160 + 3 * max old new
        sum_few w t m n old new a b c = omega arith

    changes_few : (moved : Option Handle) → 4 + word_steps s.kind + steps_to_take (paging_in s) s.held o (class_for (paging_in s) n)
        + carrying_cost s.kind (length x.bytes) n + leaving_cost s o x moved ≤ 160 + 3 * max old new
    changes_few moved =
        sum_few (word_steps s.kind) (steps_to_take (paging_in s) s.held o (class_for (paging_in s) n)) (carrying_cost s.kind (length x.bytes) n)
        (leaving_cost s o x moved) (length x.bytes) n old new ((min (length x.bytes) n + 7) / 8) (kept_few (length x.bytes) n old new holds fits).0
        (kept_few (length x.bytes) n old new holds fits).1 (word_few s.kind)
        (take_few (paging_in s) s.held o (class_for (paging_in s) n)) (carrying_few (length x.bytes) n ((min (length x.bytes) n + 7) / 8) refl)
        (leaving_few x moved old was)
      where
        kept_few : (m n old new : ℕ) → 1 + (m + 7) / 8 ≤ old → 1 + (n + 7) / 8 ≤ new → ((min m n + 7) / 8 ≤ old) × ((min m n + 7) / 8 ≤ new)
        kept_few m n old new a b = (omega arith, omega arith)

        sum_few : (w t c l m n old new j : ℕ) → j ≤ old → j ≤ new → w ≤ 2 → t ≤ 13 → c ≤ 9 + j + j / 2 → l ≤ 15 + old + old / 2
            → 4 + w + t + c + l ≤ 160 + 3 * max old new
        sum_few w t c l m n old new j a b d e f g = omega arith

    resized_few : (moved : Option Handle) → resized_cost s o n x moved ≤ 160 + 3 * max old new
    resized_few moved =
        either_few (nat_eq (class_for (paging_in s) n) (class_at (paging_in s) x)) (3 + 2 * word_steps s.kind + tail_steps s.kind 0 n (length x.bytes))
        (4 + word_steps s.kind + steps_to_take (paging_in s) s.held o (class_for (paging_in s) n) + carrying_cost s.kind (length x.bytes) n
        + leaving_cost s o x moved) (160 + 3 * max old new) stays_few (changes_few moved)

  pub resize_few : (asked : Request) (x : Placed) → get s.held asked.number ≡ Some x → (done : Resized)
      → done.old_slot_words ≡ slot_for (paging_in s) (length x.bytes) → need (length x.bytes) ≤ done.old_slot_words → need asked.length ≤ done.slot_words
      → resize_cost s o asked (Ok done) ≤ resize_bound (Ok done)
  resize_few asked x found done was holds fits =
      subst (λ k. k ≤ resize_bound (Ok done)) (sym at) (resized_few x asked.length done.old_slot_words done.slot_words was holds fits done.moved)
    where
      at : resize_cost s o asked (Ok done) ≡ resized_cost s o asked.length x done.moved
      at = ap (λ (m : Option Placed). elim m [ None ↦ 0 | Some y ↦ resized_cost s o asked.length y done.moved ]) found
