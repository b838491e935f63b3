-- For an empty heap: the arrangement without objects is sound and uses no page, its counts, its bytes and the pages that it needs are 0, and its words are
-- zeros. Without addresses, words determine no object.
use Rattle.std.proofs.Common.{◌≡◌, ℕ, zero, suc, ◌+◌, ◌-◌, ◌*◌, List, Some, None, length, replicate, arith, sym, ◌∙◌, ap, inl, inr}
use Rattle.std.specs.Prelude.{sum_by}
use Rattle.std.specs.List.{range_with_len}
use Rattle.std.proofs.Math.Nat.{div-eq_of_lt, div-zero}
use Rattle.std.proofs.lemmas.Bool.{cases_lt}
use Rattle.std.proofs.lemmas.List.{get_or-replicate, get_or_past, length-replicate}
use Rattle.std.specs.Ordering.{nat_cmp}
use Rattle.std.specs.FinMap.{get, empty, get-empty}
use Rattle.cf_base.proofs.Values.{no_values, map_values-empty}
use Rattle.page_model.specs.Held.{Placed, objects}
use Rattle.page_model.specs.Bytes.{bytes_at, held_at}
use Rattle.page_model.specs.Figures.{asked_bytes, taken_bytes}
use Rattle.page_model.specs.Paging.{Paging, class_for, classes, slot_words, slots_of}
use Rattle.page_model.specs.Arrangement.{objects_on, pages_of_class, live, not_full_pages, IsSound, pages_needed}
use Rattle.page_model.specs.Counts.{ceil_div}
use Rattle.page_model.specs.Image.{IsImageOver}
use Rattle.page_model.proofs.Counting.{part_empty, not_less_counts_none}
use Rattle.page_model.proofs.Totals.{sum_zeros, on_none}

no_object : (h : ℕ) (x : Placed) → get {R = nat_cmp} empty h ≡ Some x → ⊥
no_object h x e = absurd (let n : get {X = Placed} {R = nat_cmp} empty h ≡ None = get-empty nat_cmp h in let z : Some x ≡ None = sym e ∙ n in cc)

pub none_not_full : (p : Paging) (c : ℕ) → not_full_pages p empty c ≡ 0
unfolding not_full_pages
none_not_full p c = sum_zeros _ (range_with_len 0 p.pages) (λ g. part_empty _ (slots_of p c) (on_none p c g))

pub none_home : (p : Paging) (c : ℕ) → pages_of_class p empty c ≡ 0
unfolding pages_of_class
none_home p c = sum_zeros _ (range_with_len 0 p.pages) (λ g. (let e = on_none p c g in not_less_counts_none 0 (objects_on p empty c g) (omega arith)))

pub sound_empty : (p : Paging) → IsSound p empty
sound_empty p = record {
  slots = λ h x e. absurd (no_object h x e);
  own_place = λ h x q y e f ne. absurd (no_object h x e);
  one_class = λ h x q y e f. absurd (no_object h x e);
  few_not_full = λ c lt. (let z = none_not_full p c in omega arith);
}

pub image_empty : (extent : ℕ → ℕ) (n : ℕ) → IsImageOver extent empty (replicate n 0)
image_empty extent n = record {
  held = λ h x e. absurd (no_object h x e);
  zeros = λ w _. elim (cases_lt w n) [
    | inl lt ↦ get_or-replicate {A = ℕ} n w 0 0 lt
    | inr past ↦ (let len : length (replicate {A = ℕ} n 0) ≡ n = length-replicate {A = ℕ} n 0 in get_or_past {X = ℕ} (replicate n 0) w 0 (omega arith))
  ];
}

-- without addresses, the words determine no object
pub nothing_held : (words : List ℕ) → held_at words empty ≡ empty
nothing_held words = map_values-empty (λ a. record { place = a; bytes = bytes_at words a })

pub no_objects : objects empty ≡ empty
no_objects = map_values-empty (λ (x : Placed). x.bytes)

-- the counts of no objects
pub none_live : (p : Paging) (c : ℕ) → live p empty c ≡ 0
unfolding live
none_live p c = ap (sum_by _) no_values

-- no objects need no pages
none_over : (m : ℕ) → ceil_div 0 m ≡ 0
none_over zero = div-zero 0
none_over (suc k) = div-eq_of_lt {n = 0 + (suc k - 1)} {m = suc k} (omega arith)

pub none_needed : (p : Paging) → pages_needed p empty ≡ 0
unfolding pages_needed
none_needed p = sum_zeros _ (range_with_len 0 (classes p)) (λ c. ap (λ n. ceil_div n (slots_of p c)) (none_live p c) ∙ none_over (slots_of p c))

pub none_asked : asked_bytes empty ≡ 0
unfolding asked_bytes
none_asked = ap (sum_by length) no_values

pub none_taken : (p : Paging) → taken_bytes p empty ≡ 0
unfolding taken_bytes
none_taken p = ap (λ vs. 8 * sum_by (λ v. slot_words p (class_for p (length v))) vs) no_values
