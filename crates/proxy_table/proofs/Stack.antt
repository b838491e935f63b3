-- For the calls of `ProxyTable`: after each call the stack of free numbers keeps its invariant. It has each number without an address once.
use Rattle.std.proofs.Common.{◌≡◌, ◌≢◌, ℕ, zero, suc, ◌+◌, ◌-◌, ◌^◌, ◌<◌, List, Option, Some, None, length, get_or, set, cond, arith, sym, ◌∙◌, inl, inr, ap}
use Rattle.std.proofs.Common.{refl}
use Rattle.std.specs.Prelude.{count_by, is_some, IsSome}
use Rattle.std.proofs.lemmas.List.{get_or-set_same, get_or-set_other, length-set, length-replicate, get_or_read, get_or-replicate}
use Rattle.std.proofs.lemmas.List.Sums.{sum_by-set, sum_by-cons}
use Rattle.std.proofs.lemmas.Bool.{cases_lt, false≢true}
use Rattle.cf_base.specs.Maps.{vacant}
use Rattle.proxy_table.specs.Layout.{IsValid, IsFalling}

-- 1 if a number is live
abbrev one : Option ℕ → ℕ
one o = cond (is_some o) 1 0

count_set : (xs : List (Option ℕ)) (i : ℕ) (y : Option ℕ) → i < length xs → count_by is_some (set xs i y) + one (get_or xs i None) ≡ count_by is_some xs + one y
count_set xs i y lt = sum_by-set one xs i y None lt

live_is_one : (o : Option ℕ) → IsSome o → one o ≡ 1
live_is_one (Some x) h = refl
live_is_one None h = absurd (false≢true h)

not_none : (o : Option ℕ) → IsSome o → o ≢ None
not_none (Some x) h e = cc
not_none None h e = false≢true h

count_vacant : (n : ℕ) → count_by is_some (vacant {X = ℕ} n) ≡ 0
count_vacant zero = refl
count_vacant (suc n) = sum_by-cons one None (vacant {X = ℕ} n) ∙ (let e = count_vacant n in omega arith)

-- a new table: no number is live, and the stack is in falling order
pub stack_new : (n : ℕ) (numbers : List ℕ) → n < 2 ^ 32 → IsFalling n numbers → IsValid (vacant {X = ℕ} n) numbers n
stack_new n numbers small f =
    let l : length (vacant {X = ℕ} n) ≡ n = length-replicate {A = Option ℕ} n None in
    let long = f.long in
    let falls : (i : ℕ) → i < n → get_or numbers i 0 ≡ n - 1 - i = λ i lt. f.falls i (omega arith) in
    record {
      as_long = long ∙ sym l;
      counted = omega (arith, count_vacant n);
      few = omega arith;
      in_range = λ i lt. rw (falls i lt) (omega arith);
      not_live = λ i lt. get_or-replicate n (get_or numbers i 0) None None (rw (falls i lt) (omega arith));
      distinct = λ i j lt within e. (let a = falls i (omega arith) in let b = falls j within in omega arith);
    }

-- a number read on top of the stack is the stack's entry, whatever default the read has
pub top : (places : List (Option ℕ)) (stack : List ℕ) (left : ℕ) → IsValid places stack left → 0 < left → (h : ℕ) → h ≡ get_or stack (left - 1) h
    → h ≡ get_or stack (left - 1) 0
top places stack left s some h read = get_or_read stack (left - 1) h (omega (arith, s.counted, s.as_long)) read 0

module _ (places : List (Option ℕ)) (stack : List ℕ) (left h : ℕ) (s : IsValid places stack left) where
  -- a live number is not on the stack
  pub off_stack : IsSome (get_or places h None) → (i : ℕ) → i < left → get_or stack i 0 ≢ h
  off_stack some i lt e = not_none _ some (ap (λ q. get_or places q None) (sym e) ∙ s.not_live i lt)

  -- and the topmost number is on the stack once
  pub once_on_stack : 0 < left → h ≡ get_or stack (left - 1) 0 → (i : ℕ) → i < left - 1 → get_or stack i 0 ≢ h
  once_on_stack some is i lt e = s.distinct i (left - 1) lt (omega arith) (e ∙ is)

  pub stack_rebound : (a : ℕ) → IsSome (get_or places h None) → h < length places → IsValid (set places h (Some a)) stack left
  stack_rebound a some lt = record {
    as_long = s.as_long ∙ sym (length-set places h (Some a));
    counted = rw length-set (let c = count_set places h (Some a) lt in let o = live_is_one _ some in let is = s.counted in omega arith);
    few = rw length-set s.few;
    in_range = λ i l. rw length-set (s.in_range i l);
    not_live = λ i l. get_or-set_other places h (get_or stack i 0) (Some a) None
        (λ e. not_none _ some (ap (λ q. get_or places q None) (sym e) ∙ s.not_live i l)) ∙ s.not_live i l;
    distinct = s.distinct;
  }

  pub stack_bound : (a : ℕ) → 0 < left → h ≡ get_or stack (left - 1) 0 → IsValid (set places h (Some a)) stack (left - 1)
  stack_bound a some is =
      let lt : h < length places = rw is (s.in_range (left - 1) (omega arith)) in
      let none : get_or places h None ≡ None = rw is (s.not_live (left - 1) (omega arith)) in
      record {
        as_long = s.as_long ∙ sym (length-set places h (Some a));
        counted = rw length-set (let c = count_set places h (Some a) lt in let o : one (get_or places h None) ≡ 0 = ap one none in let is =
            s.counted in omega arith);
        few = rw length-set s.few;
        in_range = λ i l. rw length-set (s.in_range i (omega arith));
        not_live = λ i l. get_or-set_other places h (get_or stack i 0) (Some a) None (λ e. s.distinct i (left - 1) l (omega arith) (e ∙ is))
            ∙ s.not_live i (omega arith);
        distinct = λ i j l m. s.distinct i j l (omega arith);
      }

  -- while a number is live, the stack has a place for it
  pub stack_room : IsSome (get_or places h None) → h < length places → left < length places
  stack_room some lt = (let c = count_set places h None lt in let o = live_is_one _ some in let is = s.counted in omega arith)

  pub stack_released : IsSome (get_or places h None) → h < length places → IsValid (set places h None) (set stack left h) (left + 1)
  stack_released some lt =
      let inside : left < length stack = omega (arith, s.as_long, stack_room some lt) in
      record {
        as_long = length-set stack left h ∙ s.as_long ∙ sym (length-set places h None);
        counted = rw length-set (let c = count_set places h None lt in let o = live_is_one _ some in let is = s.counted in omega arith);
        few = rw length-set s.few;
        in_range = λ i l. rw length-set (elim (cases_lt i left) [
          | inl below ↦ rw (get_or-set_other stack left i h 0 (omega arith)) (s.in_range i below)
          | inr at ↦ (let e : i ≡ left = omega arith in rw (e, get_or-set_same stack left h 0 inside) lt)
        ]);
        not_live = λ i l. elim (cases_lt i left) [
          | inl below ↦ rw (get_or-set_other stack left i h 0 (omega arith)) (
              get_or-set_other places h (get_or stack i 0) None None (λ e. not_none _ some (ap (λ q. get_or places q None) (sym e) ∙ s.not_live i below))
              ∙ s.not_live i below)
          | inr at ↦ (let e : i ≡ left = omega arith in rw (e, get_or-set_same stack left h 0 inside) (get_or-set_same places h None None lt))
        ];
        distinct = λ i j l m. elim (cases_lt j left) [
          | inl below ↦ rw (get_or-set_other stack left i h 0 (omega arith), get_or-set_other stack left j h 0 (omega arith)) (s.distinct i j l below)
          | inr at ↦ (
              let e : j ≡ left = omega arith in
              rw (get_or-set_other stack left i h 0 (omega arith), e, get_or-set_same stack left h 0 inside)
              (λ same. not_none _ some (ap (λ q. get_or places q None) (sym same) ∙ s.not_live i (omega arith))))
        ];
      }
