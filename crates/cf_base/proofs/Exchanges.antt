-- For proofs about `exchanged`, as of a block table: two runs of a list change places. The number that each number of the runs becomes (its partner), and the
-- length and the entries of the list afterwards, which determine it.
use Rattle.std.proofs.Common.{◌≡◌, ℕ, true, false, ◌+◌, ◌-◌, ◌<◌, ◌≤◌, List, length, get_or, arith, sym, ◌∙◌, inl, inr, ap, refl}
use Rattle.std.specs.Prelude.{◌⊎◌, nat_le, nat_lt}
use Rattle.std.proofs.lemmas.List.FromFn.{length-map-range_with_len, get_or-map-range_with_len}
use Rattle.std.proofs.lemmas.Grind.{same_number_lists}
use Rattle.std.proofs.lemmas.List.{get_or_past}
use Rattle.std.proofs.lemmas.Bool.{cases_lt}
use Rattle.std.proofs.lemmas.Bool.Decides.{nat_tests}
use Rattle.cf_base.proofs.Tests.{and_false}
use Rattle.cf_base.specs.Exchanges.{is_among, partner, exchanged}

among_yes : (a n v : ℕ) → a ≤ v → v < a + n → is_among a n v ≡ true
among_yes a n v l h = (let x : nat_le a v ≡ true = grind (arith, nat_tests) in let y : nat_lt v (a + n) ≡ true = grind (arith, nat_tests) in rw (x, y) refl)

among_no : (a n v : ℕ) → ((v < a) ⊎ (a + n ≤ v)) → is_among a n v ≡ false
among_no a n v (inl l) = (let x : nat_le a v ≡ false = grind (arith, nat_tests) in rw x refl)
among_no a n v (inr h) = (let y : nat_lt v (a + n) ≡ false = grind (arith, nat_tests) in rw y (and_false (nat_le a v)))

-- two runs of n numbers without a common number
module _ (a b n : ℕ) (apart : (a + n ≤ b) ⊎ (b + n ≤ a)) where
  pub partner_first : (v : ℕ) → a ≤ v → v < a + n → partner a b n v ≡ b + (v - a)
  partner_first v l h = (let x = among_yes a n v l h in rw x refl)

  pub partner_second : (v : ℕ) → b ≤ v → v < b + n → partner a b n v ≡ a + (v - b)
  partner_second v l h =
      let x : is_among a n v ≡ false = among_no a n v (elim apart [ inl e ↦ inr (omega arith) | inr e ↦ inl (omega arith) ]) in
      let y = among_yes b n v l h in
      rw (x, y) refl

  pub partner_else : (v : ℕ) → ((v < a) ⊎ (a + n ≤ v)) → ((v < b) ⊎ (b + n ≤ v)) → partner a b n v ≡ v
  partner_else v p q = (let x = among_no a n v p in let y = among_no b n v q in rw (x, y) refl)

  -- the three cases of a number: in the first run, in the second, or in neither; with its partner in each case
  data Where (v : ℕ) : Type 0 where
    first : a ≤ v → v < a + n → partner a b n v ≡ b + (v - a) → Where v
    second : b ≤ v → v < b + n → partner a b n v ≡ a + (v - b) → Where v
    neither : ((v < a) ⊎ (a + n ≤ v)) → ((v < b) ⊎ (b + n ≤ v)) → partner a b n v ≡ v → Where v

  cases_range : (c v : ℕ) → ((c ≤ v) × (v < c + n)) ⊎ ((v < c) ⊎ (c + n ≤ v))
  cases_range c v = elim (cases_lt v c) [
    | inl below ↦ inr (inl below)
    | inr above ↦ elim (cases_lt v (c + n)) [ inl inside ↦ inl (above, inside) | inr past ↦ inr (inr past) ]
  ]

  where_is : (v : ℕ) → Where v
  where_is v = elim (cases_range a v) [
    | inl (l, h) ↦ first l h (partner_first v l h)
    | inr out_a ↦ elim (cases_range b v) [
      | inl (l, h) ↦ second l h (partner_second v l h)
      | inr out_b ↦ neither out_a out_b (partner_else v out_a out_b)
    ]
  ]

module _ (xs : List ℕ) (a b n : ℕ) where
  pub length-exchanged : length (exchanged xs a b n) ≡ length xs
  unfolding exchanged
  length-exchanged = length-map-range_with_len _ 0 _

  pub get_or-exchanged : (v : ℕ) → v < length xs → get_or (exchanged xs a b n) v 0 ≡ get_or xs (partner a b n v) 0
  unfolding exchanged
  get_or-exchanged v lt = get_or-map-range_with_len (λ v. get_or xs (partner a b n v) 0) 0 (length xs) v v 0 lt (omega arith)

-- the entries of a list after two of its runs changed places
module _ (xs : List ℕ) (a b n : ℕ) (apart : (a + n ≤ b) ⊎ (b + n ≤ a)) (at_a : a + n ≤ length xs) (at_b : b + n ≤ length xs) where
  pub exchanged_at_b : (k : ℕ) → k < n → get_or (exchanged xs a b n) (b + k) 0 ≡ get_or xs (a + k) 0
  exchanged_at_b k lt = get_or-exchanged xs a b n (b + k) (omega arith)
      ∙ ap (λ v. get_or xs v 0) (partner_second a b n apart (b + k) (omega arith) (omega arith) ∙ omega arith)

  pub exchanged_others : (w : ℕ) → (w < a) ⊎ (a + n ≤ w) → (w < b) ⊎ (b + n ≤ w) → get_or (exchanged xs a b n) w 0 ≡ get_or xs w 0
  exchanged_others w p q = elim (cases_lt w (length xs)) [
    | inl lt ↦ get_or-exchanged xs a b n w lt ∙ ap (λ v. get_or xs v 0) (partner_else a b n apart w p q)
    | inr past ↦ get_or_past (exchanged xs a b n) w 0 (let e = length-exchanged xs a b n in omega arith) ∙ sym (get_or_past xs w 0 past)
  ]

  -- a list of the same length with these entries is the exchanged list
  pub exchanged_is : (ys : List ℕ) → length ys ≡ length xs
      → ((k : ℕ) → k < n → get_or ys (a + k) 0 ≡ get_or xs (b + k) 0)
      → ((k : ℕ) → k < n → get_or ys (b + k) 0 ≡ get_or xs (a + k) 0)
      → ((w : ℕ) → (w < a) ⊎ (a + n ≤ w) → (w < b) ⊎ (b + n ≤ w) → get_or ys w 0 ≡ get_or xs w 0)
      → ys ≡ exchanged xs a b n
  exchanged_is ys len of_a of_b others = same_number_lists ys (exchanged xs a b n) (len ∙ sym (length-exchanged xs a b n))
      (λ v lt. (
      let here = get_or-exchanged xs a b n v (omega arith) in
      elim (where_is a b n apart v) [
        | first l h e ↦ (let at : a + (v - a) ≡ v = omega arith in ap (λ w. get_or ys w 0) (sym at) ∙ of_a (v - a) (omega arith)
            ∙ ap (λ w. get_or xs w 0) (sym e) ∙ sym here)
        | second l h e ↦ (let at : b + (v - b) ≡ v = omega arith in ap (λ w. get_or ys w 0) (sym at) ∙ of_b (v - b) (omega arith)
            ∙ ap (λ w. get_or xs w 0) (sym e) ∙ sym here)
        | neither p q e ↦ others v p q ∙ ap (λ w. get_or xs w 0) (sym e) ∙ sym here
      ]))
