-- A list after items in its middle are replaced, or after it is filled in three parts; and the bytes of a list of words after some of the words are replaced.
use Rattle.std.proofs.Common.{◌≡◌, ℕ, ◌+◌, ◌-◌, ◌*◌, ◌/◌, ◌%◌, ◌<◌, ◌≤◌, List, ◌++◌, length, get_or, take, drop, arith, sym, ap, ◌∙◌, inl, inr}
use Rattle.std.specs.Prelude.{◌⊎◌}
use Rattle.std.proofs.lemmas.Bool.{cases_lt}
use Rattle.std.proofs.lemmas.List.{length-append, length-drop, length-take-le, get_or_append_left, get_or-append_right, get_or-take, get_or-drop}
use borrow.Rule.Slice.PartMut.{put_mid, post_of}
use Rattle.page_model.specs.Bytes.{byte_of}
use Rattle.region.specs.Cells.{byte_in, overwritten}
use Rattle.region.proofs.Overwriting.{overwritten_before, overwritten_behind, overwritten_inside}

-- ys replaces the n items of xs from item a on
module _ (xs ys : List ℕ) (a n : ℕ) (long : length ys ≡ n) (within : a + n ≤ length xs) where
  front : length (take a xs) ≡ a
  front = length-take-le a xs (omega arith)

  pub put_inside : (i : ℕ) → a ≤ i → i < a + n → get_or (put_mid a n xs ys) i 0 ≡ get_or ys (i - a) 0
  put_inside i low high =
      get_or-append_right (take a xs) (ys ++ post_of a n xs) a i 0 front low ∙ get_or_append_left ys (post_of a n xs) 0 (i - a) (omega arith)

  pub put_outside : (i : ℕ) → (i < a) ⊎ (a + n ≤ i) → get_or (put_mid a n xs ys) i 0 ≡ get_or xs i 0
  put_outside i (inl lt) = get_or_append_left (take a xs) (ys ++ post_of a n xs) 0 i (omega (arith, front)) ∙ get_or-take a xs i 0 lt
  put_outside i (inr le) =
      get_or-append_right (take a xs) (ys ++ post_of a n xs) a i 0 front (omega arith)
      ∙ get_or-append_right ys (post_of a n xs) n (i - a) 0 long (omega arith)
      ∙ get_or-drop n (drop a xs) (i - a - n) 0 ∙ get_or-drop a xs (n + (i - a - n)) 0
      ∙ ap (λ (j : ℕ). get_or xs j 0) (let e : a + (n + (i - a - n)) ≡ i = omega arith in e)

-- `out` is filled in three parts: its first x items, those before item y, and the rest
module _ (f : ℕ → ℕ) (out a b z : List ℕ) (x y m n : ℕ) (is_m : m ≡ y - x) (is_n : n ≡ length out - y) (order : x ≤ y) (within : y ≤ length out)
    (long_a : length a ≡ x) (long_b : length b ≡ m) (long_z : length z ≡ n) where
  abbrev one : List ℕ
  one = a ++ drop x out

  abbrev two : List ℕ
  two = put_mid x m one b

  long_one : length one ≡ length out
  long_one = (let e = length-append a (drop x out) in let d = length-drop x out in omega arith)

  long_two : length two ≡ length out
  long_two =
      let e = long_one in let f = length-take-le x one (omega arith) in let g = length-append (take x one) (b ++ post_of x m one) in
      let h = length-append b (post_of x m one) in let i = length-drop m (drop x one) in let j = length-drop x one in
      omega arith

  pub all_filled : ((k : ℕ) → k < x → get_or a k 0 ≡ f k) → ((k : ℕ) → k < m → get_or b k 0 ≡ f (x + k)) → ((k : ℕ) → k < n → get_or z k 0 ≡ f (y + k))
      → (k : ℕ) → k < length out → get_or (put_mid y n two z) k 0 ≡ f k
  all_filled in_a in_b in_z k lt = (let e = long_one in let g = long_two in elim (cases_lt k y) [
    | inl before ↦ put_outside two z y n long_z (omega arith) k (inl before) ∙ elim (cases_lt k x) [
      | inl low ↦ put_outside one b x m long_b (omega arith) k (inl low) ∙ get_or_append_left a (drop x out) 0 k (omega arith) ∙ in_a k low
      | inr from ↦ put_inside one b x m long_b (omega arith) k from (omega arith) ∙ in_b (k - x) (omega arith)
          ∙ ap f (let i : x + (k - x) ≡ k = omega arith in i)
    ]
    | inr from ↦ put_inside two z y n long_z (omega arith) k from (omega arith) ∙ in_z (k - y) (omega arith)
        ∙ ap f (let i : y + (k - y) ≡ k = omega arith in i)
  ])

-- `new` replaces the n words from word `first` on, and has the bytes `part`, which begin at byte `at` if there are any
module _ (words new : List ℕ) (at first n m : ℕ) (part : List ℕ) (is_m : m ≡ n) (begins : (n ≡ 0) ⊎ (at ≡ 8 * first))
    (inside : first + n ≤ length words) (long : length new ≡ m) (part_long : length part ≡ 8 * n)
    (each : (j : ℕ) → j < length part → byte_in new j ≡ get_or part j 0) where
  abbrev put : List ℕ
  put = put_mid first m words new

  none_put : n ≡ 0 → (k : ℕ) → byte_in put k ≡ overwritten (byte_in words) at part k
  none_put none k =
      ap (byte_of (k % 8)) (put_outside words new first m long (omega arith) (k / 8) (elim (cases_lt (k / 8) first) [ inl l ↦ inl l | inr g ↦ inr (omega arith) ]))
      ∙ sym (elim (cases_lt k at) [
        | inl before ↦ overwritten_before (byte_in words) at part k before
        | inr from ↦ overwritten_behind (byte_in words) at part k (omega arith)
      ])

  some_put : at ≡ 8 * first → (k : ℕ) → byte_in put k ≡ overwritten (byte_in words) at part k
  some_put is k = elim (cases_lt k at) [
    | inl before ↦ ap (byte_of (k % 8)) (put_outside words new first m long (omega arith) (k / 8) (inl (omega arith)))
        ∙ sym (overwritten_before (byte_in words) at part k before)
    | inr from ↦ elim (cases_lt k (at + length part)) [
      | inl within ↦ (
          let word : k / 8 - first ≡ (k - at) / 8 = omega arith in
          let rest : k % 8 ≡ (k - at) % 8 = omega arith in
          ap (byte_of (k % 8)) (put_inside words new first m long (omega arith) (k / 8) (omega arith) (omega arith))
          ∙ ap (λ (i : ℕ). byte_of (k % 8) (get_or new i 0)) word ∙ ap (λ (i : ℕ). byte_of i (get_or new ((k - at) / 8) 0)) rest
          ∙ each (k - at) (omega arith) ∙ sym (overwritten_inside (byte_in words) at part k from within))
      | inr behind ↦ ap (byte_of (k % 8)) (put_outside words new first m long (omega arith) (k / 8) (inr (omega arith)))
          ∙ sym (overwritten_behind (byte_in words) at part k behind)
    ]
  ]

  pub words_put : (k : ℕ) → byte_in put k ≡ overwritten (byte_in words) at part k
  words_put k = elim begins [ inl none ↦ none_put none k | inr is ↦ some_put is k ]
