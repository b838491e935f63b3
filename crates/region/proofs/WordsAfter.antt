-- Each word of a region after a call of `Region`, each word that a borrow leaves (`fit`), and that the number of words stays.
use Rattle.std.proofs.Common.{◌≡◌, ℕ, ◌+◌, ◌-◌, ◌%◌, ◌^◌, ◌<◌, ◌≤◌, ◌⊎◌, inl, inr, List, ◌++◌, length, take, drop, map, replicate, slice_index, arith, ap, lit<}
use Rattle.std.proofs.Common.{◌∙◌}
use Rattle.std.proofs.lemmas.List.{length-append, length-take, length-take-le, length-drop, length-replicate, get_or_append_left, get_or-append_right}
use Rattle.std.proofs.lemmas.List.{get_or-take, get_or-drop, get_or-map, get_or-replicate, get_or_past, length-map}
use Rattle.std.proofs.lemmas.Bool.{cases_lt}
use Rattle.std.proofs.Math.Nat.{mod-lt}
use Rattle.region.specs.Words.{cleared, copied, moved}
use Rattle.region.specs.Lending.{fit, with_words}
use Rattle.region.proofs.Lists.{length-fit, length-part}

-- xs replaces the n words from i on
module _ (words xs : List ℕ) (i n : ℕ) (long : length xs ≡ n) (within : i + n ≤ length words) where
  abbrev placed : List ℕ
  placed = take i words ++ (xs ++ drop (i + n) words)

  front : length (take i words) ≡ i
  front = length-take-le i words (omega arith)

  length-placed : length placed ≡ length words
  length-placed = simp (length-append, length-take, length-drop) (omega arith)

  placed_within : (k : ℕ) → k < n → slice_index placed (i + k) ≡ slice_index xs k
  placed_within k lt =
      get_or-append_right (take i words) (xs ++ drop (i + n) words) i (i + k) 0 front (omega arith)
      ∙ ap (λ (j : ℕ). slice_index (xs ++ drop (i + n) words) j) (let e : i + k - i ≡ k = omega arith in e)
      ∙ get_or_append_left xs (drop (i + n) words) 0 k (omega arith)

  placed_others : (w : ℕ) → (w < i) ⊎ (i + n ≤ w) → slice_index placed w ≡ slice_index words w
  placed_others w (inl lt) = get_or_append_left (take i words) (xs ++ drop (i + n) words) 0 w (omega (arith, front)) ∙ get_or-take i words w 0 lt
  placed_others w (inr le) =
      get_or-append_right (take i words) (xs ++ drop (i + n) words) i w 0 front (omega arith)
      ∙ get_or-append_right xs (drop (i + n) words) n (w - i) 0 long (omega arith)
      ∙ get_or-drop (i + n) words (w - i - n) 0
      ∙ ap (λ (j : ℕ). slice_index words j) (let e : i + n + (w - i - n) ≡ w = omega arith in e)

-- the n words from i on are cleared
module _ (words : List ℕ) (i n : ℕ) (within : i + n ≤ length words) where
  pub length-cleared : length (cleared words i n) ≡ length words
  length-cleared = length-placed words (replicate n 0) i n (length-replicate n 0) within

  pub cleared_within : (k : ℕ) → k < n → slice_index (cleared words i n) (i + k) ≡ 0
  cleared_within k lt = placed_within words (replicate n 0) i n (length-replicate n 0) within k lt ∙ get_or-replicate n k 0 0 lt

  pub cleared_others : (w : ℕ) → (w < i) ⊎ (i + n ≤ w) → slice_index (cleared words i n) w ≡ slice_index words w
  cleared_others = placed_others words (replicate n 0) i n (length-replicate n 0) within

-- the n words from `from` on are moved to word `to`
module _ (words : List ℕ) (from to n : ℕ) (source : from + n ≤ length words) (target : to + n ≤ length words) where
  abbrev sent : List ℕ
  sent = take n (drop from words)

  length-sent : length sent ≡ n
  length-sent = length-part words from n source

  length-copied : length (copied words from to n) ≡ length words
  length-copied = length-placed words sent to n length-sent target

  still : from + n ≤ length (copied words from to n)
  still = omega (arith, length-copied)

  pub moved_left : (k : ℕ) → k < n → slice_index (moved words from to n) (from + k) ≡ 0
  moved_left = cleared_within (copied words from to n) from n still

  pub moved_others : (w : ℕ) → (w < from) ⊎ (from + n ≤ w) → (w < to) ⊎ (to + n ≤ w) → slice_index (moved words from to n) w ≡ slice_index words w
  moved_others w far apart = cleared_others (copied words from to n) from n still w far ∙ placed_others words sent to n length-sent target w apart

  pub moved_arrived : (from + n ≤ to) ⊎ (to + n ≤ from) → (k : ℕ) → k < n → slice_index (moved words from to n) (to + k) ≡ slice_index words (from + k)
  moved_arrived apart k lt =
      let far : (to + k < from) ⊎ (from + n ≤ to + k) = elim apart [ inl l ↦ inr (omega arith) | inr l ↦ inl (omega arith) ] in
      cleared_others (copied words from to n) from n still (to + k) far
      ∙ placed_within words sent to n length-sent target k lt ∙ get_or-take n (drop from words) k 0 lt ∙ get_or-drop from words k 0

-- the n words from i on are borrowed, and ws replaces them
module _ (words : List ℕ) (i n : ℕ) (within : i + n ≤ length words) (ws : List ℕ) where
  pub length-with_words : length (with_words words i n ws) ≡ length words
  length-with_words = length-placed words (fit n ws) i n (length-fit n ws) within

  pub with_words_within : (k : ℕ) → k < n → slice_index (with_words words i n ws) (i + k) ≡ slice_index (fit n ws) k
  with_words_within = placed_within words (fit n ws) i n (length-fit n ws) within

  pub with_words_others : (w : ℕ) → (w < i) ⊎ (i + n ≤ w) → slice_index (with_words words i n ws) w ≡ slice_index words w
  with_words_others = placed_others words (fit n ws) i n (length-fit n ws) within

-- word k of `fit n ws` is number k of ws modulo 2^64
pub fit_within : (n : ℕ) (ws : List ℕ) (k : ℕ) → k < n → k < length ws → slice_index (fit n ws) k ≡ slice_index ws k % 2 ^ 64
unfolding fit
fit_within n ws k lt here =
    let ms = map (λ w. w % 2 ^ 64) ws in
    let long : length ms ≡ length ws = simp length-map in
    get_or-take n (ms ++ replicate n 0) k 0 lt ∙ get_or_append_left ms (replicate n 0) 0 k (omega arith) ∙ get_or-map (λ (w : ℕ). w % 2 ^ 64) ws k 0 0 here

-- each word of `fit n ws` fits 64 bits
pub fit_below : (n : ℕ) (ws : List ℕ) (k : ℕ) → slice_index (fit n ws) k < 2 ^ 64
unfolding fit
fit_below n ws k =
    let ms = map (λ w. w % 2 ^ 64) ws in
    let long : length ms ≡ length ws = simp length-map in
    elim (cases_lt k n) [
      | inl lt ↦ elim (cases_lt k (length ws)) [
        | inl here ↦ (
            let e = fit_within n ws k lt here in
            let small : slice_index ws k % 2 ^ 64 < 2 ^ 64 = mod-lt (slice_index ws k) (lit< tt) in
            omega arith)
        | inr past ↦ (
            let e : slice_index (fit n ws) k ≡ 0 =
            get_or-take n (ms ++ replicate n 0) k 0 lt ∙ get_or-append_right ms (replicate n 0) (length ws) k 0 long past
            ∙ get_or-replicate n (k - length ws) 0 0 (omega arith) in
            omega arith)
      ]
      | inr past ↦ (
          let whole : length (fit n ws) ≡ n = length-fit n ws in
          let e : slice_index (fit n ws) k ≡ 0 = get_or_past (fit n ws) k 0 (omega arith) in
          omega arith)
    ]
