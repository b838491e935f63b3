-- Ranges of lists of bytes: the handles in a spine, the parts of an object, and which of them a write changes; all parts, one after the other, are the
-- object.
use Rattle.std.proofs.Common.{◌≡◌, ◌≢◌, ℕ, zero, suc, ◌+◌, ◌-◌, ◌*◌, ◌^◌, ◌<◌, ◌≤◌, List, ◌++◌}
use Rattle.std.proofs.Common.{length, get_or, take, drop, replicate, min, arith, sym, ◌∙◌, ap, refl, inl, inr}
use Rattle.std.proofs.Common.{length-drop}
use Rattle.std.specs.Prelude.{◌⊎◌}
use Rattle.std.specs.Int.{from_le_bytes, to_le_bytes, w32}
use Rattle.std.specs.List.{flat_map, range_with_len}
use Rattle.std.proofs.Math.Seq.{take-add}
use Rattle.std.proofs.lemmas.Bool.{cases_lt}
use Rattle.std.proofs.lemmas.Grind.{same_number_lists}
use Rattle.std.proofs.lemmas.List.{length-take, length-replicate, get_or-take, get_or-drop, get_or-replicate, get_or_past, take_all}
use Rattle.std.proofs.lemmas.List.Concat.{flat_map-cons}
use Rattle.std.proofs.lemmas.Nat.{from_le_bytes-to_le_bytes_4, mul-le}
use Rattle.page_model.specs.Bytes.{written}
use Rattle.page_model.proofs.CallerLemmas.{length-written, written_before, written_behind, written_inside}
use Rattle.large_objects.specs.Large.{handle_at, part_bytes_at}
use Rattle.large_objects.specs.InnerObjects.{part_length}

-- the values of a range of a list
module _ (m k : ℕ) (v : List ℕ) where
  pub range_at : (i : ℕ) → i < m → get_or (take m (drop k v)) i 0 ≡ get_or v (k + i) 0
  range_at i lt = get_or-take m (drop k v) i 0 lt ∙ get_or-drop k v i 0

  pub range_length : length (take m (drop k v)) ≡ min m (length v - k)
  range_length = length-take m (drop k v) ∙ ap (min m) (length-drop k v)

  range_below : (i : ℕ) → i < length (take m (drop k v)) → (i < m) × (k + i < length v)
  range_below i lt = (let e = range_length in (omega arith, omega arith))

module _ (v : List ℕ) (at : ℕ) (bs : List ℕ) (fits : at + length bs ≤ length v) where
  -- a range before or after the written bytes doesn't change
  pub range_other : (m k : ℕ) → (k + m ≤ at) ⊎ (at + length bs ≤ k) → take m (drop k (written v at bs)) ≡ take m (drop k v)
  range_other m k apart =
      let l = length-written v at bs fits in
      let a = range_length m k (written v at bs) in let b = range_length m k v in
      same_number_lists (take m (drop k (written v at bs))) (take m (drop k v)) (omega arith) (λ i lt.
      let in_both = range_below m k (written v at bs) i lt in
      range_at m k (written v at bs) i in_both.0 ∙ elim apart [
        | inl before ↦ written_before v at bs fits (k + i) (let h = in_both.0 in omega arith)
        | inr behind ↦ written_behind v at bs fits (k + i) (omega arith)
      ] ∙ sym (range_at m k v i in_both.0))

  pub range_same : take (length bs) (drop at (written v at bs)) ≡ bs
  range_same =
      let l = length-written v at bs fits in
      let a = range_length (length bs) at (written v at bs) in
      same_number_lists (take (length bs) (drop at (written v at bs))) bs (omega arith) (λ i lt.
      let in_both = range_below (length bs) at (written v at bs) i lt in
      range_at (length bs) at (written v at bs) i in_both.0 ∙ written_inside v at bs fits i in_both.0)

  -- a range that contains all written bytes
  pub range_around : (m k off : ℕ) → at ≡ k + off → off + length bs ≤ m → take m (drop k (written v at bs)) ≡ written (take m (drop k v)) off bs
  range_around m k off is inside =
      let l = length-written v at bs fits in
      let a = range_length m k (written v at bs) in let b = range_length m k v in
      let fits' : off + length bs ≤ length (take m (drop k v)) = omega arith in
      let l' = length-written (take m (drop k v)) off bs fits' in
      same_number_lists (take m (drop k (written v at bs))) (written (take m (drop k v)) off bs) (omega arith) (λ i lt.
      let in_both = range_below m k (written v at bs) i lt in
      range_at m k (written v at bs) i in_both.0 ∙ elim (cases_lt i off) [
        | inl before ↦ written_before v at bs fits (k + i) (omega arith) ∙ sym (range_at m k v i in_both.0)
            ∙ sym (written_before (take m (drop k v)) off bs fits' i before)
        | inr after ↦ elim (cases_lt i (off + length bs)) [
          | inl within ↦ (
              let e : k + i ≡ at + (i - off) = omega arith in
              let e' : off + (i - off) ≡ i = omega arith in
              ap (λ x. get_or (written v at bs) x 0) e ∙ written_inside v at bs fits (i - off) (omega arith)
              ∙ sym (written_inside (take m (drop k v)) off bs fits' (i - off) (omega arith)) ∙ ap (λ x. get_or (written (take m (drop k v)) off bs) x 0) e')
          | inr behind ↦ written_behind v at bs fits (k + i) (omega arith) ∙ sym (range_at m k v i in_both.0)
              ∙ sym (written_behind (take m (drop k v)) off bs fits' i behind)
        ]
      ])

-- the handles of a spine after one is written
module _ (spine : List ℕ) (i q : ℕ) (long : 4 * i + 4 ≤ length spine) where
  pub handle_written : q < 2 ^ 32 → handle_at (written spine (4 * i) (to_le_bytes w32 q)) i ≡ q
  unfolding handle_at
  handle_written small = ap (from_le_bytes w32) (range_same spine (4 * i) (to_le_bytes w32 q) long) ∙ from_le_bytes-to_le_bytes_4 q small

  pub handle_other : (j : ℕ) → j ≢ i → handle_at (written spine (4 * i) (to_le_bytes w32 q)) j ≡ handle_at spine j
  unfolding handle_at
  handle_other j ne = ap (from_le_bytes w32) (range_other spine (4 * i) (to_le_bytes w32 q) long 4 (4 * j) (elim (cases_lt j i) [
    | inl before ↦ inl (omega arith)
    | inr after ↦ inr (omega arith)
  ]))

-- the parts of an object after a write into one of them
module _ (u : ℕ) (v : List ℕ) (i off : ℕ) (bs : List ℕ) (fits : u * i + off + length bs ≤ length v) (inside : off + length bs ≤ u) where
  pub part_written : part_bytes_at u (written v (u * i + off) bs) i ≡ written (part_bytes_at u v i) off bs
  part_written = range_around v (u * i + off) bs fits u (u * i) off refl inside

  pub part_other : (j : ℕ) → j ≢ i → part_bytes_at u (written v (u * i + off) bs) j ≡ part_bytes_at u v j
  part_other j ne = range_other v (u * i + off) bs fits u (u * j) (elim (cases_lt j i) [
    | inl before ↦ inl (
        let m : u * (j + 1) ≤ u * i = mul-le u (j + 1) u i (omega arith) (omega arith) in
        let t : u * (j + 1) ≡ u * j + u = omega arith in omega arith)
    | inr after ↦ inr (
        let m : u * (i + 1) ≤ u * j = mul-le u (i + 1) u j (omega arith) (omega arith) in
        let t : u * (i + 1) ≡ u * i + u = omega arith in omega arith)
  ])

pub part_of_length : (u : ℕ) (v : List ℕ) (i : ℕ) → length (part_bytes_at u v i) ≡ part_length u (length v) i
part_of_length u v i = range_length u (u * i) v

zero_anywhere : (n i : ℕ) (v : List ℕ) → v ≡ replicate n 0 → get_or v i 0 ≡ 0
zero_anywhere n i v is = elim (cases_lt i n) [
  | inl lt ↦ ap (λ (w : List ℕ). get_or w i 0) is ∙ get_or-replicate {A = ℕ} n i 0 0 lt
  | inr past ↦ get_or_past v i 0 (let l = length-replicate {A = ℕ} n 0 in let e = ap (λ (w : List ℕ). length w) is in omega arith)
]

-- a part of zeros is zeros
pub part_of_zeros : (u n i : ℕ) → part_bytes_at u (replicate n 0) i ≡ replicate (part_length u n i) 0
part_of_zeros u n i =
    let l = length-replicate {A = ℕ} n 0 in
    let a = range_length u (u * i) (replicate n 0) in
    let b = length-replicate {A = ℕ} (part_length u n i) 0 in
    same_number_lists (part_bytes_at u (replicate n 0) i) (replicate (part_length u n i) 0) (omega arith) (λ k lt.
    let in_both = range_below u (u * i) (replicate n 0) k lt in
    range_at u (u * i) (replicate n 0) k in_both.0 ∙ zero_anywhere n (u * i + k) (replicate n 0) refl
    ∙ sym (zero_anywhere (part_length u n i) k (replicate (part_length u n i) 0) refl))

-- a range of a part is a range of the object
pub range_of_part : (u : ℕ) (v : List ℕ) (i off count : ℕ) → off + count ≤ u → take count (drop off (part_bytes_at u v i)) ≡ take count (drop (u * i + off) v)
range_of_part u v i off count inside =
    let a = range_length count off (part_bytes_at u v i) in
    let b = range_length u (u * i) v in
    let c = range_length count (u * i + off) v in
    same_number_lists (take count (drop off (part_bytes_at u v i))) (take count (drop (u * i + off) v)) (omega arith) (λ k lt.
    let below = range_below count off (part_bytes_at u v i) k lt in
    let less = below.0 in
    range_at count off (part_bytes_at u v i) k less ∙ range_at u (u * i) v (off + k) (omega arith)
    ∙ ap (λ x. get_or v x 0) (let e : u * i + (off + k) ≡ u * i + off + k = omega arith in e)
    ∙ sym (range_at count (u * i + off) v k less))

-- the bytes written up to some place, and the next ones
pub written_more : (v : List ℕ) (at : ℕ) (bs : List ℕ) (d c : ℕ) → at + length bs ≤ length v → d + c ≤ length bs
    → written (written v at (take d bs)) (at + d) (take c (drop d bs)) ≡ written v at (take (d + c) bs)
written_more v at bs d c fits some =
    let ld : length (take d bs) ≡ min d (length bs) = length-take d bs in
    let lc = range_length c d bs in
    let lb : length (take (d + c) bs) ≡ min (d + c) (length bs) = length-take (d + c) bs in
    let fits_d : at + length (take d bs) ≤ length v = omega arith in
    let l1 = length-written v at (take d bs) fits_d in
    let fits_c : at + d + length (take c (drop d bs)) ≤ length (written v at (take d bs)) = omega arith in
    let l2 = length-written (written v at (take d bs)) (at + d) (take c (drop d bs)) fits_c in
    let fits_b : at + length (take (d + c) bs) ≤ length v = omega arith in
    let l3 = length-written v at (take (d + c) bs) fits_b in
    same_number_lists (written (written v at (take d bs)) (at + d) (take c (drop d bs))) (written v at (take (d + c) bs)) (omega arith) (λ k lt.
    elim (cases_lt k (at + d)) [
      | inl low ↦ written_before (written v at (take d bs)) (at + d) (take c (drop d bs)) fits_c k low ∙ elim (cases_lt k at) [
        | inl before ↦ written_before v at (take d bs) fits_d k before ∙ sym (written_before v at (take (d + c) bs) fits_b k before)
        | inr after ↦ (
            let e : k ≡ at + (k - at) = omega arith in
            ap (λ x. get_or (written v at (take d bs)) x 0) e ∙ written_inside v at (take d bs) fits_d (k - at) (omega arith)
            ∙ get_or-take d bs (k - at) 0 (omega arith) ∙ sym (get_or-take (d + c) bs (k - at) 0 (omega arith))
            ∙ sym (written_inside v at (take (d + c) bs) fits_b (k - at) (omega arith)) ∙ sym (ap (λ x. get_or (written v at (take (d + c) bs)) x 0) e))
      ]
      | inr high ↦ elim (cases_lt k (at + d + c)) [
        | inl within ↦ (
            let e : k ≡ at + d + (k - (at + d)) = omega arith in
            let e' : k ≡ at + (k - at) = omega arith in
            let i : d + (k - (at + d)) ≡ k - at = omega arith in
            ap (λ x. get_or (written (written v at (take d bs)) (at + d) (take c (drop d bs))) x 0) e
            ∙ written_inside (written v at (take d bs)) (at + d) (take c (drop d bs)) fits_c (k - (at + d)) (omega arith)
            ∙ range_at c d bs (k - (at + d)) (omega arith) ∙ ap (λ x. get_or bs x 0) i ∙ sym (get_or-take (d + c) bs (k - at) 0 (omega arith))
            ∙ sym (written_inside v at (take (d + c) bs) fits_b (k - at) (omega arith)) ∙ sym (ap (λ x. get_or (written v at (take (d + c) bs)) x 0) e'))
        | inr past ↦ written_behind (written v at (take d bs)) (at + d) (take c (drop d bs)) fits_c k (omega arith)
            ∙ written_behind v at (take d bs) fits_d k (omega arith) ∙ sym (written_behind v at (take (d + c) bs) fits_b k (omega arith))
      ]
    ])

-- a range is its first d bytes and then the c bytes after them
pub take_drop_more : (v : List ℕ) (at d c : ℕ) → take (d + c) (drop at v) ≡ take d (drop at v) ++ take c (drop (at + d) v)
take_drop_more v at d c = take-add d c (drop at v) ∙ ap (λ w. take d (drop at v) ++ take c w) (drop_twice v at d)
  where
    drop_twice : (v : List ℕ) (a b : ℕ) → drop b (drop a v) ≡ drop (a + b) v
    drop_twice v a b =
        let x = length-drop b (drop a v) in let y = length-drop a v in let z = length-drop (a + b) v in
        same_number_lists (drop b (drop a v)) (drop (a + b) v) (omega arith) (λ k lt.
        get_or-drop b (drop a v) k 0 ∙ get_or-drop a v (b + k) 0 ∙ ap (λ x. get_or v x 0) (let e : a + (b + k) ≡ a + b + k = omega arith in e)
        ∙ sym (get_or-drop (a + b) v k 0))

-- the n parts from part k on, one after the other, are the bytes of the object from part k on
pub parts_joined : (u : ℕ) (v : List ℕ) (f : ℕ → List ℕ) (k n : ℕ) → ((i : ℕ) → k ≤ i → i < k + n → f i ≡ part_bytes_at u v i)
    → flat_map f (range_with_len k n) ≡ take (u * n) (drop (u * k) v)
parts_joined u v f k zero same = (let z : u * 0 ≡ 0 = omega arith in rw z refl)
parts_joined u v f k (suc n) same =
    let first = same k (omega arith) (omega arith) in
    let rest = parts_joined u v f (k + 1) n (λ i l h. same i (omega arith) (omega arith)) in
    let t : u * suc n ≡ u + u * n = omega arith in
    let s : u * (k + 1) ≡ u * k + u = omega arith in
    flat_map-cons f k (range_with_len (k + 1) n) ∙ ap (λ w. w ++ flat_map f (range_with_len (k + 1) n)) first
    ∙ ap (λ w. part_bytes_at u v k ++ w) (rest ∙ ap (λ x. take (u * n) (drop x v)) s) ∙ sym (ap (λ x. take x (drop (u * k) v)) t
    ∙ take_drop_more v (u * k) u (u * n))

-- all parts are the object
pub parts_whole : (u : ℕ) (v : List ℕ) (f : ℕ → List ℕ) (n : ℕ) → length v ≤ u * n → ((i : ℕ) → i < n → f i ≡ part_bytes_at u v i)
    → flat_map f (range_with_len 0 n) ≡ v
parts_whole u v f n enough same =
    let z : u * 0 ≡ 0 = omega arith in
    parts_joined u v f 0 n (λ i l h. same i (omega arith)) ∙ ap (λ x. take (u * n) (drop x v)) z ∙ take_all (u * n) v enough
