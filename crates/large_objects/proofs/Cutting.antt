-- Into how many parts an object is cut and how long each is, by the object's length; and how many of these lengths, with that of the spine, are in a class.
use Rattle.std.proofs.Common.{◌≡◌, ℕ, suc, ◌+◌, ◌-◌, ◌*◌, ◌/◌, ◌%◌, ◌<◌, ◌≤◌, List, [], ◌∷◌, ◌++◌, length, get_or, take, replicate, min}
use Rattle.std.proofs.Common.{arith, sym, ◌∙◌, ap, refl, inl, inr, length-append}
use Rattle.std.specs.Prelude.{count_by, sum_by, nat_eq}
use Rattle.std.proofs.lemmas.Bool.{cases_lt}
use Rattle.std.proofs.lemmas.Nat.{div-add-mod', mul-le}
use Rattle.std.proofs.Math.Nat.{mod-lt}
use Rattle.std.proofs.lemmas.Grind.{div_ceil_times}
use Rattle.std.proofs.lemmas.List.{length-replicate, get_or-replicate, get_or-append_right, get_or_append_left, take_more}
use Rattle.std.proofs.lemmas.List.Sums.{sum_by-append, sum_by-cons}
use Rattle.cf_base.proofs.Ranges.{one}
use Rattle.cf_base.proofs.Tests.{le_yes, le_no}
use Rattle.page_model.proofs.CallerLemmas.{between_multiples}
use Rattle.page_model.specs.Counts.{ceil_div}
use Rattle.page_model.specs.Paging.{Paging, class_for}
use Rattle.large_objects.specs.InnerObjects.{in_class, inner_lengths, part_length, part_count, spine_bytes}

-- a quotient rounded up is the quotient rounded down, and 1 more if there is a remainder
pub ceil_is : (n m : ℕ) → 0 < m → ceil_div n m ≡ n / m + min 1 (n % m)
ceil_is n m pos =
    let e : n / m * m + n % m ≡ n = div-add-mod' n m in
    let r : n % m < m = mod-lt n pos in
    elim (cases_lt 0 (n % m)) [
      | inl some ↦ (
          let c : min 1 (n % m) ≡ 1 = omega arith in
          let t : (n / m + 1) * m ≡ n / m * m + m = omega arith in
          rw c (between_multiples (n + (m - 1)) (n / m + 1) m pos (omega arith) (omega arith)))
      | inr none ↦ (
          let c : min 1 (n % m) ≡ 0 = omega arith in
          let t : (n / m + 0) * m ≡ n / m * m = omega arith in
          rw c (between_multiples (n + (m - 1)) (n / m + 0) m pos (omega arith) (omega arith)))
    ]

module _ (u n : ℕ) (some : 0 < u) where
  pub parts_are : part_count u n ≡ n / u + min 1 (n % u)
  unfolding part_count
  parts_are = ceil_is n u some

  -- the parts hold the object, and less than one part is unused
  pub parts_enough : n ≤ u * part_count u n
  parts_enough =
      let e = parts_are in let t = (div_ceil_times n u some).0 in
      let c : (n / u + min 1 (n % u)) * u ≡ u * (n / u + min 1 (n % u)) = omega arith in
      rw e (omega arith)

  pub parts_few : u * part_count u n < n + u
  parts_few =
      let e = parts_are in let t = (div_ceil_times n u some).1 in
      let c : (n / u + min 1 (n % u)) * u ≡ u * (n / u + min 1 (n % u)) = omega arith in
      rw e (omega arith)

  -- a part begins inside the object
  pub part_inside : (i : ℕ) → i < part_count u n → u * i < n
  part_inside i lt =
      let m : u * (i + 1) ≤ u * part_count u n = mul-le u (i + 1) u (part_count u n) (omega arith) (omega arith) in
      let t : u * (i + 1) ≡ u * i + u = omega arith in
      let f = parts_few in omega arith

  -- a part that isn't the last is whole
  pub whole_part : (i : ℕ) → i + 1 < part_count u n → part_length u n i ≡ u
  whole_part i lt =
      let inside = part_inside (i + 1) lt in
      let t : u * (i + 1) ≡ u * i + u = omega arith in
      omega arith

  -- the last part has the bytes after the whole parts
  pub last_part : (i : ℕ) → i + 1 ≡ part_count u n → part_length u n i ≡ n - u * (part_count u n - 1)
  last_part i is =
      let e = parts_enough in
      let t : u * (i + 1) ≡ u * i + u = omega arith in
      let s : u * part_count u n ≡ u * (i + 1) = ap (λ k. u * k) (sym is) in
      let b : part_count u n - 1 ≡ i = omega arith in
      rw b (omega arith)

  pub two_parts : u < n → 2 ≤ part_count u n
  two_parts long = elim (cases_lt (part_count u n) 2) [
    | inl few ↦ absurd (
        let m : u * part_count u n ≤ u * 1 = mul-le u (part_count u n) u 1 (omega arith) (omega arith) in
        let t : u * 1 ≡ u = omega arith in
        let e = parts_enough in omega arith)
    | inr enough ↦ enough
  ]

  pub inner_lengths_short : n ≤ u → inner_lengths u n ≡ n ∷ []
  unfolding inner_lengths
  inner_lengths_short le = rw (le_yes n u le) refl

  pub inner_lengths_long : u < n → inner_lengths u n ≡ spine_bytes u n ∷ (replicate (part_count u n - 1) u ++ ((n - u * (part_count u n - 1)) ∷ []))
  unfolding inner_lengths
  inner_lengths_long lt = rw (le_no n u lt) refl

  pub length_short : n ≤ u → length (inner_lengths u n) ≡ 1
  length_short le = rw (inner_lengths_short le) refl

  pub length_long : u < n → length (inner_lengths u n) ≡ 1 + part_count u n
  length_long lt =
      let a = length-append (replicate (part_count u n - 1) u) ((n - u * (part_count u n - 1)) ∷ []) in
      let b = length-replicate (part_count u n - 1) u in
      let c = two_parts lt in
      rw (inner_lengths_long lt) (omega arith)

  -- in `inner_lengths` the parts follow the spine, in order
  pub inner_length_is : u < n → (i : ℕ) → i < part_count u n → get_or (inner_lengths u n) (suc i) 0 ≡ part_length u n i
  inner_length_is lt i below =
      let l = length-replicate (part_count u n - 1) u in
      let two = two_parts lt in
      elim (cases_lt (i + 1) (part_count u n)) [
        | inl whole ↦ rw (inner_lengths_long lt) (
            get_or_append_left (replicate (part_count u n - 1) u) ((n - u * (part_count u n - 1)) ∷ []) 0 i (omega arith)
            ∙ get_or-replicate (part_count u n - 1) i u 0 (omega arith) ∙ sym (whole_part i whole))
        | inr last ↦ rw (inner_lengths_long lt) (
            let z : i - (part_count u n - 1) ≡ 0 = omega arith in
            get_or-append_right (replicate (part_count u n - 1) u) ((n - u * (part_count u n - 1)) ∷ []) (part_count u n - 1) i 0 l (omega arith)
            ∙ ap (λ k. get_or ((n - u * (part_count u n - 1)) ∷ []) k 0) z ∙ sym (last_part i (omega arith)))
      ]

-- how many of the first i + 1 lengths are in class c
pub in_class_more : (p : Paging) (c : ℕ) (xs : List ℕ) (i : ℕ) → i < length xs
    → in_class p c (take (i + 1) xs) ≡ in_class p c (take i xs) + one (nat_eq (class_for p (get_or xs i 0)) c)
unfolding in_class
in_class_more p c xs i lt =
    let f : ℕ → ℕ = λ n. one (nat_eq (class_for p n) c) in
    let e = ap (λ l. sum_by f l) (take_more xs i 0 lt) in
    let s = sum_by-append f (take i xs) (get_or xs i 0 ∷ []) in
    let z : sum_by f (get_or xs i 0 ∷ []) ≡ f (get_or xs i 0) + 0 = sum_by-cons f (get_or xs i 0) [] in
    e ∙ s ∙ (omega arith)

pub in_class_one : (p : Paging) (c n : ℕ) → in_class p c (n ∷ []) ≡ one (nat_eq (class_for p n) c)
unfolding in_class
in_class_one p c n = (let z : sum_by (λ n. one (nat_eq (class_for p n) c)) (n ∷ []) ≡ one (nat_eq (class_for p n) c) + 0 =
    sum_by-cons (λ n. one (nat_eq (class_for p n) c)) n [] in omega arith)

pub in_class_cons : (p : Paging) (c n : ℕ) (ns : List ℕ) → in_class p c (n ∷ ns) ≡ one (nat_eq (class_for p n) c) + in_class p c ns
unfolding in_class
in_class_cons p c n ns = sum_by-cons (λ n. one (nat_eq (class_for p n) c)) n ns

take_none : (xs : List ℕ) → take 0 xs ≡ []
take_none [] = refl
take_none (x ∷ xs) = refl

pub in_class_take_none : (p : Paging) (c : ℕ) (xs : List ℕ) → in_class p c (take 0 xs) ≡ 0
unfolding in_class
in_class_take_none p c xs = ap (λ ys. count_by (λ n. nat_eq (class_for p n) c) ys) (take_none xs)
