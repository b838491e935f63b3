-- For `pages_with`, which counts the pages that a new object would need in all: how many of its inner objects (itself, or its spine and parts) fit a slot
-- (`count_inner_objects_within`), and are in the classes that the loop has passed; and these classes' pages.
use Rattle.std.proofs.Common.{◌≡◌, ℕ, zero, suc, ◌+◌, ◌-◌, ◌*◌, ◌/◌, ◌<◌, ◌≤◌, Bool, false}
use Rattle.std.proofs.Common.{List, [], ◌∷◌, ◌++◌, get_or, replicate, arith, ◌∙◌, ap, refl, inl, inr}
use Rattle.std.specs.Prelude.{count_by, sum_by, nat_eq, nat_le, nat_lt}
use Rattle.std.proofs.lemmas.Bool.{cases_lt, cases_eq}
use Rattle.std.proofs.lemmas.Bool.Decides.{nat_tests}
use Rattle.std.proofs.lemmas.Nat.{mul-le}
use Rattle.std.proofs.Math.Nat.{div-mul-le_self}
use Rattle.std.specs.List.{range_with_len}
use Rattle.std.proofs.lemmas.List.Sums.{fails_before_first, sum_by-append, sum_by-cons}
use Rattle.std.proofs.lemmas.List.Folds.{sum_by-replicate}
use Rattle.cf_base.specs.Classes.{need}
use Rattle.cf_base.proofs.Ranges.{one}
use Rattle.cf_base.proofs.Tests.{eq_yes, eq_no, le_yes, le_no, lt_yes, lt_no}
use Rattle.page_model.specs.Arrangement.{live}
use Rattle.page_model.specs.Counts.{ceil_div}
use Rattle.page_model.specs.Held.{Objects}
use Rattle.page_model.specs.Paging.{IsPaging, Paging, class_for, classes, slot_words, slots_of}
use Rattle.page_model.proofs.CallerLemmas.{class_holds, sum_plus, sum_same}
use Rattle.large_objects.specs.InnerObjects.{in_class, inner_lengths, part_count, spine_bytes}
use Rattle.large_objects.proofs.Cutting.{inner_lengths_long, inner_lengths_short}

-- how many lengths are in classes before c
abbrev pub in_before : Paging → ℕ → List ℕ → ℕ
in_before p c lengths = count_by (λ n. nat_lt (class_for p n) c) lengths

one_more : (k c : ℕ) → one (nat_lt k (c + 1)) ≡ one (nat_lt k c) + one (nat_eq k c)
one_more k c = elim (cases_lt k c) [
  | inl less ↦ rw (lt_yes k (c + 1) (omega arith), lt_yes k c less, eq_no k c (omega arith)) refl
  | inr more ↦ elim (cases_eq k c) [
    | inl is ↦ rw (lt_yes k (c + 1) (omega arith), lt_no k c more, eq_yes k c is) refl
    | inr ne ↦ rw (lt_no k (c + 1) (omega arith), lt_no k c more, eq_no k c ne) refl
  ]
]

pub before_more : (p : Paging) (c : ℕ) (lengths : List ℕ) → in_before p (c + 1) lengths ≡ in_before p c lengths + in_class p c lengths
unfolding in_class
before_more p c lengths =
    sum_same (λ n. one (nat_lt (class_for p n) (c + 1))) (λ n. one (nat_lt (class_for p n) c) + one (nat_eq (class_for p n) c)) lengths
    (λ n. one_more (class_for p n) c)
    ∙ sum_plus (λ n. one (nat_lt (class_for p n) c)) (λ n. one (nat_eq (class_for p n) c)) lengths

pub none_before : (p : Paging) (lengths : List ℕ) → in_before p 0 lengths ≡ 0
none_before p [] = refl
none_before p (n ∷ ns) =
    let e = sum_by-cons (λ n. one (nat_lt (class_for p n) 0)) n ns in
    let z : one (nat_lt (class_for p n) 0) ≡ 0 = rw (lt_no (class_for p n) 0 (omega arith)) refl in
    let rest = none_before p ns in omega arith

-- no slot of a class before an object's own holds it
class_least : (p : Paging) (n c : ℕ) → c < class_for p n → slot_words p c < need n
unfolding class_for
class_least p n c lt = (let fails : nat_le (need n) (get_or p.sizes c 0) ≡ false =
    fails_before_first (λ s. nat_le (need n) s) p.sizes c 0 lt in grind (arith, nat_tests))

module _ (p : Paging) (ok : IsPaging p) (c : ℕ) (lt : c < classes p) where
  -- a length is in a class up to c if and only if it needs at most the words of a slot of c
  within_is : (n : ℕ) → nat_le (need n) (slot_words p c) ≡ nat_lt (class_for p n) (c + 1)
  within_is n = elim (cases_lt c (class_for p n)) [
    | inl over ↦ (
        let less = class_least p n c over in
        rw (le_no (need n) (slot_words p c) less, lt_no (class_for p n) (c + 1) (omega arith)) refl)
    | inr up ↦ (
        let holds = class_holds p ok n (omega arith) in
        let most : slot_words p (class_for p n) ≤ slot_words p c = rising (class_for p n) up in
        rw (le_yes (need n) (slot_words p c) (omega arith), lt_yes (class_for p n) (c + 1) (omega arith)) refl)
  ]
    where
      rising : (d : ℕ) → d ≤ c → slot_words p d ≤ slot_words p c
      rising d le = elim (cases_lt d c) [
        | inl less ↦ (let r = ok.sized.rising d c less lt in omega arith)
        | inr same ↦ (let e : d ≡ c = omega arith in let e' = ap (slot_words p) e in omega arith)
      ]

  pub within_before : (lengths : List ℕ) → count_by (λ n. nat_le (need n) (slot_words p c)) lengths ≡ in_before p (c + 1) lengths
  within_before lengths = sum_same (λ n. one (nat_le (need n) (slot_words p c))) (λ n. one (nat_lt (class_for p n) (c + 1))) lengths (λ n. ap one (within_is n))

-- the inner objects that pass a test: the spine, the whole parts, and the last part
pub count_long : (f : ℕ → Bool) (u n : ℕ) → 0 < u → u < n
    → count_by f (inner_lengths u n) ≡ one (f (spine_bytes u n)) + ((part_count u n - 1) * one (f u) + one (f (n - u * (part_count u n - 1))))
count_long f u n some long =
    let last : ℕ = n - u * (part_count u n - 1) in
    let e = ap (count_by f) (inner_lengths_long u n some long) in
    let a = sum_by-cons (λ n. one (f n)) (spine_bytes u n) (replicate (part_count u n - 1) u ++ ((n - u * (part_count u n - 1)) ∷ [])) in
    let b = sum_by-append (λ n. one (f n)) (replicate (part_count u n - 1) u) ((n - u * (part_count u n - 1)) ∷ []) in
    let c = sum_by-replicate (λ n. one (f n)) (part_count u n - 1) u in
    let d : sum_by (λ n. one (f n)) ((n - u * (part_count u n - 1)) ∷ []) ≡ one (f (n - u * (part_count u n - 1))) + 0 =
    sum_by-cons (λ n. one (f n)) (n - u * (part_count u n - 1)) [] in
    e ∙ (omega arith)

pub count_short : (f : ℕ → Bool) (u n : ℕ) → 0 < u → n ≤ u → count_by f (inner_lengths u n) ≡ one (f n)
count_short f u n some short =
    let e = ap (count_by f) (inner_lengths_short u n some short) in
    let d : sum_by (λ n. one (f n)) (n ∷ []) ≡ one (f n) + 0 = sum_by-cons (λ n. one (f n)) n [] in
    e ∙ (omega arith)

-- the number of inner objects that pass the test, as the code adds it up
pub short_at : (u n w : ℕ) (b : Bool) (r : ℕ) → 0 < u → n ≤ u → b ≡ nat_le (need n) w → r ≡ 1 * one b → r ≡ count_by (λ n. nat_le (need n) w) (inner_lengths u n)
short_at u n w b r some short is e =
    let c = count_short (λ n. nat_le (need n) w) u n some short in
    let y = ap one is in omega arith

pub long_at : (u n w q spine whole last : ℕ) (a b d : Bool) → 0 < u → u < n → q ≡ part_count u n
    → a ≡ nat_le (need (4 * q)) w → b ≡ nat_le (need u) w → d ≡ nat_le (need (n - u * (q - 1))) w
    → spine ≡ 1 * one a → whole ≡ (q - 1) * one b → last ≡ 1 * one d
    → spine + (whole + last) ≡ count_by (λ n. nat_le (need n) w) (inner_lengths u n)
long_at u n w q spine whole last a b d some long is ea eb ed es ew el =
    let c = count_long (λ n. nat_le (need n) w) u n some long in
    let ya : one a ≡ one (nat_le (need (spine_bytes u n)) w) = ap one ea ∙ ap (λ q. one (nat_le (need (4 * q)) w)) is in
    let yd : one d ≡ one (nat_le (need (n - u * (part_count u n - 1))) w) = ap one ed ∙ ap (λ q. one (nat_le (need (n - u * (q - 1))) w)) is in
    let yb : (q - 1) * one b ≡ (part_count u n - 1) * one (nat_le (need u) w) = ap (λ k. k * one b) (ap (λ q. q - 1) is) ∙ ap (λ t. (part_count u n - 1) * one t) eb in
    omega arith

-- the pages that the classes before c need, with the new inner objects
abbrev pub pages_up_to : Paging → Objects → List ℕ → ℕ → ℕ
pages_up_to p o lengths c = sum_by (λ d. ceil_div (live p o d + in_class p d lengths) (slots_of p d)) (range_with_len 0 c)

-- one class more
pub pages_more : (p : Paging) (o : Objects) (lengths : List ℕ) (c : ℕ)
    → pages_up_to p o lengths (c + 1) ≡ pages_up_to p o lengths c + ceil_div (live p o c + in_class p c lengths) (slots_of p c)
pages_more p o lengths c = (
    let e : c + 1 ≡ suc c = omega arith in
    let f : 0 + c ≡ c = omega arith in
    ap (pages_up_to p o lengths) e ∙ go 0 c ∙ ap (λ k. pages_up_to p o lengths c + ceil_div (live p o k + in_class p k lengths) (slots_of p k)) f)
  where
    go : (a n : ℕ) → sum_by (λ d. ceil_div (live p o d + in_class p d lengths) (slots_of p d)) (range_with_len a (suc n))
        ≡ sum_by (λ d. ceil_div (live p o d + in_class p d lengths) (slots_of p d)) (range_with_len a n)
        + ceil_div (live p o (a + n) + in_class p (a + n) lengths) (slots_of p (a + n))
    go a zero =
        let x : sum_by (λ d. ceil_div (live p o d + in_class p d lengths) (slots_of p d)) (range_with_len a (suc zero))
        ≡ ceil_div (live p o a + in_class p a lengths) (slots_of p a) + 0 =
        sum_by-cons (λ d. ceil_div (live p o d + in_class p d lengths) (slots_of p d)) a (range_with_len (a + 1) zero) in
        let e : a + 0 ≡ a = omega arith in
        let f = ap (λ k. ceil_div (live p o k + in_class p k lengths) (slots_of p k)) e in omega arith
    go a (suc n) =
        let x : sum_by (λ d. ceil_div (live p o d + in_class p d lengths) (slots_of p d)) (range_with_len a (suc (suc n)))
        ≡ ceil_div (live p o a + in_class p a lengths) (slots_of p a)
        + sum_by (λ d. ceil_div (live p o d + in_class p d lengths) (slots_of p d)) (range_with_len (a + 1) (suc n)) =
        sum_by-cons (λ d. ceil_div (live p o d + in_class p d lengths) (slots_of p d)) a (range_with_len (a + 1) (suc n)) in
        let y : sum_by (λ d. ceil_div (live p o d + in_class p d lengths) (slots_of p d)) (range_with_len a (suc n))
        ≡ ceil_div (live p o a + in_class p a lengths) (slots_of p a)
        + sum_by (λ d. ceil_div (live p o d + in_class p d lengths) (slots_of p d)) (range_with_len (a + 1) n) =
        sum_by-cons (λ d. ceil_div (live p o d + in_class p d lengths) (slots_of p d)) a (range_with_len (a + 1) n) in
        let rest = go (a + 1) n in
        let e : a + 1 + n ≡ a + suc n = omega arith in
        let f = ap (λ k. ceil_div (live p o k + in_class p k lengths) (slots_of p k)) e in omega arith

-- a number over a divisor, rounded up, is no larger
pub ceil_small : (a m : ℕ) → 0 < m → ceil_div a m ≤ a
ceil_small a m pos =
    let q = div-mul-le_self (a + (m - 1)) m in
    elim (cases_lt a ((a + (m - 1)) / m)) [
      | inl over ↦ absurd (
          let k : (a + 1) * m ≤ (a + (m - 1)) / m * m = mul-le (a + 1) m ((a + (m - 1)) / m) m (omega arith) (omega arith) in
          let j : 1 * a ≤ m * a = mul-le 1 a m a pos (omega arith) in
          let e : (a + 1) * m ≡ m * a + m = omega arith in omega arith)
      | inr up ↦ up
    ]
