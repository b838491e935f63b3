-- The steps of calls on long objects over a moving manager, from the numbers of parts, of words, and of inner objects that share their pages: at most two of a
-- long object do.
use Rattle.std.proofs.Common.{◌≡◌, ℕ, Bool, true, false, zero, suc, ◌+◌, ◌-◌, ◌*◌, ◌/◌, ◌%◌, ◌<◌, ◌≤◌, min, arith, ◌∙◌, ap, refl, inl, inr}
use Rattle.std.specs.Prelude.{if◌then◌else◌, nat_eq, sum_by}
use Rattle.std.specs.List.{range_with_len}
use Rattle.std.proofs.Math.Nat.{div-add-mod, div_self, mod-lt}
use Rattle.std.proofs.lemmas.Bool.{cases_lt}
use Rattle.std.proofs.lemmas.List.Sums.{sum_by-cons}
use Rattle.std.proofs.lemmas.Nat.{le-div}
use Rattle.cf_base.proofs.Tests.{eq_no}
use Rattle.page_model.specs.Image.{slot_for}
use Rattle.page_model.specs.Paging.{Paging, class_for, slot_words}
use Rattle.page_model.proofs.CallerLemmas.{between_multiples, class_fits, class_holds, slot_fits}
use Rattle.cf_model.specs.Costs.{words_touched}
use Rattle.cf_model.specs.State.{paging_in}
use Rattle.large_objects.specs.Large.{KeepsParts, LargeState}
use Rattle.large_objects.specs.LargeCosts.{handle_steps, inner_free_steps, inner_malloc_steps, moving_costs, object_free_steps, object_malloc_steps, parts_access_steps}
use Rattle.large_objects.specs.LargeCosts.{parts_touched, shares_page, sharing, slots_taken, slots_with}
use Rattle.large_objects.specs.LargeSteps.{part_bytes_in}
use Rattle.large_objects.specs.InnerObjects.{part_count, part_length, spine_bytes}
use Rattle.large_objects.proofs.AccessLemmas.{is_ready}
use Rattle.large_objects.proofs.CostLemmas.{access_next, free_long, malloc_long}
use Rattle.large_objects.proofs.Cutting.{whole_part}
use Rattle.large_objects.proofs.InnerSteps.{keeps_pages}
use Rattle.large_objects.proofs.Opening.{some_words}

-- a handle is in one word
handle_is : (i : ℕ) → handle_steps moving_costs i ≡ 3
handle_is i = (let e : (4 * i % 8 + 4 + 7) / 8 ≡ 1 = omega arith in omega arith)

-- the sum of k, m times another term, and a third one
sum_of_three : (f g h : ℕ → ℕ) (k m a n : ℕ) → ((i : ℕ) → f i ≡ k + m * g i + h i)
    → sum_by f (range_with_len a n) ≡ k * n + m * sum_by g (range_with_len a n) + sum_by h (range_with_len a n)
sum_of_three f g h k m a zero each = omega arith
sum_of_three f g h k m a (suc n) each =
    let x = sum_by-cons f a (range_with_len (a + 1) n) in
    let y = ap (λ s. m * s) (sum_by-cons g a (range_with_len (a + 1) n)) in
    let z = sum_by-cons h a (range_with_len (a + 1) n) in
    let e = each a in
    let rest = sum_of_three f g h k m (a + 1) n each in
    let t : k * suc n ≡ k * n + k = omega arith in
    let d : m * (g a + sum_by g (range_with_len (a + 1) n)) ≡ m * g a + m * sum_by g (range_with_len (a + 1) n) = omega arith in
    omega arith

sum_none : (a n : ℕ) → sum_by (λ i. 0) (range_with_len a n) ≡ 0
sum_none a zero = refl
sum_none a (suc n) = (let x = sum_by-cons (λ i. 0) a (range_with_len (a + 1) n) in let rest = sum_none (a + 1) n in omega arith)

-- a malloc and a free of an inner object
either : (b : Bool) (x m : ℕ) → (if b then x else (x + m)) ≡ x + m * (if b then 0 else 1)
either true x m = omega arith
either false x m = omega arith

one_malloc : (p : Paging) (n : ℕ) → inner_malloc_steps moving_costs p n ≡ 15 + 2 * shares_page p n
one_malloc p n = either (nat_eq (slots_with p n) 1) 15 2

one_free : (p : Paging) (n : ℕ) → inner_free_steps moving_costs p n ≡ 16 + 4 * shares_page p n + slot_for p n
one_free p n = ap (λ k. k + slot_for p n) (either (nat_eq (slots_with p n) 1) 16 4)

module _ (p : Paging) (u n : ℕ) (long : u < n) where
  pub malloc_is : object_malloc_steps moving_costs p u n ≡ 15 + 18 * part_count u n + 2 * sharing p u n
  malloc_is =
      let whole = malloc_long moving_costs p u n long in
      let sum = sum_of_three (λ i. inner_malloc_steps moving_costs p (part_length u n i) + handle_steps moving_costs i) (λ i. shares_page p (part_length u n i))
      (λ i. 0) 18 2 0 (part_count u n) (λ i. (let m = one_malloc p (part_length u n i) in let h = handle_is i in omega arith)) in
      let none = sum_none 0 (part_count u n) in
      let spine = one_malloc p (spine_bytes u n) in
      omega arith

  pub free_is : object_free_steps moving_costs p u n ≡ 16 + 19 * part_count u n + 4 * sharing p u n + slots_taken p u n
  free_is =
      let whole = free_long moving_costs p u n long in
      let sum = sum_of_three (λ i. handle_steps moving_costs i + inner_free_steps moving_costs p (part_length u n i)) (λ i. shares_page p (part_length u n i))
      (λ i. slot_for p (part_length u n i)) 19 4 0 (part_count u n) (λ i. (let m = one_free p (part_length u n i) in let h = handle_is i in omega arith)) in
      let spine = one_free p (spine_bytes u n) in
      omega arith

-- a sum in which each term is at most 1, and each but the last is 0
sum_last : (f : ℕ → ℕ) (a n : ℕ) → ((i : ℕ) → f i ≤ 1) → ((i : ℕ) → i + 1 < a + n → f i ≡ 0) → sum_by f (range_with_len a n) ≤ 1
sum_last f a zero few none = omega arith
sum_last f a (suc zero) few none = (let x = sum_by-cons f a (range_with_len (a + 1) 0) in let one = few a in omega arith)
sum_last f a (suc (suc n)) few none =
    let x = sum_by-cons f a (range_with_len (a + 1) (suc n)) in
    let first = none a (omega arith) in
    let rest = sum_last f (a + 1) (suc n) few (λ i lt. none i (omega arith)) in
    omega arith

-- a whole part has a page of its own, so at most the last part and the spine share theirs
module _ (s : LargeState) (keeps : KeepsParts s) where
  own_page : shares_page (paging_in s.inner) (part_bytes_in s) ≡ 0
  own_page =
      let p : Paging = paging_in s.inner in
      let ok = (keeps_pages s.inner (is_ready s keeps)).paging in
      let some = some_words p.page_words keeps.rules.settings.page_size in
      let below = class_fits p ok (part_bytes_in s) (omega arith) in
      let holds = class_holds p ok (part_bytes_in s) below in
      let fits = slot_fits p ok (class_for p (part_bytes_in s)) below in
      let same : slot_words p (class_for p (part_bytes_in s)) ≡ p.page_words = omega arith in
      let one : slots_with p (part_bytes_in s) ≡ 1 = ap (λ k. p.page_words / k) same ∙ div_self {n = p.page_words} (omega arith) in
      ap (λ k. if nat_eq k 1 then 0 else 1) one

  pub few_share : (n : ℕ) → part_bytes_in s < n → sharing (paging_in s.inner) (part_bytes_in s) n ≤ 2
  few_share n long =
      let p : Paging = paging_in s.inner in
      let u : ℕ = part_bytes_in s in
      let some = some_words p.page_words keeps.rules.settings.page_size in
      let parts = sum_last (λ i. shares_page p (part_length u n i)) 0 (part_count u n) (λ i. at_most_one (nat_eq (slots_with p (part_length u n i)) 1))
      (λ i lt. (let below : i + 1 < part_count u n = omega arith in ap (shares_page p) (whole_part u n (omega arith) i below) ∙ own_page)) in
      let spine = at_most_one (nat_eq (slots_with p (spine_bytes u n)) 1) in
      omega arith
    where
      at_most_one : (b : Bool) → (if b then 0 else 1) ≤ 1
      at_most_one true = omega arith
      at_most_one false = omega arith

-- the words of a range, and of its two halves if the first ends where a word ends
words_are : (a n : ℕ) → 0 < n → words_touched a n ≡ (a % 8 + n + 7) / 8
words_are a n some = (let e : nat_eq n 0 ≡ false = eq_no n 0 (λ z. absurd (omega arith)) in rw e refl)

words_split : (a b count left : ℕ) → a % 8 ≡ b % 8 → 0 < count → count < left → (a + count) % 8 ≡ 0
    → words_touched a left ≡ words_touched b count + words_touched (a + count) (left - count)
words_split a b count left same some few ends =
    let x = words_are a left (omega arith) in
    let y = words_are b count some in
    let z = words_are (a + count) (left - count) (omega arith) in
    let s : (a % 8 + left + 7) / 8 ≡ (b % 8 + count + 7) / 8 + ((a + count) % 8 + (left - count) + 7) / 8 = omega arith in
    omega arith

-- a range, and what is left of it after its bytes in the first part
module _ (m u from left count : ℕ) (some : 0 < m) (words : u ≡ 8 * m) (more : 0 < left) (few : count ≡ min left (u - from % u)) where
  positive : 0 < u
  positive = omega arith

  place : u * (from / u) + from % u ≡ from
  place = div-add-mod from u

  inside : from % u < u
  inside = mod-lt from positive

  in_words : u * (from / u) ≡ 8 * (m * (from / u))
  in_words = ap (λ x. x * (from / u)) words ∙ (let a : 8 * m * (from / u) ≡ 8 * (m * (from / u)) = omega arith in a)

  parts_split : parts_touched u from left ≡ 1 + parts_touched u (from + count) (left - count)
  parts_split =
      let l = inside in let p = place in
      let e : nat_eq left 0 ≡ false = eq_no left 0 (λ z. absurd (omega arith)) in
      let whole : parts_touched u from left ≡ (from + left - 1) / u + 1 - from / u = rw e refl in
      elim (cases_lt count left) [
        | inl some_left ↦ (
            let t : (from / u + 1) * u ≡ u * (from / u) + u = omega arith in
            let q : (from + count) / u ≡ from / u + 1 = between_multiples (from + count) (from / u + 1) u positive (omega arith) (omega arith) in
            let r : nat_eq (left - count) 0 ≡ false = eq_no (left - count) 0 (λ z. absurd (omega arith)) in
            let s : from + count + (left - count) - 1 ≡ from + left - 1 = omega arith in
            let w : parts_touched u (from + count) (left - count) ≡ (from + left - 1) / u + 1 - (from / u + 1) = rw r (rw s (rw q refl)) in
            let low = le-div (from / u + 1) (from + left - 1) u positive (omega arith) in
            omega arith)
        | inr all ↦ (
            let t : from / u * u ≡ u * (from / u) = omega arith in
            let q : (from + left - 1) / u ≡ from / u = between_multiples (from + left - 1) (from / u) u positive (omega arith) (omega arith) in
            let z : left - count ≡ 0 = omega arith in
            let w : parts_touched u (from + count) (left - count) ≡ 0 = ap (parts_touched u (from + count)) z in
            omega arith)
      ]

  words_are_split : words_touched from left ≡ words_touched (from % u) count + words_touched (from + count) (left - count)
  words_are_split =
      let l = inside in let p = place in let w = in_words in
      elim (cases_lt count left) [
        | inl some_left ↦ words_split from (from % u) count left (omega arith) (omega arith) some_left (omega arith)
        | inr all ↦ (
            let c : count ≡ left = omega arith in
            let z : left - count ≡ 0 = omega arith in
            let none : words_touched (from + count) (left - count) ≡ 0 = ap (words_touched (from + count)) z in
            let x = words_are from left more in
            let y = words_are (from % u) count (omega arith) in
            let s : from % 8 ≡ from % u % 8 = omega arith in
            omega arith)
      ]

  one_more : parts_access_steps moving_costs u (from + count) (left - count)
      ≡ 5 * parts_touched u (from + count) (left - count) + words_touched (from + count) (left - count)
      → parts_access_steps moving_costs u from left ≡ 5 * parts_touched u from left + words_touched from left
  one_more rest =
      let next = access_next moving_costs u from left count positive more few in
      let h = handle_is (from / u) in
      let p = parts_split in let w = words_are_split in
      omega arith

-- by the number of the bytes that are left, at most k
access_up_to : (m u k from left : ℕ) → 0 < m → u ≡ 8 * m → left ≤ k
    → parts_access_steps moving_costs u from left ≡ 5 * parts_touched u from left + words_touched from left
access_up_to m u k from zero some words few = refl
access_up_to m u zero from (suc left) some words few = absurd (omega arith)
access_up_to m u (suc k) from (suc left) some words few =
    let l = mod-lt from (positive m u from (suc left) _ some words (omega arith) refl) in
    one_more m u from (suc left) (min (suc left) (u - from % u)) some words (omega arith) refl
    (access_up_to m u k (from + min (suc left) (u - from % u)) (suc left - min (suc left) (u - from % u)) some words (omega arith))

pub access_is : (m u at count : ℕ) → 0 < m → u ≡ 8 * m
    → parts_access_steps moving_costs u at count ≡ 5 * parts_touched u at count + words_touched at count
access_is m u at count some words = access_up_to m u count at count some words (omega arith)
