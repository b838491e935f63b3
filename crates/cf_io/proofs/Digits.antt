-- For `leading_number` and `number_of`, which read decimal digits one by one: their value after each digit, where they end, which number a text spells
-- or begins with, and when it has none: no digit, another byte, or more than 2^32 - 1.
use Rattle.std.proofs.Common.{◌≡◌, ◌∙◌, ◌<◌, ◌≤◌, ◌+◌, ◌-◌, ◌*◌, ◌&&◌, if◌then◌else◌, nat_le, not, Bool, List, ℕ, None, Some, true, false, refl, ap, sym, take}
use Rattle.std.proofs.Common.{length, get_or, arith, inl, inr}
use Rattle.std.proofs.Common.{Option, option_map}
use Rattle.std.proofs.Math.Bool.{and-false}
use Rattle.std.specs.List.{list_all}
use Rattle.std.specs.Char.{digit_value}
use Rattle.std.specs.Str.Parse.{digits_value}
use Rattle.std.proofs.lemmas.List.{get_or-take, length-take, take-take, take_all}
use Rattle.std.proofs.lemmas.List.Folds.{list_all_at, list_all_more}
use Rattle.std.proofs.lemmas.List.Sums.{passes_at_first, position_or_len_is, prefix_len-le-length}
use Rattle.std.proofs.lemmas.Int.Digits.{digits_value_more}
use Rattle.std.proofs.lemmas.Str.{digit_value_digit}
use Rattle.std.proofs.lemmas.Str.Parse.{digits_value-take-le}
use Rattle.std.proofs.lemmas.Bool.{cases_lt, false≢true, lt-leb, not-true}
use Rattle.cf_io.specs.Numbers.{digits_first, is_digit, leading_number, number_in}

-- the text spells the number n: its bytes are digits, at least one, and the value fits 32 bits
pub record Spells (text : List ℕ) (n : ℕ) : Type 0 where
  pub some : 0 < length text
  pub digits : list_all is_digit text ≡ true
  pub value : n ≡ digits_value 10 text
  pub bound : n ≤ 4294967295

pub spells : (text : List ℕ) (n : ℕ) → number_in text ≡ Some n → Spells text n
spells text n h = grind (arith, h)

pub number_spelled : (text : List ℕ) (n : ℕ) → Spells text n → number_in text ≡ Some n
number_spelled text n h = grind (arith, h)

digit_less : (c : ℕ) → is_digit c ≡ true → digit_value c ≡ c - 48
digit_less c h = let e : digit_value c + 48 ≡ c = digit_value_digit c (grind (arith, h)) in omega arith

pub value_more : (text : List ℕ) (i v : ℕ) → i < length text → is_digit (get_or text i 0) ≡ true → v ≡ digits_value 10 (take i text)
    → 10 * v + (get_or text i 0 - 48) ≡ digits_value 10 (take (i + 1) text)
value_more text i v inside digit value = omega (arith, digits_value_more 10 text i inside, digit_less (get_or text i 0) digit, value)

pub digits_more : (text : List ℕ) (i : ℕ) → i < length text → is_digit (get_or text i 0) ≡ true → list_all is_digit (take i text) ≡ true
    → list_all is_digit (take (i + 1) text) ≡ true
digits_more text i inside digit before = list_all_more is_digit text i 0 inside ∙ ap (λ b. b && is_digit (get_or text i 0)) before ∙ digit

pub passes : (text : List ℕ) (i v : ℕ) → v ≡ digits_value 10 (take i text) → 4294967295 < v → None ≡ number_in text
passes text i v value large =
    let over : nat_le (digits_value 10 text) 4294967295 ≡ false = lt-leb _ _ (omega (arith, digits_value-take-le 10 text i (omega arith), value, large)) in
    rw over (sym (ap (λ b. if b then Some (digits_value 10 text) else None) (and-false _)))

-- if the first i bytes are all digits, byte k below i is a digit
digit_before : (text : List ℕ) (i k : ℕ) → i ≤ length text → list_all is_digit (take i text) ≡ true → k < i → is_digit (get_or text k 0) ≡ true
digit_before text i k within all below = go (is_digit (get_or text k 0)) refl
  where
    go : (b : Bool) → is_digit (get_or text k 0) ≡ b → is_digit (get_or text k 0) ≡ true
    go true is = is
    go false isnt =
        let inside : k < length (take i text) = omega (arith, length-take i text) in
        let no = list_all_at is_digit (take i text) k 0 inside (ap is_digit (get_or-take i text k 0 below) ∙ isnt) in
        absurd (false≢true (sym no ∙ all))

-- a text with a byte that isn't a digit spells no number
pub other_byte : (text : List ℕ) (k : ℕ) → k < length text → is_digit (get_or text k 0) ≡ false → number_in text ≡ None
other_byte text k inside isnt = rw (list_all_at is_digit text k 0 inside isnt) (rw and-false refl)

pub digits_within : (text : List ℕ) → digits_first text ≤ length text
digits_within text = prefix_len-le-length (λ b. not (not (is_digit b))) text

-- the byte after the digits that a text begins with is no digit
pub digits_stop : (text : List ℕ) → digits_first text < length text → is_digit (get_or text (digits_first text) 0) ≡ false
digits_stop text inside = not-true _ (passes_at_first (λ b. not (is_digit b)) text 0 inside)

-- if the first i bytes are digits and the next byte isn't, the text begins with exactly i digits
pub digits_end : (text : List ℕ) (i : ℕ) → i ≤ length text → list_all is_digit (take i text) ≡ true
    → (i < length text → is_digit (get_or text i 0) ≡ false) → digits_first text ≡ i
digits_end text i within all ends =
    position_or_len_is (λ b. not (is_digit b)) text i 0 within (λ k below. ap not (digit_before text i k within all below)) (λ inside. ap not (ends inside))

-- if the first i bytes are digits, the text begins with at least i digits
digits_least : (text : List ℕ) (i : ℕ) → i ≤ length text → list_all is_digit (take i text) ≡ true → i ≤ digits_first text
digits_least text i within all = elim (cases_lt (digits_first text) i) [
  | inl below ↦ absurd (false≢true (sym (digits_stop text (omega arith)) ∙ digit_before text i (digits_first text) within all below))
  | inr above ↦ above
]

-- if the first i bytes are digits and spell more than 2^32 - 1, the text has no leading number
pub first_passes : (text : List ℕ) (i v : ℕ) → i ≤ length text → list_all is_digit (take i text) ≡ true → v ≡ digits_value 10 (take i text) → 4294967295 < v
    → None ≡ leading_number text
first_passes text i v within all value large =
    let n = digits_first text in
    let same : take i (take n text) ≡ take i text = take-take i n text (digits_least text i within all) in
    ap (option_map (λ m. (m, n))) (passes (take n text) i v (value ∙ ap (digits_value 10) (sym same)) large)

-- if the first i bytes are digits, the next byte isn't, and their value v fits 32 bits, the leading number is v, of i digits
pub first_spell : (text : List ℕ) (i v : ℕ) → 0 < i → i ≤ length text → list_all is_digit (take i text) ≡ true
    → (i < length text → is_digit (get_or text i 0) ≡ false) → v ≡ digits_value 10 (take i text) → v ≤ 4294967295 → Some (v, i) ≡ leading_number text
first_spell text i v some within all ends value fits =
    let is : number_in (take i text) ≡ Some v = number_spelled (take i text) v (record {
      some = omega (arith, length-take i text);
      digits = all;
      value =
          value;
      bound = fits;
    }) in
    rw (digits_end text i within all ends, is) refl

-- if v, of n digits, is the leading number, the text begins with n digits, and they spell v
pub first_shown : (text : List ℕ) (v n : ℕ) → Some (v, n) ≡ leading_number text → (n ≡ digits_first text) × (number_in (take n text) ≡ Some v)
first_shown text v n shown = go (number_in (take (digits_first text) text)) refl shown
  where
    go : (o : Option ℕ) → number_in (take (digits_first text) text) ≡ o → ◌≡◌ {A = Option (ℕ × ℕ)} (Some (v, n)) (option_map (λ m. (m, digits_first text)) o)
        → (n ≡ digits_first text) × (number_in (take n text) ≡ Some v)
    go None is shown = absurd cc
    go (Some m) is shown = let e : ◌≡◌ {A = ℕ × ℕ} (v, n) (m, digits_first text) = cc in
        (ap (λ p. p.1) e, rw (ap (λ p. p.1) e) (is ∙ ap Some (sym (ap (λ p. p.0) e))))

pub whole_none : (text : List ℕ) → None ≡ leading_number text → None ≡ number_in text
whole_none text none = elim (cases_lt (digits_first text) (length text)) [
  | inl below ↦ sym (other_byte text (digits_first text) below (digits_stop text below))
  | inr above ↦ go (number_in text) (rw (take_all (digits_first text) text above) at none)
]
  where
    go : (o : Option ℕ) → ◌≡◌ {A = Option (ℕ × ℕ)} None (option_map (λ m. (m, digits_first text)) o) → None ≡ o
    go None none = refl
    go (Some m) none = absurd cc

pub whole_other : (text : List ℕ) (v n : ℕ) → Some (v, n) ≡ leading_number text → n < length text → None ≡ number_in text
whole_other text v n shown below =
    let e = (first_shown text v n shown).0 in
    sym (other_byte text (digits_first text) (omega (arith, e)) (digits_stop text (omega (arith, e))))
