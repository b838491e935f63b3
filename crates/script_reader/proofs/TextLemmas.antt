-- For `command_text`, which writes a command as a line token by token: the decimal text of a number and the hexadecimal text of bytes are tokens; numbers with
-- a space before each have at most 21 bytes each; one more token adds a space and its bytes.
use Rattle.std.proofs.Common.{◌≡◌, ◌∙◌, ◌≤◌, ◌<◌, ◌+◌, ◌*◌, ◌/◌, ◌%◌, ◌++◌, ◌&&◌, ℕ, Bool, suc, true, false, List, [], ◌∷◌, length, map}
use Rattle.std.proofs.Common.{refl, sym, ap, arith, append-nil, append_assoc, Some}
use Rattle.std.proofs.Common.{length-append}
use Rattle.std.specs.Prelude.{⊤, slice_index}
use Rattle.std.proofs.lemmas.Bool.{false≢true}
use Rattle.std.specs.Fmt.{decimal}
use Rattle.std.specs.List.{list_all}
use Rattle.std.proofs.lemmas.Bool.Decides.{nat_tests}
use Rattle.hex.specs.Hex.{IsBytes, encode_lower, encode_with, hex_digit_value, lower_digits}
use Rattle.hex.proofs.HexLemmas.{IsDigits-lower_digits}
use Rattle.cf_io.specs.Numbers.{is_digit}
use Rattle.cf_io.proofs.CallerLemmas.{Spells, length_in_hex, number_of_decimal, spells, decimal_short}
use Rattle.script_reader.specs.CommandText.{after_spaces, spaced}
use Rattle.script_reader.specs.ReadBack.{IsWord}
use Rattle.script_reader.proofs.TokenLemmas.{AreHigh, AreTokens, IsToken}

digits_high : (xs : List ℕ) → list_all is_digit xs ≡ true → AreHigh xs
digits_high [] digits = tt
digits_high (x ∷ xs) digits = go (is_digit x) refl digits (digits_high xs)
  where
    go : (b : Bool) → is_digit x ≡ b → (b && list_all is_digit xs) ≡ true → (list_all is_digit xs ≡ true → AreHigh xs) → AreHigh (x ∷ xs)
    go true is digits more = (grind (arith, nat_tests, is), more digits)
    go false is digits more = absurd (false≢true digits)

token_of : (t : List ℕ) → 0 < length t → AreHigh t → IsToken t
token_of [] some high = absurd (omega (arith, some))
token_of (x ∷ xs) some high = high

pub number_token : (n : ℕ) → IsWord n → IsToken (decimal n)
number_token n word =
    let is : Spells (decimal n) n = spells (decimal n) n (number_of_decimal n word) in
    token_of (decimal n) is.some (digits_high (decimal n) is.digits)

digit_high : (d : ℕ) → d < 16 → 48 ≤ slice_index lower_digits d
digit_high d lt =
    let is : hex_digit_value (slice_index lower_digits d) ≡ Some d = IsDigits-lower_digits d lt in
    grind (arith, nat_tests, is)

hex_high : (bytes : List ℕ) → IsBytes bytes → AreHigh (encode_lower bytes)
unfolding encode_with
hex_high [] are = tt
hex_high (b ∷ bytes) are =
    let fits : b < 256 = are 0 in
    (digit_high (b / 16) (omega arith), (digit_high (b % 16) (omega arith), hex_high bytes (λ k. are (suc k))))

pub hex_token : (bytes : List ℕ) → 1 ≤ length bytes → IsBytes bytes → IsToken (encode_lower bytes)
hex_token bytes some are = token_of (encode_lower bytes) (omega (arith, length_in_hex bytes)) (hex_high bytes are)

-- each of these numbers has 32 bits, so each has at most ten digits
abbrev pub AreWords : List ℕ → Type 0
AreWords [] = ⊤
AreWords (n ∷ rest) = IsWord n × AreWords rest

pub number_tokens : (numbers : List ℕ) → AreWords numbers → AreTokens (map decimal numbers)
number_tokens [] are = tt
number_tokens (n ∷ rest) are = (number_token n are.0, number_tokens rest are.1)

pub numbers_short : (numbers : List ℕ) → AreWords numbers → length (after_spaces (map decimal numbers)) ≤ 21 * length numbers
numbers_short [] are = omega arith
numbers_short (n ∷ rest) are =
    let word : n ≤ 4294967295 = are.0 in
    let one = decimal_short n (omega arith) in
    let more = numbers_short rest are.1 in
    let e = length-append (decimal n) (after_spaces (map decimal rest)) in
    omega arith

-- the bytes of tokens with a space before each, if one more token t is at the end
after_push : (ts : List (List ℕ)) (t : List ℕ) → after_spaces (ts ++ t ∷ []) ≡ after_spaces ts ++ (32 ∷ t)
after_push [] t = append-nil (32 ∷ t)
after_push (u ∷ ts) t = ap (λ l. (32 ∷ u) ++ l) (after_push ts t) ∙ sym (append_assoc (32 ∷ u) (after_spaces ts) (32 ∷ t))

pub next_token : (w : List ℕ) (ts : List (List ℕ)) (t one two : List ℕ) → one ≡ spaced (w ∷ ts) → two ≡ one ++ (32 ∷ t) → two ≡ spaced (w ∷ (ts ++ t ∷ []))
next_token w ts t one two first second = second ∙ ap (λ l. l ++ (32 ∷ t)) first ∙ append_assoc w (after_spaces ts) (32 ∷ t)
    ∙ ap (λ l. w ++ l) (sym (after_push ts t))
