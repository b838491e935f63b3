-- What other crates' proofs may cite: which number a text spells, and where its digits end; bytes, lines and replies that are written, taken or counted one
-- after the other, and the faults of the calls that do it; what may follow the bytes that were taken; and a line that texts are appended to, and how long these
-- are.
use Rattle.std.proofs.Common.{◌≡◌, ◌∙◌, ◌≤◌, ◌*◌, ◌&&◌, List, [], ◌∷◌, ℕ, Some, true, refl, ap, sym, length, arith}
use Rattle.std.specs.List.{list_all}
use Rattle.std.specs.Fmt.{decimal}
use Rattle.std.specs.Int.{w64, to_be_bytes}
use Rattle.std.specs.Str.Parse.{AllDigits}
use Rattle.hex.specs.Hex.{encode_lower, lower_digits}
use Rattle.hex.proofs.HexLemmas.{length-encode_with}
use Rattle.std.proofs.lemmas.Fmt.{decimal_is_IsNumeral}
use Rattle.std.proofs.lemmas.Str.Parse.{digit_from_value}
use Rattle.cf_io.specs.Lines.{word_text}
use Rattle.cf_io.specs.Numbers.{is_digit, number_in}
pub use Rattle.cf_io.proofs.Digits.{Spells, digits_stop, digits_within, first_shown, number_spelled, other_byte, spells}
pub use Rattle.cf_io.proofs.Feeding.{appended_after, appended_none, fails_after, given_min, given_more, given_none, nothing_follows}
pub use Rattle.cf_io.proofs.Feeding.{nothing_may_follow, nothing_taken, preceded_after, preceded_none, writes_more, writes_none}
pub use Rattle.cf_io.proofs.LineLemmas.{decimal_short, five, led-append, pushed, puts_cut, puts_line, puts_same, puts_then, three}

pub length_in_hex : (bytes : List ℕ) → length (encode_lower bytes) ≡ 2 * length bytes
length_in_hex bytes = length-encode_with lower_digits bytes

pub length_of_word : (v : ℕ) → length (word_text v) ≡ 16
length_of_word v = length_in_hex (to_be_bytes w64 v)

digits_pass : (text : List ℕ) → AllDigits 10 text → list_all is_digit text ≡ true
digits_pass [] h = refl
digits_pass (c ∷ cs) h = let e : is_digit c ≡ true = grind (arith, digit_from_value c h.0) in ap (λ b. b && list_all is_digit cs) e ∙ digits_pass cs h.1

-- the decimal text of a number of 32 bits spells this number
pub number_of_decimal : (n : ℕ) → n ≤ 4294967295 → number_in (decimal n) ≡ Some n
number_of_decimal n fits =
    let h = decimal_is_IsNumeral n (omega arith) in
    number_spelled _ _ (record { some = h.0.0; digits = digits_pass _ h.0.1; value = sym h.1; bound = fits })
