-- Which number a text of decimal digits spells. A text is a list of bytes.
use Rattle.std.specs.Prelude.{ℕ, Bool, ◌&&◌, ◌==◌, not, List, length, take, Option, Some, None, option_map, nat_le, if◌then◌else◌}
use Rattle.std.specs.List.{list_all, position_or_len}
use Rattle.std.specs.Str.Parse.{digits_value}
use Rattle.cf_base.specs.Limits.{is_within}

-- whether the byte b is a decimal digit
abbrev pub is_digit : ℕ → Bool
is_digit b = is_within 48 57 b

-- the number that the text spells in decimal; none if it is empty, has another byte, or passes 2^32 - 1
abbrev pub number_in : List ℕ → Option ℕ
number_in text = if not (length text == 0) && list_all is_digit text && nat_le (digits_value 10 text) 4294967295
    then Some (digits_value 10 text) else None

-- how many digits the text begins with, up to its first byte that is no digit
abbrev pub digits_first : List ℕ → ℕ
digits_first text = position_or_len (λ b. not (is_digit b)) text

-- the number that the digits at the start of the text spell, and how many digits; none if they spell no number
abbrev pub leading_number : List ℕ → Option (ℕ × ℕ)
leading_number text = option_map (λ n. (n, digits_first text)) (number_in (take (digits_first text) text))
