use Rattle.std.proofs.Common.{◌≡◌, ◌≤◌, ◌-◌, length, take, true}
use Rattle.std.specs.List.{list_all}
use Rattle.std.specs.Str.Parse.{digits_value}
use Rattle.cf_io.specs.Numbers.{is_digit}
use Rattle.cf_io.proofs.numbers.leading_number.Given as goal

-- the first `at` bytes are digits, and `value` is the number that they spell
abbrev pub invariant-digits : goal.invariant-digits
invariant-digits l = record {
  within : l.at ≤ length l.text;
  digits : list_all is_digit (take l.at l.text) ≡ true;
  value : l.value ≡ digits_value 10 (take l.at l.text);
  small : l.value ≤ 4294967295;
}

abbrev pub decreases-digits : goal.decreases-digits
decreases-digits l = length l.text - l.at
