-- When the tests `nat_eq`, `nat_le` and `nat_lt` pass, and when they fail; when `is_within` passes; that `&&` with false is false; and when the order of a
-- map's keys finds two equal.
use Rattle.std.proofs.Common.{◌≡◌, ◌≢◌, ◌∙◌, ℕ, Bool, true, false, ◌<◌, ◌≤◌, refl}
use Rattle.std.specs.Prelude.{◌&&◌, nat_eq, nat_le, nat_lt}
use Rattle.std.proofs.lemmas.Bool.{and_from, eq-eqb, ne_eqb, lt-ltb, le-ltb, le-leb, lt-leb}
use Rattle.std.specs.Ordering.{nat_cmp, eq_by_cmp}
use Rattle.std.specs.Cmp.{unsigned_tied}
use Rattle.cf_base.specs.Limits.{is_within}

pub eq_yes : (a b : ℕ) → a ≡ b → nat_eq a b ≡ true
eq_yes a b is = eq-eqb a b is

pub eq_no : (a b : ℕ) → a ≢ b → nat_eq a b ≡ false
eq_no a b ne = ne_eqb a b ne

pub le_yes : (a b : ℕ) → a ≤ b → nat_le a b ≡ true
le_yes a b le = le-leb a b le

pub le_no : (a b : ℕ) → b < a → nat_le a b ≡ false
le_no a b lt = lt-leb a b lt

pub lt_yes : (a b : ℕ) → a < b → nat_lt a b ≡ true
lt_yes a b lt = lt-ltb a b lt

pub lt_no : (a b : ℕ) → b ≤ a → nat_lt a b ≡ false
lt_no a b le = le-ltb a b le

pub and_false : (b : Bool) → (b && false) ≡ false
and_false true = refl
and_false false = refl

-- the order of keys finds two numbers equal if and only if they are
pub tied_yes : (a b : ℕ) → a ≡ b → eq_by_cmp nat_cmp a b ≡ true
tied_yes a b is = unsigned_tied a b ∙ eq_yes a b is

pub tied_no : (a b : ℕ) → a ≢ b → eq_by_cmp nat_cmp a b ≡ false
tied_no a b ne = unsigned_tied a b ∙ eq_no a b ne

pub within_limits : (low high n : ℕ) → low ≤ n → n ≤ high → is_within low high n ≡ true
within_limits low high n least most = and_from _ _ (le_yes low n least) (le_yes n high most)
