-- For `gaps`, `token_length` and `split_token`, which splits a text after its first token, and for other proofs here: how many gaps (spaces and tabs) the text
-- begins with, where its first token ends, and which tokens follow. Also: the position of the first byte that passes any test, or the length of the text.
use Rattle.std.proofs.Common.{◌≡◌, ◌∙◌, ◌-◌, ◌<◌, ◌≤◌, ◌+◌, ℕ, suc, Bool, true, false, cond, not, List, [], ◌∷◌}
use Rattle.std.proofs.Common.{length, take, drop, get_or, refl, sym, ap, arith}
use Rattle.std.specs.List.{position_or_len}
use Rattle.std.proofs.lemmas.List.Sums.{prefix_len-le-length}
use Rattle.std.proofs.lemmas.List.{take_rest, nil_from_length}
use Rattle.std.specs.Prelude.{position, unwrap_or, nat_lt, Some, None}
use Rattle.std.proofs.lemmas.Bool.{ltb-false, ne_eqb}
use Rattle.script_reader.specs.Lines.{is_gap, is_parted, onto_first, tokens}

-- the number of gaps that a text begins with
abbrev pub gaps_in : List ℕ → ℕ
gaps_in t = position_or_len (λ x. not (is_gap x)) t

-- a text whose first byte is greater than a space begins with no gap
pub no_gap_first : (t : List ℕ) → 0 < length t → 32 < get_or t 0 0 → 0 ≡ gaps_in t
no_gap_first [] some past = absurd (omega arith)
no_gap_first (x ∷ r) some past =
    let isnt : is_gap x ≡ false = rw (ne_eqb x 32 (λ e. omega (arith, e, past)), ne_eqb x 9 (λ e. omega (arith, e, past))) refl in
    rw isnt refl

-- the text after its first gaps has the same tokens
pub past_gaps : (t : List ℕ) → tokens (drop (gaps_in t) t) ≡ tokens t
past_gaps [] = refl
past_gaps (x ∷ r) = go (is_gap x) refl (past_gaps r)
  where
    go : (b : Bool) → is_gap x ≡ b → tokens (drop (gaps_in r) r) ≡ tokens r
        → tokens (drop (cond (not (not b)) (1 + gaps_in r) 0) (x ∷ r)) ≡ tokens (x ∷ r)
    go false isnt rest = refl
    go true is rest = let e : 1 + gaps_in r ≡ suc (gaps_in r) = omega arith in rw (e, is) rest

-- after its first gaps a text begins with no gap
pub no_gap_left : (t : List ℕ) → gaps_in (drop (gaps_in t) t) ≡ 0
no_gap_left [] = refl
no_gap_left (x ∷ r) = go (is_gap x) refl (no_gap_left r)
  where
    go : (b : Bool) → is_gap x ≡ b → gaps_in (drop (gaps_in r) r) ≡ 0
        → gaps_in (drop (cond (not (not b)) (1 + gaps_in r) 0) (x ∷ r)) ≡ 0
    go false isnt rest = rw isnt refl
    go true is rest = let e : 1 + gaps_in r ≡ suc (gaps_in r) = omega arith in rw e rest

-- if a text begins with no gap, its first token reaches up to the next gap
pub run : (x : ℕ) (r : List ℕ) → is_gap x ≡ false
    → tokens (x ∷ r) ≡ (x ∷ take (position_or_len is_gap r) r) ∷ tokens (drop (position_or_len is_gap r) r)
run x [] isnt = rw isnt refl
run x (y ∷ s) isnt = go (is_gap y) refl (run y s)
  where
    go : (b : Bool) → is_gap y ≡ b
        → (is_gap y ≡ false → tokens (y ∷ s) ≡ (y ∷ take (position_or_len is_gap s) s) ∷ tokens (drop (position_or_len is_gap s) s))
        → tokens (x ∷ y ∷ s) ≡ (x ∷ take (cond (not b) (1 + position_or_len is_gap s) 0) (y ∷ s)) ∷ tokens
        (drop (cond (not b) (1 + position_or_len is_gap s) 0) (y ∷ s))
    go true is rest = rw (isnt, is) refl
    go false other rest =
        let e : 1 + position_or_len is_gap s ≡ suc (position_or_len is_gap s) = omega arith in
        rw (isnt, other, e) (ap (onto_first x) (rw other at (rest other)))

pub first_token : (t : List ℕ) → gaps_in t ≡ 0 → 0 < length t
    → tokens t ≡ take (position_or_len is_gap t) t ∷ tokens (drop (position_or_len is_gap t) t)
first_token [] none some = absurd (omega arith)
first_token (x ∷ r) none some = go (is_gap x) refl none
  where
    go : (b : Bool) → is_gap x ≡ b → cond (not (not b)) (1 + gaps_in r) 0 ≡ 0
        → tokens (x ∷ r) ≡ take (cond (not b) (1 + position_or_len is_gap r) 0) (x ∷ r) ∷ tokens (drop (cond (not b) (1 + position_or_len is_gap r) 0) (x ∷ r))
    go true is none = absurd (omega arith)
    go false isnt none = let e : 1 + position_or_len is_gap r ≡ suc (position_or_len is_gap r) = omega arith in rw e (run x r isnt)

pub place-le-length : (p : ℕ → Bool) (t : List ℕ) → position_or_len p t ≤ length t
place-le-length p t = prefix_len-le-length (λ x. not (p x)) t

-- the first position whose byte passes the test p, or the length if none does
pub place_or_end : (p : ℕ → Bool) (t : List ℕ) → unwrap_or (position p t) (length t) ≡ position_or_len p t
place_or_end p t = go (nat_lt (position_or_len p t) (length t)) refl
  where
    go : (b : Bool) → nat_lt (position_or_len p t) (length t) ≡ b → unwrap_or (cond b (Some (position_or_len p t)) None) (length t) ≡ position_or_len p t
    go true is = refl
    go false isnt = let above = ltb-false _ _ isnt in let below = place-le-length p t in omega arith

pub after_gaps : (t s : List ℕ) (g : ℕ) → s ≡ take (length t - g) (drop g t) → g ≡ gaps_in t → s ≡ drop (gaps_in t) t
after_gaps t s g is count = is ∙ take_rest t g ∙ ap (λ (n : ℕ). drop n t) count

-- if the text after its first gaps is empty, it has no token
pub only_gaps : (t s : List ℕ) (g : ℕ) → s ≡ take (length t - g) (drop g t) → g ≡ gaps_in t → length s ≡ 0 → tokens t ≡ []
only_gaps t s g is count none =
    sym (past_gaps t) ∙ ap tokens (sym (after_gaps t s g is count)) ∙ ap tokens (nil_from_length s none)

-- a text that isn't all gaps: its first token, and the tokens after it
pub token_of_text : (t s : List ℕ) (g m : ℕ) → s ≡ take (length t - g) (drop g t) → g ≡ gaps_in t → m ≡ position_or_len is_gap s
    → 0 < length s → tokens t ≡ take m s ∷ tokens (drop m s)
token_of_text t s g m is count size some =
    let behind = after_gaps t s g is count in
    let none : gaps_in s ≡ 0 = ap gaps_in behind ∙ no_gap_left t in
    sym (past_gaps t) ∙ ap tokens (sym behind) ∙ first_token s none some
    ∙ ap (λ (n : ℕ). take n s ∷ tokens (drop n s)) (sym size)

-- the first token of a text has at least one byte
pub some_byte : (s : List ℕ) → gaps_in s ≡ 0 → 0 < length s → 1 ≤ length (take (position_or_len is_gap s) s)
some_byte [] none some = absurd (omega arith)
some_byte (x ∷ r) none some = go (is_gap x) none
  where
    go : (b : Bool) → cond (not (not b)) (1 + gaps_in r) 0 ≡ 0 → 1 ≤ length (take (cond (not b) (1 + position_or_len is_gap r) 0) (x ∷ r))
    go true none = absurd (omega arith)
    go false none = let e : 1 + position_or_len is_gap r ≡ suc (position_or_len is_gap r) = omega arith in rw e (omega arith)

pub token_has_byte : (t s : List ℕ) (g m : ℕ) → s ≡ take (length t - g) (drop g t) → g ≡ gaps_in t → m ≡ position_or_len is_gap s
    → 0 < length s → 1 ≤ length (take m s)
token_has_byte t s g m is count size some =
    rw size (some_byte s (ap gaps_in (after_gaps t s g is count) ∙ no_gap_left t) some)

-- if a text begins with no gap, and after its first byte a gap or the end follows, its first token is that byte
pub single : (s : List ℕ) → gaps_in s ≡ 0 → 0 < length s → is_parted (drop 1 s) ≡ true → tokens s ≡ take 1 s ∷ tokens (drop 1 s)
single [] none some parted = absurd (omega arith)
single (x ∷ r) none some parted = go (is_gap x) refl none
  where
    go : (b : Bool) → is_gap x ≡ b → cond (not (not b)) (1 + gaps_in r) 0 ≡ 0 → tokens (x ∷ r) ≡ (x ∷ []) ∷ tokens r
    go true is none = absurd (omega arith)
    go false isnt none = rw (isnt, parted) refl

pub single_in_text : (t s : List ℕ) (g : ℕ) → s ≡ take (length t - g) (drop g t) → g ≡ gaps_in t → 0 < length s → is_parted (drop 1 s) ≡ true
    → tokens t ≡ take 1 s ∷ tokens (drop 1 s)
single_in_text t s g is count some parted =
    let behind = after_gaps t s g is count in
    sym (past_gaps t) ∙ ap tokens (sym behind) ∙ single s (ap gaps_in behind ∙ no_gap_left t) some parted
