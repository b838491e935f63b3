-- For `first_line` and `line_feed_from`: the first line of the bytes that the reader keeps (fed, not yet read) ends at their first line feed or, without
-- one, at their end; a search may start behind bytes without a line feed.
use Rattle.std.proofs.Common.{◌≡◌, ◌∙◌, ◌<◌, ◌≤◌, ◌+◌, ◌-◌, ◌==◌, ◌||◌, ◌++◌, ℕ, suc, Bool, true, false, cond, not, List, [], ◌∷◌, Some, None, length, take}
use Rattle.std.proofs.Common.{drop, refl, sym, ap, arith, zero, inl, inr, option_map}
use Rattle.std.proofs.lemmas.Bool.{eqb-true, ltb-true, ltb-false, lt-ltb, le-ltb, false≢true}
use Rattle.std.proofs.lemmas.List.{take_rest, length-drop}
use Rattle.std.specs.List.{position_or_len}
use Rattle.std.specs.Prelude.{position, nat_lt}
use Rattle.script_reader.specs.Lines.{is_last_line}
use Rattle.script_reader.specs.Reading.{IsFirstLine, holds_line_feed}

-- the position of the first line feed; the length if there is none
abbrev pub feed_place : List ℕ → ℕ
feed_place kept = position_or_len (λ x. x == 10) kept

-- if a line feed is found, the bytes before it hold none
pub feed_found : (kept : List ℕ) → feed_place kept < length kept
    → (kept ≡ take (feed_place kept) kept ++ (10 ∷ drop (suc (feed_place kept)) kept)) × (holds_line_feed (take (feed_place kept) kept) ≡ false)
feed_found [] h = absurd (omega arith)
feed_found (x ∷ r) h = go (x == 10) refl h (feed_found r)
  where
    go : (b : Bool) → (x == 10) ≡ b → cond (not b) (1 + feed_place r) 0 < suc (length r)
        → (feed_place r < length r → (r ≡ take (feed_place r) r ++ (10 ∷ drop (suc (feed_place r)) r)) × (holds_line_feed (take (feed_place r) r) ≡ false))
        → (x ∷ r ≡ take (cond (not b) (1 + feed_place r) 0) (x ∷ r) ++ (10 ∷ drop (suc (cond (not b) (1 + feed_place r) 0)) (x ∷ r)))
        × (holds_line_feed (take (cond (not b) (1 + feed_place r) 0) (x ∷ r)) ≡ false)
    go true is h rest = (ap (λ (y : ℕ). y ∷ r) (eqb-true x 10 is), refl)
    go false isnt h rest =
        let e : 1 + feed_place r ≡ suc (feed_place r) = omega arith in
        let tail = rest (omega arith) in
        rw e (ap (λ (l : List ℕ). x ∷ l) tail.0, rw isnt tail.1)

-- if no line feed is found, the bytes hold none
pub feed_missing : (kept : List ℕ) → length kept ≤ feed_place kept → holds_line_feed kept ≡ false
feed_missing [] h = refl
feed_missing (x ∷ r) h = go (x == 10) refl h (feed_missing r)
  where
    go : (b : Bool) → (x == 10) ≡ b → suc (length r) ≤ cond (not b) (1 + feed_place r) 0 → (length r ≤ feed_place r → holds_line_feed r ≡ false)
        → (b || holds_line_feed r) ≡ false
    go true is h rest = absurd (omega arith)
    go false isnt h rest = rest (omega arith)

-- if no line feed is before byte `from`, a search from there finds the first one
pub place_from : (from : ℕ) (kept : List ℕ) → from ≤ length kept → holds_line_feed (take from kept) ≡ false
    → feed_place kept ≡ from + feed_place (drop from kept)
place_from zero kept h searched = omega arith
place_from (suc n) [] h searched = absurd (omega arith)
place_from (suc n) (x ∷ r) h searched = go (x == 10) searched (place_from n r (omega arith))
  where
    go : (b : Bool) → (b || holds_line_feed (take n r)) ≡ false → (holds_line_feed (take n r) ≡ false → feed_place r ≡ n + feed_place (drop n r))
        → cond (not b) (1 + feed_place r) 0 ≡ suc n + feed_place (drop n r)
    go true bad rest = absurd (false≢true (sym bad))
    go false searched rest = let e = rest searched in omega arith

pub found_from : (kept s : List ℕ) (from : ℕ) → s ≡ take (length kept - from) (drop from kept) → from ≤ length kept → holds_line_feed (take from kept) ≡ false
    → option_map (λ i. from + i) (position (λ x. x == 10) s) ≡ position (λ x. x == 10) kept
found_from kept s from is within searched =
    let rest : s ≡ drop from kept = is ∙ take_rest kept from in
    let place : feed_place kept ≡ from + feed_place s = place_from from kept within searched ∙ ap (λ (l : List ℕ). from + feed_place l) (sym rest) in
    let size : length kept ≡ from + length s = omega (arith, ap length rest, length-drop from kept) in
    go (nat_lt (feed_place s) (length s)) refl place size
  where
    go : (b : Bool) → nat_lt (feed_place s) (length s) ≡ b → feed_place kept ≡ from + feed_place s → length kept ≡ from + length s
        → option_map (λ i. from + i) (cond b (Some (feed_place s)) None) ≡ position (λ x. x == 10) kept
    go true is place size =
        let low = ltb-true _ _ is in
        let below : feed_place kept < length kept = omega arith in
        rw (lt-ltb _ _ below) (ap Some (sym place))
    go false isnt place size =
        let high = ltb-false _ _ isnt in
        let above : length kept ≤ feed_place kept = omega arith in
        rw (le-ltb _ _ above) refl

pub line_by_feed : (kept : List ℕ) (ended : Bool) (len : ℕ) → Some len ≡ position (λ x. x == 10) kept → IsFirstLine kept ended len (len + 1)
line_by_feed kept ended len h = go (nat_lt (feed_place kept) (length kept)) refl h
  where
    go : (b : Bool) → nat_lt (feed_place kept) (length kept) ≡ b → Some len ≡ cond b (Some (feed_place kept)) None → IsFirstLine kept ended len (len + 1)
    go false isnt h = absurd cc
    go true is h =
        let place : feed_place kept ≡ len = cc in
        let below : feed_place kept < length kept = ltb-true _ _ is in
        let found = rw place at (feed_found kept below) in
        let e : len + 1 ≡ suc len = omega arith in
        record { some = omega arith; within = omega arith; inside = omega arith; cut = rw e (inl found) }

pub no_feed : (kept : List ℕ) → None ≡ position (λ x. x == 10) kept → holds_line_feed kept ≡ false
no_feed kept h = go (nat_lt (feed_place kept) (length kept)) refl h
  where
    go : (b : Bool) → nat_lt (feed_place kept) (length kept) ≡ b → None ≡ cond b (Some (feed_place kept)) None → holds_line_feed kept ≡ false
    go true is h = absurd cc
    go false isnt h = feed_missing kept (ltb-false _ _ isnt)

-- if the kept bytes hold no line feed but count as a line, they are the first line
pub line_by_end : (kept : List ℕ) (ended : Bool) → None ≡ position (λ x. x == 10) kept → is_last_line ended kept ≡ true
    → IsFirstLine kept ended (length kept) (length kept)
line_by_end [] ended none counts = absurd (false≢true counts)
line_by_end (x ∷ r) ended none counts =
    record { some = omega arith; within = omega arith; inside = omega arith; cut = inr (refl, refl, no_feed (x ∷ r) none, counts) }
