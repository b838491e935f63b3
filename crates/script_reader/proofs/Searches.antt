-- For `line_feed_at` and `first_gap_in_long`, which search with the crate `memchr`: the position that it returns is the first whose byte passes the test, a
-- line feed or a gap (a space or tab).
use Rattle.std.proofs.Common.{◌≡◌, ◌∙◌, ◌<◌, ℕ, Bool, true, false, cond, List, Option, Some, None, length, refl, sym, ap, arith}
use Rattle.std.proofs.lemmas.Bool.{false≢true, le-ltb, lt-ltb, ltb-false, ltb-true}
use Rattle.std.proofs.lemmas.List.Sums.{fails_before_first, passes_at_first, position_or_len_is}
use Rattle.std.specs.List.{position_or_len}
use Rattle.std.specs.Prelude.{nat_lt, position, slice_index}
use Rattle.memchr.specs.Find.{IsFirstByte, TakesFirst, first_of, places}
use Rattle.memchr.proofs.lemmas.ValueLemmas.{IsFirstByte-value}

not_true : (b : Bool) → ¬ (b ≡ true) → b ≡ false
not_true true isnt = absurd (isnt refl)
not_true false isnt = refl

pub first_is_position : (p : ℕ → Bool) (s : List ℕ) (r : Option ℕ) → IsFirstByte p s r → r ≡ position p s
first_is_position p s None h =
    let place : position_or_len p s ≡ length s = position_or_len_is p s (length s) 0 (omega arith)
    (λ k low. not_true (p (slice_index s k)) (h k (omega arith) low)) (λ low. absurd (omega arith)) in
    rw (place, le-ltb (length s) (length s) (omega arith)) refl
first_is_position p s (Some k) h =
    let inside : k < length s = h.0.high in
    let place : position_or_len p s ≡ k = position_or_len_is p s k 0 (omega arith)
    (λ j low. not_true (p (slice_index s j)) (h.0.before j (omega arith) low)) (λ low. h.1) in
    rw (place, lt-ltb k (length s) inside) refl

position_is_first : (p : ℕ → Bool) (s : List ℕ) → IsFirstByte p s (position p s)
position_is_first p s = go (nat_lt (position_or_len p s) (length s)) refl
  where
    go : (b : Bool) → nat_lt (position_or_len p s) (length s) ≡ b → IsFirstByte p s (cond b (Some (position_or_len p s)) None)
    go true is =
        let inside = ltb-true _ _ is in (
          record {
            low = omega arith;
            high = inside;
            before = λ k low below holds. false≢true (sym (fails_before_first p s k 0 below) ∙ holds);
          },
          passes_at_first p s 0 inside,
        )
    go false isnt =
        let far = ltb-false _ _ isnt in
        λ k low high holds. false≢true (sym (fails_before_first p s k 0 (omega (arith, far, high))) ∙ holds)

first_taken : (all rest : List ℕ) (r : Option ℕ) → TakesFirst all r rest → r ≡ first_of all
unfolding first_of
first_taken all rest None takes = ap first_of (sym takes.0)
first_taken all rest (Some x) takes = ap first_of (sym takes)

-- the first of the positions whose bytes pass the test p is what a search for p returns
pub next_is_position : (p : ℕ → Bool) (s all rest : List ℕ) (r : Option ℕ) → all ≡ places p s → TakesFirst all r rest → r ≡ position p s
next_is_position p s all rest r are takes =
    first_taken all rest r takes ∙ ap first_of are ∙ sym (IsFirstByte-value p s (position p s) (position_is_first p s))
