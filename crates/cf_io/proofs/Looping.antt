-- For `fill_over`, which fills a buffer with the pattern of a `LoopSource` over and over: each copied part of the pattern continues at the right byte, and
-- keeps the bytes before it.
use Rattle.std.proofs.Common.{◌≡◌, ◌∙◌, ◌<◌, ◌≤◌, ◌+◌, ◌-◌, ◌%◌, ◌++◌, List, ℕ, ap, sym, take, drop, length, get_or, arith, inl, inr}
use Rattle.std.proofs.Math.Nat.{mod-add-mod, mod-eq_of_lt, mod_self}
use Rattle.std.proofs.lemmas.Bool.{cases_lt}
use Rattle.std.proofs.lemmas.Grind.{common_steps}

goes_on : (at full n next len : ℕ) → next ≡ (at + full) % len → (next + n) % len ≡ (at + (full + n)) % len
goes_on at full n next len was =
    let e : at + full + n ≡ at + (full + n) = omega arith in
    ap (λ m. (m + n) % len) was ∙ mod-add-mod (at + full) len n ∙ ap (λ m. m % len) e

pub begins_again : (at full n next len : ℕ) → next ≡ (at + full) % len → next + n ≡ len → 0 ≡ (at + (full + n)) % len
begins_again at full n next len was whole = sym (mod_self len) ∙ ap (λ m. m % len) (sym whole) ∙ goes_on at full n next len was

pub goes_on_inside : (at full n next len : ℕ) → next ≡ (at + full) % len → next + n < len → next + n ≡ (at + (full + n)) % len
goes_on_inside at full n next len was inside = sym (mod-eq_of_lt inside) ∙ goes_on at full n next len was

-- if byte `full` of the buffer is the pattern's byte `next`, byte k, at or after `full`, is the pattern's byte `next + (k - full)`
place : (at full next k len : ℕ) → next ≡ (at + full) % len → full ≤ k → next + (k - full) < len → (at + k) % len ≡ next + (k - full)
place at full next k len was behind inside =
    let e : at + full + (k - full) ≡ at + k = omega arith in
    ap (λ n. n % len) (sym e) ∙ sym (mod-add-mod (at + full) len (k - full)) ∙ ap (λ n. (n + (k - full)) % len) (sym was) ∙ mod-eq_of_lt inside

-- the bytes below `full` hold the pattern over and over, from its byte `at` on
abbrev pub LoopsBelow : List ℕ → ℕ → List ℕ → ℕ → Type 0
LoopsBelow pattern at buf full = (k : ℕ) → k < full → get_or buf k 0 ≡ get_or pattern ((at + k) % length pattern) 0

kept : (pattern buf new : List ℕ) (next full n : ℕ) → next + n ≤ length pattern → full + n ≤ length buf
    → new ≡ take full buf ++ take n (drop next pattern) ++ drop (full + n) buf → (k : ℕ) → k < full → get_or new k 0 ≡ get_or buf k 0
kept pattern buf new next full n some room is k h = rw is (grind (arith, common_steps))

copied : (pattern buf new : List ℕ) (next full n : ℕ) → next + n ≤ length pattern → full + n ≤ length buf
    → new ≡ take full buf ++ take n (drop next pattern) ++ drop (full + n) buf → (k : ℕ) → full ≤ k → k < full + n
    → get_or new k 0 ≡ get_or pattern (next + (k - full)) 0
copied pattern buf new next full n some room is k h below = rw is (grind (arith, common_steps))

pub loops_more : (pattern buf new : List ℕ) (at next full n : ℕ) → next ≡ (at + full) % length pattern → next + n ≤ length pattern → full + n ≤ length buf
    → new ≡ take full buf ++ take n (drop next pattern) ++ drop (full + n) buf → LoopsBelow pattern at buf full → LoopsBelow pattern at new (full + n)
loops_more pattern buf new at next full n was some room is before k below =
    elim (cases_lt k full) [
      | inl h ↦ kept pattern buf new next full n some room is k h ∙ before k h
      | inr h ↦ copied pattern buf new next full n some room is k h below
          ∙ ap (λ i. get_or pattern i 0) (sym (place at full next k (length pattern) was h (omega arith)))
    ]
