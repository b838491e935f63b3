-- For the laws: tokens here have bytes of 48 or more (`IsToken`). A line whose tokens are separated by single spaces is split into these tokens again by the
-- grammar, has no carriage return, and ends at the line feed after it.
use Rattle.std.proofs.Common.{◌≡◌, ◌∙◌, ◌≤◌, ◌+◌, ◌++◌, ◌==◌, ◌&&◌, ℕ, Bool, zero, suc, true, false, List, [], ◌∷◌, refl, sym, ap}
use Rattle.std.proofs.Common.{ap₂, arith}
use Rattle.std.specs.Prelude.{⊤, nat_le, slice_index, if◌then◌else◌}
use Rattle.std.proofs.lemmas.Bool.{false≢true}
use Rattle.std.specs.List.{list_all}
use Rattle.std.proofs.lemmas.Bool.Decides.{nat_tests}
use Rattle.script_reader.specs.CommandText.{after_spaces, spaced}
use Rattle.script_reader.specs.Lines.{is_gap, is_parted, lines, lines_among, onto_first, stretches, tokens, without_return}
use Rattle.script_reader.proofs.ItemLemmas.{some_stretch}

-- each byte is at least the code of the digit 0, which is 48
abbrev pub AreHigh : List ℕ → Type 0
AreHigh [] = ⊤
AreHigh (x ∷ xs) = (48 ≤ x) × AreHigh xs

pub high_by_test : (xs : List ℕ) → list_all (λ x. nat_le 48 x) xs ≡ true → AreHigh xs
high_by_test [] passes = tt
high_by_test (x ∷ xs) passes = go (nat_le 48 x) refl passes (high_by_test xs)
  where
    go : (b : Bool) → nat_le 48 x ≡ b → (b && list_all (λ x. nat_le 48 x) xs) ≡ true → (list_all (λ x. nat_le 48 x) xs ≡ true → AreHigh xs)
        → AreHigh (x ∷ xs)
    go true is passes more = (grind (arith, nat_tests, is), more passes)
    go false is passes more = absurd (false≢true passes)

-- a token: at least one byte, and each is 48 or more (`AreHigh`)
abbrev pub IsToken : List ℕ → Type 0
IsToken [] = ⊥
IsToken (x ∷ xs) = AreHigh (x ∷ xs)

abbrev pub AreTokens : List (List ℕ) → Type 0
AreTokens [] = ⊤
AreTokens (t ∷ ts) = IsToken t × AreTokens ts

high_no_gap : (x : ℕ) → 48 ≤ x → is_gap x ≡ false
high_no_gap x high = grind (arith, nat_tests)

goes_on : (x y : ℕ) (more : List ℕ) → is_gap x ≡ false → is_gap y ≡ false → tokens (x ∷ y ∷ more) ≡ onto_first x (tokens (y ∷ more))
goes_on x y more first second =
    ap₂ (λ a b. if a then tokens (y ∷ more) else (if b then (x ∷ []) ∷ tokens (y ∷ more) else onto_first x (tokens (y ∷ more)))) first second

token_met : (x : ℕ) (t rest : List ℕ) → AreHigh (x ∷ t) → is_parted rest ≡ true → tokens ((x ∷ t) ++ rest) ≡ (x ∷ t) ∷ tokens rest
token_met x [] rest high parted = rw (high_no_gap x high.0, parted) refl
token_met x (y ∷ t) rest high parted =
    goes_on x y (t ++ rest) (high_no_gap x high.0) (high_no_gap y high.1.0) ∙ ap (onto_first x) (token_met y t rest high.1 parted)

parted_after : (ts : List (List ℕ)) → is_parted (after_spaces ts) ≡ true
parted_after [] = refl
parted_after (t ∷ ts) = refl

tokens_after : (ts : List (List ℕ)) → AreTokens ts → tokens (after_spaces ts) ≡ ts
tokens_after [] are = refl
tokens_after ([] ∷ ts) are = absurd are.0
tokens_after ((x ∷ t) ∷ ts) are = token_met x t (after_spaces ts) are.0 (parted_after ts) ∙ ap (λ l. (x ∷ t) ∷ l) (tokens_after ts are.1)

pub tokens_spaced : (ts : List (List ℕ)) → AreTokens ts → tokens (spaced ts) ≡ ts
tokens_spaced [] are = refl
tokens_spaced (t ∷ ts) are = tokens_after (t ∷ ts) are

-- each byte is at least the code of a space, which is 32
abbrev pub AreShown : List ℕ → Type 0
AreShown [] = ⊤
AreShown (x ∷ xs) = (32 ≤ x) × AreShown xs

shown_joined : (xs ys : List ℕ) → AreHigh xs → AreShown ys → AreShown (xs ++ ys)
shown_joined [] ys high shown = shown
shown_joined (x ∷ xs) ys high shown = (omega (arith, high.0), shown_joined xs ys high.1 shown)

token_high : (t : List ℕ) → IsToken t → AreHigh t
token_high [] is = tt
token_high (x ∷ xs) is = is

shown_after : (ts : List (List ℕ)) → AreTokens ts → AreShown (after_spaces ts)
shown_after [] are = tt
shown_after (t ∷ ts) are = (omega arith, shown_joined t (after_spaces ts) (token_high t are.0) (shown_after ts are.1))

pub shown_spaced : (ts : List (List ℕ)) → AreTokens ts → AreShown (spaced ts)
shown_spaced [] are = tt
shown_spaced (t ∷ ts) are = (shown_after (t ∷ ts) are).1

-- a line whose bytes are all spaces or greater has no carriage return
no_return_at : (xs : List ℕ) (k : ℕ) → AreShown xs → (slice_index xs k == 13) ≡ false
no_return_at [] k shown = refl
no_return_at (x ∷ xs) zero shown = grind (arith, nat_tests, shown.0)
no_return_at (x ∷ xs) (suc k) shown = no_return_at xs k shown.1

pub no_return : (line : List ℕ) → AreShown line → without_return line ≡ line
no_return line shown = rw (no_return_at line _ shown) refl

-- a line whose bytes are all spaces or greater ends at the line feed after it
stretch_cut : (line rest : List ℕ) → AreShown line → stretches (line ++ 10 ∷ rest) ≡ line ∷ stretches rest
stretch_cut [] rest shown = refl
stretch_cut (x ∷ line) rest shown =
    let other : (x == 10) ≡ false = grind (arith, nat_tests, shown.0) in
    rw (other, stretch_cut line rest shown.1) refl

pub line_cut : (line rest : List ℕ) (ended : Bool) → AreShown line → lines (line ++ 10 ∷ rest) ended ≡ line ∷ lines rest ended
line_cut line rest ended shown =
    let some = some_stretch rest in
    ap (lines_among ended) (stretch_cut line rest shown ∙ ap (λ l. line ∷ l) some.2)
    ∙ ap (λ l. line ∷ lines_among ended l) (sym some.2)
