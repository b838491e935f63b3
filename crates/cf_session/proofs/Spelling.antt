-- For `spell_bytes`, which fills a buffer in turn with the lead, `=`, hexadecimal digits and a line feed: the buffer then begins with the reply to the read.
use Rattle.std.proofs.Common.{◌≡◌, ◌∙◌, ◌+◌, ◌≤◌, ◌++◌, ℕ, List, [], ◌∷◌, length, take, drop, slice_set, refl, sym, ap, ap₂, arith, append_assoc, append-nil, length-append}
use Rattle.std.proofs.Math.Seq.{take-append_seam}

-- if a text begins with the lead, `=` (61), the digits and a line feed (10), its first bytes, without `rest`, are this line
pub spelled : (lead digits rest : List ℕ) (n : ℕ) → n ≡ length digits
    → take (length lead + n + 2) (lead ++ 61 ∷ (digits ++ 10 ∷ rest)) ≡ (lead ++ 61 ∷ (digits ++ 10 ∷ [])) ++ []
spelled lead digits rest n is =
    let text : List ℕ = lead ++ 61 ∷ (digits ++ 10 ∷ []) in
    let long : length lead + n + 2 ≡ length text = (
    let a = length-append lead (61 ∷ (digits ++ 10 ∷ [])) in
    let b = length-append digits (10 ∷ []) in
    omega (arith, a, b, is)
    ) in
    let parts : lead ++ 61 ∷ (digits ++ 10 ∷ rest) ≡ text ++ rest =
    sym (append_assoc lead (61 ∷ (digits ++ 10 ∷ [])) rest ∙ ap (λ l. lead ++ 61 ∷ l) (append_assoc digits (10 ∷ []) rest)) in
    ap₂ take long parts ∙ take-append_seam text rest ∙ sym (append-nil text)

-- setting the first element of a list replaces it
pub set_first : (xs : List ℕ) (v : ℕ) → 1 ≤ length xs → slice_set xs 0 v ≡ v ∷ drop 1 xs
set_first [] v some = absurd (omega (arith, some))
set_first (x ∷ xs) v some = refl

pub set_only : (xs : List ℕ) (v : ℕ) → length xs ≡ 1 → slice_set xs 0 v ≡ v ∷ []
set_only [] v one = absurd (omega (arith, one))
set_only (x ∷ []) v one = refl
set_only (x ∷ y ∷ xs) v one = absurd (omega (arith, one))
