-- The words of a region after all of them were replaced, as at the end of a loan, and after bytes were then written into some.
use Rattle.std.proofs.Common.{◌≡◌, ℕ, ◌+◌, ◌-◌, ◌^◌, ◌<◌, inl, inr, List, ◌++◌, length, get_or, refl, sym, ap, ◌∙◌, subst, arith}
use Rattle.std.proofs.lemmas.Bool.{cases_lt}
use Rattle.std.proofs.lemmas.List.{append-nil, drop_all, get_or_default}
use Rattle.std.specs.Prelude.{slice_index}
use Rattle.region.specs.Lending.{fit, with_words}
use Rattle.region.specs.Overwriting.{Overwrites}
use Rattle.region.proofs.CallerLemmas.{fit-words, fit_below, length-fit}

-- words that replace all words of a region are all its words then
pub all_replaced : (old new : List ℕ) → with_words old 0 (length old) new ≡ fit (length old) new
all_replaced old new = ap (λ (l : List ℕ). fit (length old) new ++ l) (drop_all (0 + length old) old (omega arith)) ∙ append-nil (fit (length old) new)

-- the words of a region replace themselves
pub same_words : (ws : List ℕ) → ((i d : ℕ) → i < length ws → get_or ws i d < 2 ^ 64) → with_words ws 0 (length ws) ws ≡ ws
same_words ws below = all_replaced ws ws ∙ fit-words (length ws) ws refl below

-- words of 64 bits, as many as there were, replace all words as they are
whole_again : (old new : List ℕ) → length new ≡ length old → ((k : ℕ) → slice_index new k < 2 ^ 64) → with_words old 0 (length old) new ≡ new
whole_again old new same below = all_replaced old new ∙ fit-words (length old) new same (λ i d lt. rw (get_or_default new i d 0 lt) (below i))

-- a region after all its words were replaced
module _ (old ws : List ℕ) where
  abbrev n : ℕ
  n = length old

  abbrev R : List ℕ
  R = with_words old 0 n ws

  pub long : length R ≡ n
  long = ap length (all_replaced old ws) ∙ length-fit n ws

  below : (k : ℕ) → slice_index R k < 2 ^ 64
  below k = subst (λ (l : List ℕ). slice_index l k < 2 ^ 64) (sym (all_replaced old ws)) (fit_below n ws k)

  -- and then bytes were written into some words
  module _ (new : List ℕ) (first count from : ℕ) (bytes : List ℕ) (o : Overwrites R new (record { from = first; count = count }) from bytes) where
    pub as_many : length new ≡ length old
    as_many = o.long ∙ long

    below_all : (i : ℕ) → slice_index new i < 2 ^ 64
    below_all i =
        elim (cases_lt i first) [
          | inl lt ↦ rw (o.others i (inl lt)) (below i)
          | inr ge ↦ elim (cases_lt i (first + count)) [
            | inl lt ↦ (let z : first + (i - first) ≡ i = omega arith in
                subst (λ (j : ℕ). slice_index new j < 2 ^ 64) z (o.small (i - first) (omega arith)))
            | inr past ↦ rw (o.others i (inr past)) (below i)
          ]
        ]

    -- the new words replace all words as they are
    pub again : with_words old 0 (length old) new ≡ new
    again = whole_again old new as_many below_all
