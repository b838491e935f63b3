-- For `open_all`, which opens each manager of a list: a loop that changes one item after the other has changed the first i items (`Sweep`), stopped at one
-- (`Stops`), or changed all (`Pairwise`). Also (`on_err`): what always holds, holds if a result is an error.
use Rattle.std.proofs.Common.{◌≡◌, ◌≢◌, ℕ, ◌+◌, ◌<◌, List, length, get_or, set, arith, sym, ◌∙◌, subst, inl, inr}
use Rattle.std.proofs.lemmas.List.{get_or-set_same, get_or-set_other, length-set, get_or_default}
use Rattle.std.proofs.lemmas.Bool.{cases_lt}
use Rattle.std.specs.Prelude.{Result, Ok, Err, OnErr}
use Rattle.cf_model.specs.Loops.{Pairwise, Sweep, Stops}

module _ {X : Type 0} (R : X → X → Type 0) (xs ys : List X) (i : ℕ) (x y : X) (s : Sweep R xs ys i) (lt : i < length xs) (read : x ≡ get_or ys i x) where
  was : (d : X) → get_or xs i d ≡ x
  was d =
      let inside : i < length ys = omega (arith, s.count) in
      sym (read ∙ get_or_default ys i x d inside ∙ s.rest i d (omega arith))

  -- item i was x and becomes y
  pub sweep_more : R x y → Sweep R xs (set ys i y) (i + 1)
  sweep_more here = record {
    count = length-set ys i y ∙ s.count;
    done = λ k d e h. elim (cases_lt k i) [
      | inl l ↦ (let ne : k ≢ i = omega arith in rw (get_or-set_other ys i k y e ne) (s.done k d e l))
      | inr g ↦ (
          let is : k ≡ i = omega arith in
          let inside : i < length ys = omega (arith, s.count) in
          let w = was d in
          rw (is, get_or-set_same ys i y e inside, w) here)
    ];
    rest = λ k d h. get_or-set_other ys i k y d (omega arith) ∙ s.rest k d (omega arith);
  }

  -- the loop stops at item i
  pub sweep_stops : (S : X → X → Type 0) → S x y → Stops R S xs (set ys i y)
  sweep_stops S here = record {
    count = length-set ys i y ∙ s.count;
    at = i;
    within = lt;
    before = λ k d e h. (let ne : k ≢ i = omega arith in rw (get_or-set_other ys i k y e ne) (s.done k d e h));
    here = λ d e. (
        let inside : i < length ys = omega (arith, s.count) in
        let w = was d in
        rw (get_or-set_same ys i y e inside, w) here);
    behind = λ k d h. get_or-set_other ys i k y d (omega arith) ∙ s.rest k d (omega arith);
  }

  -- the loop ends at item i, and each later item is related to itself
  pub sweep_ends : ((z : X) → R z z) → R x y → Pairwise R xs (set ys i y)
  sweep_ends same here =
      let more = sweep_more here in
      record {
        count = more.count;
        each = λ k d e h. elim (cases_lt k (i + 1)) [
          | inl l ↦ more.done k d e l
          | inr g ↦ subst (R (get_or xs k d)) (get_or_default xs k d e h ∙ sym (more.rest k e g)) (same (get_or xs k d))
        ];
      }

-- a fact that always holds, holds at an error
pub on_err : {T E : Type 0} (r : Result T E) (P : Type 0) → P → OnErr r P
on_err (Ok x) P p = tt
on_err (Err e) P p = p
