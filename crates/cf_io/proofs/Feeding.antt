-- Bytes that are written, taken or counted in two calls, one after the other, are those of both together; a call of no bytes; the faults of a source or sink
-- over several calls of which only the last may fail; and what may follow the bytes that were taken.
use Rattle.std.proofs.Common.{◌≡◌, ◌++◌, ◌∙◌, Bool, List, ℕ, Option, None, Some, true, false, refl, ap, sym, subst, ◌+◌, append_assoc, append-nil, take, drop, min, arith, inl, inr}
use Rattle.std.proofs.Math.Seq.{take-add}
use Rattle.std.proofs.lemmas.Bool.{cases_lt}
use Rattle.std.specs.Prelude.{[]}
use Rattle.cf_io.specs.Feeds.{FailsIf, HasGiven, IsSpent, MayFollow, SinkState, WritesAll, appended, last_count, preceded}

pub appended_then : (w : Option (List ℕ)) (a b : List ℕ) → appended (appended w a) b ≡ appended w (a ++ b)
appended_then None a b = refl
appended_then (Some w) a b = ap Some (append_assoc w a b)

preceded_then : (a b : List ℕ) (r : Option (List ℕ)) → preceded a (preceded b r) ≡ preceded (a ++ b) r
preceded_then a b None = refl
preceded_then a b (Some r) = ap Some (sym (append_assoc a b r))

pub appended_after : (w x y : Option (List ℕ)) (a b : List ℕ) → x ≡ appended w a → y ≡ appended x b → y ≡ appended w (a ++ b)
appended_after w x y a b first next = next ∙ ap (λ (o : Option (List ℕ)). appended o b) first ∙ appended_then w a b

pub appended_none : (w : Option (List ℕ)) → w ≡ appended w []
appended_none None = refl
appended_none (Some w) = ap Some (sym (append-nil w))

-- a fault, or none, after calls without one
pub fails_after : (failed : Bool) (f0 f1 f2 : ℕ) (last : Bool) → f1 ≡ f0 → FailsIf failed f1 f2 last → FailsIf failed f0 f2 last
fails_after failed f0 f1 f2 last same fails = subst (λ n. FailsIf failed n f2 last) same fails

pub writes_none : (w : SinkState) → WritesAll w [] w
writes_none w = record { wrote = appended_none w.written; same = refl }

-- after one more chunk the first i + n bytes are written
pub writes_more : (w x y : SinkState) (bytes : List ℕ) (i n : ℕ) → WritesAll w (take i bytes) x → WritesAll x (take n (drop i bytes)) y
    → WritesAll w (take (i + n) bytes) y
writes_more w x y bytes i n first next =
    record { wrote = appended_after _ _ _ _ _ first.wrote next.wrote ∙ ap (appended w.written) (sym (take-add i n bytes)); same = next.same ∙ first.same }

pub given_min : (g0 g2 n : ℕ) → g2 ≡ min (g0 + n) last_count → HasGiven g0 n g2
given_min g0 g2 n is = elim (cases_lt (g0 + n) last_count) [
  | inl less ↦ inl (omega (arith, is, less))
  | inr more ↦ inr (omega (arith, is, more))
]

-- if the source's count rose by a (or saturated) and then by n, it rose by b = a + n (or is saturated)
pub given_more : (g0 g1 g2 a n b : ℕ) → HasGiven g0 a g1 → g2 ≡ min (g1 + n) last_count → b ≡ a + n → HasGiven g0 b g2
given_more g0 g1 g2 a n b (inl just) next sum = given_min g0 g2 b (let e : g1 + n ≡ g0 + b = omega (arith, just, sum) in next ∙ ap (λ k. min k last_count) e)
given_more g0 g1 g2 a n b (inr last) next sum = inr (omega (arith, last, next))

pub given_none : (g0 g1 g2 a : ℕ) → HasGiven g0 a g1 → HasGiven g1 0 g2 → HasGiven g0 a g2
given_none g0 g1 g2 a (inl just) (inl same) = inl (omega (arith, just, same))
given_none g0 g1 g2 a (inr last) (inl same) = inr (omega (arith, last, same))
given_none g0 g1 g2 a so_far (inr last) = inr last

pub preceded_after : (x y z : Option (List ℕ)) (a b : List ℕ) → x ≡ preceded a y → y ≡ preceded b z → x ≡ preceded (a ++ b) z
preceded_after x y z a b first next = first ∙ ap (preceded a) next ∙ preceded_then a b z

pub preceded_none : (r : Option (List ℕ)) → r ≡ preceded [] r
preceded_none None = refl
preceded_none (Some r) = refl

pub nothing_taken : (x y : Option (List ℕ)) (bytes : List ℕ) (n : ℕ) → n ≡ 0 → x ≡ preceded (take n bytes) y → x ≡ y
nothing_taken x y bytes n none e = e ∙ ap (λ k. preceded (take k bytes) y) none ∙ sym (preceded_none y)

-- after the end of the source no bytes may follow
pub nothing_follows : (rest : Option (List ℕ)) (more : List ℕ) → IsSpent rest → MayFollow rest true more → more ≡ []
nothing_follows None more spent follows = follows
nothing_follows (Some left) more spent follows = follows ∙ spent

-- of a source that isn't observable no byte need follow
pub nothing_may_follow : (ended : Bool) → MayFollow None ended []
nothing_may_follow true = refl
nothing_may_follow false = tt
