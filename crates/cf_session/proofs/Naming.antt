-- For `Namer` of a session: from the steps of the commands `m`, `w` and `f` to what the calls of a `Namer` do.
use Rattle.std.proofs.Common.{◌≡◌, ◌≢◌, ◌∙◌, ◌+◌, ℕ, Bool, true, false, List, Option, Some, None, length, refl, ap, sym, subst, Result, Ok, Err, is_ok}
use Rattle.std.specs.Bool.{OnFalse, OnTrue}
use Rattle.run_model.specs.Terms.{AccessFault, Free, get, Handle, Malloc, Refusal, Reply, RunState, said, Write}
use Rattle.cf_base.specs.declared.results.Refusal.TheVariants as refusal
use Rattle.cf_model.specs.Steps.{IsWriteStep, WritesBytes}
use Rattle.id_table.specs.Named.{FreesNamed, HasBytes, MakesNamed, WritesNamed}
use Rattle.id_table.proofs.CallerLemmas.{no_fault}
use Rattle.run_model.specs.Replies.{malloc_text}
use Rattle.run_model.specs.Steps.{Frees, Mallocs, Step, Writes}
use Rattle.run_model.proofs.CallerLemmas.{FreesAt, MallocsAt, WritesAt}
use Rattle.cf_session.specs.Apply.{outcome_of}
use Rattle.cf_session.specs.declared.outcome.Outcome.{Outcome}
use Rattle.cf_session.specs.declared.outcome.Outcome.TheVariants.{Good, Refused}

-- the outcome of a malloc's reply is `Good` if and only if the manager made the object
is_made : (b : Bool) (outcome : Outcome) (answer : Result Handle Refusal) → OnTrue b (outcome ≡ Good) → OnFalse b (outcome ≢ Good)
    → outcome ≡ outcome_of (said (malloc_text answer)) → b ≡ is_ok answer
is_made true outcome (Ok h) good other shown = refl
is_made false outcome (Ok h) good other shown = absurd (other shown)
is_made true outcome (Err refusal.Size) good other shown = absurd (let z : Good ≡ Refused = sym good ∙ shown in cc)
is_made true outcome (Err refusal.Proxy) good other shown = absurd (let z : Good ≡ Refused = sym good ∙ shown in cc)
is_made true outcome (Err refusal.Space) good other shown = absurd (let z : Good ≡ Refused = sym good ∙ shown in cc)
is_made false outcome (Err e) good other shown = refl

module _ (old new : RunState) (reply : Reply) (id : ℕ) where
  pub makes_named : (n : ℕ) (b : Bool) (outcome : Outcome) → get old.session.ids id ≡ None → Step old (Malloc id n) reply new → OnTrue b (outcome ≡ Good)
      → OnFalse b (outcome ≢ Good) → outcome ≡ outcome_of reply → MakesNamed old id n b new
  makes_named n b outcome none step good other shown =
      let mallocs : Mallocs old (record { number = id; length = n }) reply new =
      subst (λ (k : Option ℕ). MallocsAt k old (record { number = id; length = n }) reply new) none step in
      record {
        answer = mallocs.answer;
        step = mallocs.step;
        session = mallocs.session;
        made_if = is_made b outcome mallocs.answer good other (shown ∙ ap outcome_of mallocs.reply_is);
      }

  pub frees_named : (h : (h : ℕ) × (get old.session.ids id ≡ Some h)) → Step old (Free id) reply new → FreesNamed old id new
  frees_named h step =
      let frees : Frees old (record { id = id; number = h.0 }) reply new = subst (λ (k : Option ℕ). FreesAt k old id reply new) h.1 step in
      record { number = h.0; named = h.1; freed = frees.freed; step = frees.step; session = frees.session }

  module _ (at : ℕ) (bytes : List ℕ) (has : HasBytes old id (at + length bytes)) where
    wrote : (answer : Result Unit AccessFault) → IsWriteStep old.heap (record { number = has.number; from = at }) bytes answer new.heap
        → WritesBytes old.heap (record { number = has.number; from = at }) bytes new.heap
    wrote (Ok u) step = step
    wrote (Err e) step = no_fault old id at (length bytes) has e step.0

    pub writes_named : Step old (Write id at bytes) reply new → WritesNamed old id at bytes new
    writes_named step =
        let writes : Writes old (record { number = has.number; from = at }) bytes reply new =
        subst (λ (k : Option ℕ). WritesAt k old at bytes reply new) has.named step in
        record { number = has.number; named = has.named; step = wrote writes.answer writes.step; session = writes.session }
