-- For the loop of `apply_commands` in mode `bench`: each turn applies one more command that the generator makes of the seed, and counts whether its reply is
-- good or a refusal.
use Rattle.std.proofs.Common.{◌≡◌, ◌∙◌, ◌+◌, ◌-◌, ◌<◌, ◌≤◌, ◌++◌, ℕ, suc, cond, List, [], ◌∷◌, map, Some, refl, sym, ap, ap₂, subst, arith, append_assoc, append-nil}
use Rattle.std.proofs.lemmas.List.{map-append}
use Rattle.std.proofs.lemmas.List.Sums.{sum_by_push}
use Rattle.run_model.specs.Terms.{asks, Command, Item, Reply, RunState}
use Rattle.cf_session.specs.Apply.{outcome_of}
use Rattle.cf_session.specs.declared.outcome.Outcome.{Outcome}
use Rattle.cf_session.specs.declared.outcome.Outcome.TheVariants.{Good, Refused, Other}
use Rattle.script_reader.specs.Generated.{generated}
use Rattle.run_model.proofs.CallerLemmas.{one_run, run_joined}
use Rattle.run_model.specs.Runs.{BeginsOne, Run, IsCommandStep}
use Rattle.top_call.specs.Bench.{IsAppliedTo, is_good, is_refusal}

-- if the generator returns one more command of the seed, the commands returned and those still to come are the same list as before
pub given_more : (all done : List Command) (at next n i : ℕ) (command : Command) → i < n
    → ((m : ℕ) → generated at (suc m) ≡ command ∷ generated next m) → all ≡ done ++ generated at (n - i)
    → all ≡ (done ++ command ∷ []) ++ generated next (n - (i + 1))
given_more all done at next n i command lt gives given =
    let left : n - i ≡ suc (n - (i + 1)) = omega (arith, lt) in
    given ∙ ap (λ m. done ++ generated at m) left ∙ ap (λ l. done ++ l) (gives (n - (i + 1)))
    ∙ sym (append_assoc done (command ∷ []) (generated next (n - (i + 1))))

-- after the last turn the generator has returned all commands
pub given_all : (all done : List Command) (at n i : ℕ) → n ≤ i → all ≡ done ++ generated at (n - i) → done ≡ all
given_all all done at n i past given =
    let left : n - i ≡ 0 = omega (arith, past) in
    sym (given ∙ ap (λ m. done ++ generated at m) left ∙ append-nil done)

-- no reply is both good and a refusal
pub one_at_most : (o : Outcome) → cond (is_good o) 1 0 + cond (is_refusal o) 1 0 ≤ 1
one_at_most Good = omega arith
one_at_most Refused = omega arith
one_at_most Other = omega arith

module _ (old mid new : RunState) (done : List Command) (command : Command) (reply : Reply) (outcome : Outcome) (ok refused ok2 refused2 : ℕ)
    (a : IsAppliedTo old done mid ok refused) (turn : IsCommandStep mid command reply new) (shown : outcome ≡ outcome_of reply)
    (ok_more : ok2 ≡ ok + cond (is_good outcome) 1 0) (refused_more : refused2 ≡ refused + cond (is_refusal outcome) 1 0) where
  joined : Run old.heap.kind (Some old) (map (λ c. asks c) done ++ asks command ∷ []) (a.replies ++ reply ∷ []) (Some new)
  joined = run_joined (BeginsOne old.heap.kind) IsCommandStep (Some old) (map (λ c. asks c) done) (asks command ∷ []) a.replies (reply ∷ []) (Some mid) (Some new) a.run
      (one_run (BeginsOne old.heap.kind) IsCommandStep (Some mid) (Some new) (asks command) reply (new, turn, refl))

  -- one more command was applied
  pub applied_more : IsAppliedTo old (done ++ command ∷ []) new ok2 refused2
  applied_more = record {
    replies = a.replies ++ reply ∷ [];
    run = subst (λ (l : List Item). Run old.heap.kind (Some old) l (a.replies ++ reply ∷ []) (Some new))
        (sym (map-append (λ (c : Command). asks c) done (command ∷ []))) joined;
    ok_are = ok_more ∙ ap₂ (λ m n. m + n) a.ok_are (ap (λ o. cond (is_good o) 1 0) shown)
        ∙ sym (sum_by_push (λ r. cond (is_good (outcome_of r)) 1 0) a.replies reply);
    refused_are = refused_more ∙ ap₂ (λ m n. m + n) a.refused_are (ap (λ o. cond (is_refusal o) 1 0) shown)
        ∙ sym (sum_by_push (λ r. cond (is_refusal (outcome_of r)) 1 0) a.replies reply);
  }

-- after the last turn all commands were applied
pub applied_all : (old new : RunState) (done all : List Command) (ok refused : ℕ) → done ≡ all → IsAppliedTo old done new ok refused
    → IsAppliedTo old all new ok refused
applied_all old new done all ok refused same a = subst (λ (commands : List Command). IsAppliedTo old commands new ok refused) same a
