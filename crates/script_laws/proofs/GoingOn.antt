-- For the laws `a_run_can_always_go_on` and `one_output`: a run on one manager begins with any settings in range, stays in progress and can be continued.
use Rattle.std.proofs.Common.{◌≡◌, List, [], ◌∷◌, Option, Some, None, sym, ◌∙◌, ap, refl, subst, codes}
use Rattle.run_model.specs.Terms.{asks, bad, HeapState, IsGoing, Item, Kind, Reply, RunState, said, starts}
use Rattle.run_model.specs.Runs.{BeginsOne, ItemStep, Run, IsCommandStep}
use Rattle.run_model.proofs.CallerLemmas.{begins_going, step_going, step_same}
use Rattle.script_laws.specs.ValidItems.{IsRunOf}
use Rattle.script_laws.proofs.CommandAnswers.{begin_exists, step_exists}
use Rattle.script_laws.proofs.RunsExist.{CanGoOn}

-- after an item a run is still in progress
pub item_keeps : (kind : Kind) (old : Option RunState) (item : Item) (reply : Reply) (new : Option RunState) → IsRunOf kind old
    → ItemStep kind old item reply new → IsRunOf kind new
item_keeps kind old (starts p) reply new on step = subst (IsRunOf kind) (sym step.2)
    (ap (λ (h : HeapState). h.kind) (step.1.0).heap, begins_going kind p step.0 step.1.0)
item_keeps kind None (asks c) reply new on step = subst (IsRunOf kind) (sym step.1) tt
item_keeps kind (Some old) (asks c) reply new on step = subst (IsRunOf kind) (sym step.2)
    ((step_same old step.0 c reply (on.1).rules (step.1).step).kind ∙ on.0, step_going old step.0 c reply on.1 (step.1).step)
item_keeps kind old (bad n) reply new on step = subst (IsRunOf kind) (sym step.1) on

-- after a list of items a run is still in progress
pub run_keeps : (kind : Kind) (old : Option RunState) (items : List Item) (replies : List Reply) (new : Option RunState) → IsRunOf kind old
    → Run kind old items replies new → IsRunOf kind new
run_keeps kind old [] replies new on run = subst (IsRunOf kind) (sym run.1) on
run_keeps kind old (item ∷ rest) replies new on run = run_keeps kind run.0 rest run.2 new (item_keeps kind old item run.1 run.0 on run.3) run.5

-- a run of this kind begins, and each command has a step
pub kind_goes_on : (kind : Kind) → CanGoOn (BeginsOne kind) IsCommandStep
kind_goes_on kind = record {
  is_going = λ s. (s.heap.kind ≡ kind) × IsGoing s;
  begins_going = λ p reply s b. (ap (λ (h : HeapState). h.kind) (b.0).heap, begins_going kind p s b.0);
  still_going = λ old c reply new on can turn. (
    (step_same old new c reply (on.1).rules turn.step).kind ∙ on.0,
    step_going old new c reply on.1 turn.step,
  );
  begin_exists = λ p can. (let b = begin_exists kind p can in (said (codes "ok"), b.0, (b.1, refl)));
  step_exists = λ old c on can. step_exists old c on.1 can;
}
