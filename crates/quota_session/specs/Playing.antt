-- Mode `quota` for the script loop: how a run over a heap that tasks share begins, its runs over a script, and the state after a failed allocation.
use Rattle.std.specs.Prelude.{◌≡◌, ⊤, List, Option, Some, codes, false}
use Rattle.run_model.specs.Terms.{at_bound_one, Item, Profile, Reply, said}
use Rattle.quota_heap.specs.State.{KeepsTasks, empty_state}
use Rattle.run_model.specs.Plays.{PlayRun}
use Rattle.script_loop.specs.Semantics.{Semantics}
use Rattle.script_loop.specs.Applying.{TurnsInPart}
use Rattle.quota_session.specs.QuotaRun.{IsGoingQuotas, QuotaRun, QuotaStep, first_session}

-- the run `new` after a `heap` line with the settings p: the heap has no objects and the settings p, but always the bound 1, and the session is new
pub record BeginsQuotas (p : Profile) (new : QuotaRun) : Type 0 where
  pub settings : new.settings ≡ Some (at_bound_one p)
  pub session : new.session ≡ first_session
  pub heap : new.heap ≡ empty_state (at_bound_one p)
  pub rules : KeepsTasks new.heap

-- the run begins as in `BeginsQuotas`, and the reply to the `heap` line is `ok`
abbrev pub BeginsTasks : Profile → Reply → QuotaRun → Type 0
BeginsTasks p reply new = BeginsQuotas p new × (reply ≡ said (codes "ok"))

-- A run from a state (None before the `heap` line): the items may have these replies, one each, and lead to the new state.
abbrev pub RunsQuotas : Option QuotaRun → List Item → List Reply → Option QuotaRun → Type 0
RunsQuotas = PlayRun BeginsTasks QuotaStep

-- an allocation failed at the `heap` line: the heap is closed, and the settings and the session are unchanged
pub record LacksQuotas (old new : QuotaRun) : Type 0 where
  pub closed : new.heap.is_open ≡ false
  pub settings : new.settings ≡ old.settings
  pub session : new.session ≡ old.session

-- mode `quota` for the script loop: how a run begins, what each command does, and the state after a failed allocation
abbrev pub quota_tasks : Semantics QuotaRun ⊤
quota_tasks = record {
  plan = λ s. tt;
  is_fresh = λ s. s.session ≡ first_session;
  is_going = IsGoingQuotas;
  begins = λ plan. BeginsTasks;
  turns = QuotaStep;
  turns_in_part = TurnsInPart QuotaStep;
  lacks = LacksQuotas;
}
