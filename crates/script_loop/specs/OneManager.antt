-- The semantics of mode `run`: which replies the session over one manager may write, and to which states they lead.
use Rattle.std.specs.Prelude.{◌≡◌, Bool, is_some}
use Rattle.run_model.specs.Terms.{fresh_session, IsGoing, Kind, RunState}
use Rattle.cf_session.specs.Apply.{LacksOne}
use Rattle.run_model.specs.Runs.{BeginsOne, IsCommandStep}
use Rattle.script_loop.specs.Applying.{TurnsInPart}
use Rattle.script_loop.specs.Semantics.{Semantics}

-- The semantics of a session over one manager. The plan, which no item changes, is the manager's kind, and whether it promises an order.
abbrev pub one_manager : Semantics RunState (Kind × Bool)
one_manager = record {
  plan = λ s. (s.heap.kind, is_some s.heap.order);
  is_fresh = λ s. s.session ≡ fresh_session;
  is_going = IsGoing;
  begins = λ plan. BeginsOne plan.0;
  turns = IsCommandStep;
  turns_in_part = TurnsInPart IsCommandStep;
  lacks = LacksOne;
}
