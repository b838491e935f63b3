-- Mode `large` for the script loop: how a run over a heap of long objects begins, its runs over a script, and its state after an allocation failed.
use Rattle.std.specs.Prelude.{◌≡◌, true, List, Option, codes}
use Rattle.run_model.specs.Terms.{at_bound_one, empty, IsPaged, Item, Kind, Profile, Reply, said}
use Rattle.cf_model.specs.Steps.{IsOpeningOrder, IsOpeningWords, ordered_heap}
use Rattle.run_model.specs.Plays.{PlayRun}
use Rattle.script_loop.specs.Semantics.{Semantics}
use Rattle.script_loop.specs.Applying.{TurnsInPart}
use Rattle.large_objects.specs.Large.{KeepsParts}
use Rattle.large_session.specs.LargeRun.{IsGoingLarge, LargeRun, LargeStep}
use Rattle.large_objects.specs.LargeSteps.{IsShutLarge}

-- The run `new` after a `heap` line with the settings p: the heap is open over a manager of this kind, with these settings but always the bound 1. It has
-- no objects, and no id is live.
pub record BeginsLarge (kind : Kind) (p : Profile) (new : LargeRun) : Type 0 where
  pub ids : new.ids ≡ empty
  pub open_now : new.heap.is_open ≡ true
  pub none : new.heap.objects ≡ empty
  -- the inner manager is as `open_heap` of this kind leaves it: its words, its order, and all else
  pub words : IsOpeningWords kind (at_bound_one p) new.heap.inner.words
  pub order : IsOpeningOrder kind (at_bound_one p) new.heap.inner.order
  pub inner : new.heap.inner ≡ ordered_heap kind (at_bound_one p) new.heap.inner.words new.heap.inner.order
  pub parts : KeepsParts new.heap

-- the run begins as in `BeginsLarge`, and the reply to the `heap` line is `ok`
abbrev pub BeginsAtOne : Kind → Profile → Reply → LargeRun → Type 0
BeginsAtOne kind p reply new = BeginsLarge kind p new × (reply ≡ said (codes "ok"))

-- A run from a state (None before the `heap` line): the items may have these replies, one each, and lead to the new state.
abbrev pub RunsLarge : Kind → Option LargeRun → List Item → List Reply → Option LargeRun → Type 0
RunsLarge kind = PlayRun (BeginsAtOne kind) LargeStep

-- before the `heap` line no id is live, and the inner manager has pages
pub record IsFreshLarge (s : LargeRun) : Type 0 where
  pub ids : s.ids ≡ empty
  pub pages : IsPaged s.heap.inner.kind

-- an allocation failed: the heap is closed, its inner manager is unchanged or closed, and the session is unchanged
pub record LacksLarge (old new : LargeRun) : Type 0 where
  pub heap : IsShutLarge old.heap new.heap
  pub ids : new.ids ≡ old.ids

-- The relations of mode `large` for the script loop. The plan, which no item changes, is the kind of the inner manager.
abbrev pub large_heap : Semantics LargeRun Kind
large_heap = record {
  plan = λ s. s.heap.inner.kind;
  is_fresh = IsFreshLarge;
  is_going = IsGoingLarge;
  begins = BeginsAtOne;
  turns = LargeStep;
  turns_in_part = TurnsInPart LargeStep;
  lacks = LacksLarge;
}
