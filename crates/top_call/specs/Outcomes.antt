-- What a call of each mode of this crate did (of modes `slice` and `quota` in `TopOutcome`). A record for each mode relates three things: the source, the sink
-- and the managers before the call (`old`), its status, and the same devices and managers after it (`new`). `EndsWithCause` adds that kinds and promises of an
-- order stay, and the causes of the status. `EndsWhole` has the statuses of a call that did all, or lacked memory.
use Rattle.std.specs.Prelude.{◌≡◌, ◌⊎◌, Bool, IsSome, List, None, is_some, map}
use Rattle.run_model.specs.Terms.{closed_state, fresh_session, HeapState, Kind, Moving, RunState, SinkState, SourceState, Status}
use Rattle.cf_base.specs.declared.status.Status.TheVariants.{Done, OutOfMemory}
use Rattle.cf_io.specs.declared.sink.Sink as sink
use Rattle.cf_io.specs.declared.source.Source as source
use Rattle.cf_model.specs.Ordered.{KeepsPromise}
use Rattle.top_call.specs.declared.choice.Choice.{Choice}
use Rattle.top_call.specs.Bench.{EndsBench}
use Rattle.cf_session.specs.Apply.{run_at}
use Rattle.script_loop.specs.OneManager.{one_manager}
use Rattle.script_loop.specs.ScriptOutcome.{Effects, HasCauses, MeetsOutcome, effects}
use Rattle.script_loop.specs.Semantics.{Semantics}
use Rattle.top_call.specs.Loads.{EndsLoad}
use Rattle.top_call.specs.Saves.{EndsSave}
use Rattle.large_session.specs.LargeRun.{LargeRun}
use Rattle.large_session.specs.Playing.{IsFreshLarge, large_heap}
use Rattle.top_call.specs.FirstOfKind.{chosen_manager, first_of_kind, with_chosen_manager}
use Rattle.top_call.specs.SideBySide.{SideBySide, fresh_side_by_side, many_managers}

-- what a call works on: the state of its source, that of its sink, and those of the managers that it is given, in order
pub record CallState : Type 0 where
  pub source : SourceState
  pub sink : SinkState
  pub managers : List HeapState

-- the record `CallState` of a source, a sink and managers
abbrev pub call_state : SourceState → SinkState → List HeapState → CallState
call_state source sink managers = record { source = source; sink = sink; managers = managers }

-- what contracts see of a source `s`, a sink `k` and managers `hs`; the first two arguments have the functions that show it for the types of `s` and `k`, and
-- `state` is the state of a manager
abbrev pub call_seen : {S K H : Type 0} → source.Ghosts S → sink.Ghosts K → (H → HeapState) → S → K → List H → CallState
call_seen S K state s k hs = call_state (S.state s) (K.state k) (map (λ h. state h) hs)

-- the status of a call, and what it did to the bytes of its source and its sink
abbrev pub effects_of : CallState → Status → CallState → Effects
effects_of old status new = effects old.source old.sink status new.source new.sink

-- Mode `run`: the script ran on the first manager of the kind, which is now in the last state `end` of the run; no other manager changes. If none is of the
-- kind, it ran on a manager made for it. `promise`: the manager promises an order at the end if and only if it did before; one made for the script does.
pub record RunsChosen (kind : Kind) (old : CallState) (status : Status) (new : CallState) : Type 0 where
  pub end : RunState
  pub outcome : MeetsOutcome one_manager (run_at fresh_session (chosen_manager kind old.managers)) (effects_of old status new) end
  pub stand : new.managers ≡ with_chosen_manager kind old.managers end.heap
  pub promise : KeepsPromise (chosen_manager kind old.managers) end.heap

-- Mode `compare`: the script ran on each manager, which is now in the last state of its own run (`end` holds all of them). Each command has the replies of all
-- managers, in their order.
pub record Compares (old : CallState) (status : Status) (new : CallState) : Type 0 where
  pub end : SideBySide
  pub outcome : MeetsOutcome many_managers (fresh_side_by_side old.managers) (effects_of old status new) end
  pub stand : new.managers ≡ end.heaps

-- Mode `bench`: the commands generated from the seed ran on a manager made for them, up to the state `end`, and the counts are printed, as `EndsBench` says for
-- the status. That manager promises an order. Nothing is read, and no given manager changes.
pub record Benches (choice : Choice) (old : CallState) (status : Status) (new : CallState) : Type 0 where
  pub end : RunState
  pub outcome : EndsBench status choice.seed choice.count (run_at fresh_session (closed_state choice.kind)) end old.sink.written new.sink.written
  pub ordered : IsSome end.heap.order
  pub unread : new.source ≡ old.source
  pub untouched : new.managers ≡ old.managers

-- A mode that runs a script on a heap of its own. `S` is the type of the states of a run, and `m` says what each item does. The run begins in a state `begin`,
-- of which `IsMade` holds, since the mode made its heap and session; it ends in `end`. No given manager changes.
pub record PlaysOwn {S P : Type 0} (m : Semantics S P) (IsMade : S → Type 0) (old : CallState) (status : Status) (new : CallState) : Type 0 where
  pub begin : S
  pub made : IsMade begin
  pub end : S
  pub outcome : MeetsOutcome m begin (effects_of old status new) end
  pub untouched : new.managers ≡ old.managers

-- the state of a new run with long objects: no id is live, and the inner heap is a moving manager that was never open
pub record IsMadeLarge (s : LargeRun) : Type 0 where
  pub fresh : IsFreshLarge s
  pub inner : s.heap.inner ≡ closed_state Moving

-- Mode `large`: a script whose objects may be larger than a page ran on a heap of long objects that was made for it.
abbrev pub PlaysLarge : CallState → Status → CallState → Type 0
PlaysLarge = PlaysOwn large_heap IsMadeLarge

-- Mode `save`: the script ran on a moving manager made for it, up to the state `end`, and its replies were not printed; the objects live at the end were
-- written as an image, as `EndsSave` says for the status. That manager promises an order. No given manager changes.
pub record Saves (old : CallState) (status : Status) (new : CallState) : Type 0 where
  pub end : RunState
  pub outcome : EndsSave (run_at fresh_session (closed_state Moving)) (effects_of old status new) end
  pub ordered : IsSome end.heap.order
  pub untouched : new.managers ≡ old.managers

-- Mode `load`: an image was read into a moving manager made for it, up to the state `end`, and a script that makes its objects was printed, or a line
-- `bad image`, or nothing, as `EndsLoad` says for the status. No given manager changes.
pub record Loads (old : CallState) (status : Status) (new : CallState) : Type 0 where
  pub end : RunState
  pub outcome : EndsLoad (run_at fresh_session (closed_state Moving)) (effects_of old status new) end
  pub untouched : new.managers ≡ old.managers

-- `Does`, the record of the mode, holds; but with the status `OutOfMemory` nothing was written, and either the call changed nothing at all or `Does` holds.
abbrev pub OrLacks : (CallState → Status → CallState → Type 0) → CallState → Status → CallState → Type 0
OrLacks Does old OutOfMemory new = (new.sink.written ≡ old.sink.written) × ((new ≡ old) ⊎ Does old OutOfMemory new)
OrLacks Does old status new = Does old status new

-- the kind of each manager that a call works on
abbrev pub kinds_in : CallState → List Kind
kinds_in h = map (λ m. m.kind) h.managers

-- for each manager that a call works on, whether it promises an order
abbrev pub orders_in : CallState → List Bool
orders_in h = map (λ m. is_some m.order) h.managers

-- A call did what its mode asks (`Does`), kept the managers' kinds and promises of an order, and its status has its causes.
pub record EndsWithCause (Does : CallState → Status → CallState → Type 0) (old : CallState) (status : Status) (new : CallState) : Type 0 where
  pub outcome : OrLacks Does old status new
  pub kinds : kinds_in new ≡ kinds_in old
  pub orders : orders_in new ≡ orders_in old
  pub causes : HasCauses old.source old.sink status new.source new.sink

-- `EndsWithCause` for a mode that is given no managers, with any list of managers that the call doesn't touch; `source'` and `sink'` are the states after the call
abbrev pub EndsBeside : (CallState → Status → CallState → Type 0) → SourceState → SinkState → Status → SourceState → SinkState → Type 0
EndsBeside Does source sink status source' sink' = (managers : List HeapState) → EndsWithCause Does (call_state source sink managers) status (call_state source' sink' managers)

-- `EndsWithCause` for mode `run` on a manager made for the script, with any list of managers of which none is of the kind; the call doesn't touch them
abbrev pub RunsOwn : Kind → SourceState → SinkState → Status → SourceState → SinkState → Type 0
RunsOwn kind source sink status source' sink' = (managers : List HeapState) → first_of_kind kind managers ≡ None
    → EndsWithCause (RunsChosen kind) (call_state source sink managers) status (call_state source' sink' managers)

-- the status is `Done` (the call did all that the mode asks) or `OutOfMemory`
abbrev pub EndsWhole : Status → Type 0
EndsWhole status = (status ≡ Done) ⊎ (status ≡ OutOfMemory)
