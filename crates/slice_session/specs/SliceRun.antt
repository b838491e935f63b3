-- A session over a sliced heap: its state, the calls of its heap, and for each command the reply, the state after it, and the most steps.
use Rattle.std.specs.Prelude.{◌≡◌, ℕ, ◌+◌, IsTrue, List, Option, Some, None, Result, Ok, Err, codes, length, slice_get}
use Rattle.run_model.specs.Terms.{Command, Handle, Ids, objects, Reply, said, with_number}
use Rattle.cf_base.specs.declared.results.Refusal.TheVariants as shown
use Rattle.cf_model.specs.Costs.{words_touched}
use Rattle.script_laws.specs.ObjectRun.{Calls, IsGoingObjects, ObjectRun, ObjectStep, object_run}
use Rattle.run_model.specs.Replies.{malloc_text, peek_text}
use Rattle.run_model.specs.Steps.{Stays}
use Rattle.script_reader.specs.declared.command.Command.TheVariants as command
use Rattle.slice_model.specs.Ordered.{HappensInOrder}
use Rattle.slice_model.specs.Runs.{Event, Happens, Malloc, Free, Step, Write}
use Rattle.slice_model.specs.State.{left_of}
use Rattle.slice_model.specs.declared.refusals.SliceFault.{SliceFault}
use Rattle.slice_model.specs.declared.refusals.SliceFault.TheVariants as fault
use Rattle.slice_model.specs.declared.refusals.SliceRefusal.{SliceRefusal}
use Rattle.slice_model.specs.declared.refusals.SliceRefusal.TheVariants as refusal
use Rattle.sliced_heap.specs.Access.{access_fault}
use Rattle.sliced_heap.specs.Shown.{KeepsSlicedRules, SlicedState, StaysSlicedOpen, plan_in, working_in}

-- the live ids with the handles that they name, and the heap
abbrev pub SliceRun : Type 0
SliceRun = ObjectRun SlicedState

-- the run with these live ids on this heap
abbrev pub slice_run : Ids → SlicedState → SliceRun
slice_run ids heap = object_run ids heap

-- the reply to `m`: as on every manager, and `busy` if the heap refuses because of the pending job
abbrev pub slice_malloc_text : Result Handle SliceRefusal → List ℕ
slice_malloc_text (Ok h) = malloc_text (Ok h)
slice_malloc_text (Err refusal.Size) = malloc_text (Err shown.Size)
slice_malloc_text (Err refusal.Proxy) = malloc_text (Err shown.Proxy)
slice_malloc_text (Err refusal.Space) = malloc_text (Err shown.Space)
slice_malloc_text (Err refusal.Busy) = codes "busy"

-- the reply to `f`, by the heap's fault; None if the object was freed
abbrev pub slice_free_text : Option SliceFault → List ℕ
slice_free_text None = codes "ok"
slice_free_text (Some fault.Unknown) = codes "unknown"
slice_free_text (Some fault.Busy) = codes "busy"

-- The heap did this call, `event`: its objects, job and words change as in `Happens`, its order as in `HappensInOrder`, and it stays open with its settings
-- and its quantum.
pub record DoesEvent (old : SlicedState) (event : Event) (new : SlicedState) : Type 0 where
  pub happens : Happens (plan_in old) (working_in old) event (working_in new)
  pub ordered : HappensInOrder (plan_in old) (working_in old) event (working_in new) old.order new.order
  pub stays : StaysSlicedOpen old new

-- the heap is open and keeps its rules
pub record IsReadySliced (s : SlicedState) : Type 0 where
  pub opened : IsTrue s.is_open
  pub rules : KeepsSlicedRules s

-- `s`: the heap does a slice of the pending job, if there is one; the reply is `left` and the words that a job then has still to do, 0 if none is pending
pub record StepsSliced (old : SliceRun) (reply : Reply) (new : SliceRun) : Type 0 where
  pub does : DoesEvent old.heap Step new.heap
  pub ids : new.ids ≡ old.ids
  pub reply_is : reply ≡ said (with_number (codes "left ") (left_of (plan_in new.heap) (working_in new.heap).state))

-- each command but `m`, `f`, `w`, `r` and `z`: `s`; `p`, whose reply is a word of the region, or `range`; and those of other modes, with the reply `none`
abbrev pub OthersSliced : SliceRun → Command → Reply → SliceRun → Type 0
OthersSliced old command.Slice reply new = StepsSliced old reply new
OthersSliced old (command.Peek word) reply new = Stays old (peek_text (slice_get old.heap.words word)) reply new
OthersSliced old other reply new = Stays old (codes "none") reply new

-- the calls of a sliced heap
abbrev pub sliced_calls : Calls SlicedState SliceRefusal SliceFault
sliced_calls = record {
  is_ready = IsReadySliced;
  objects = λ s. objects s.held;
  mallocs = λ old bytes answer new. DoesEvent old (Malloc bytes answer) new;
  frees = λ old h fault new. DoesEvent old (Free h fault) new;
  writes = λ old position bytes answer new. DoesEvent old (Write (record { number = position.number; from = position.from }) bytes (access_fault answer)) new;
  malloc_text = slice_malloc_text;
  free_text = slice_free_text;
  others = OthersSliced;
}

-- a state of a run: the heap is ready, and the ids name its objects, each once
abbrev pub IsGoingSliced : SliceRun → Type 0
IsGoingSliced = IsGoingObjects sliced_calls

-- One command: the run before it, its reply, and the run after it.
abbrev pub SliceStep : SliceRun → Command → Reply → SliceRun → Type 0
SliceStep = ObjectStep sliced_calls

-- The most steps of a command, with slices of at most `quantum` words. Only the heap's call takes steps.
abbrev pub most_steps : ℕ → Command → ℕ
most_steps quantum (command.Malloc id bytes) = 17
most_steps quantum (command.Free id) = 23 + quantum
most_steps quantum command.Slice = 15 + quantum
most_steps quantum (command.Write id from bytes) = 2 + words_touched from (length bytes)
most_steps quantum (command.Read id from count) = 2 + words_touched from count
most_steps quantum (command.Peek word) = 1
most_steps quantum other = 0
