-- Runs of a program on a manager with pages, as the trait `Manager` shows them: its calls with their results, refused ones too; and when none of them is
-- refused for space. `allowed` says which live objects the program may have.
use Rattle.std.specs.Prelude.{◌≡◌, ℕ, List, [], ◌∷◌, Err, None, Result, Some, replicate}
use Rattle.std.specs.FinMap.{empty, get, insert}
use Rattle.cf_base.specs.declared.results.AccessFault.{AccessFault}
use Rattle.cf_base.specs.declared.results.Freed.{Freed}
use Rattle.cf_base.specs.declared.results.Handle.{Handle}
use Rattle.cf_base.specs.declared.results.NotLive.{NotLive}
use Rattle.cf_base.specs.declared.results.Refusal.{Refusal}
use Rattle.cf_base.specs.declared.results.Refusal.TheVariants as refusal
use Rattle.cf_base.specs.declared.results.Resized.{Resized}
use Rattle.cf_base.specs.declared.results.ResizeFault.{ResizeFault}
use Rattle.cf_base.specs.declared.results.ResizeFault.TheVariants as resize
use Rattle.page_model.specs.Held.{Objects, Placed, objects}
use Rattle.page_model.specs.Steps.{Request, resized}
use Rattle.cf_model.specs.Rules.{IsPaged, KeepsRules}
use Rattle.cf_model.specs.State.{HeapState}
use Rattle.cf_model.specs.Steps.{IsFreeStep, IsMallocStep, IsResizeStep, IsWriteStep, Position}

-- a call of a manager, with its result
pub data AnsweredCall : Type 0 where
  malloc_with : (bytes : ℕ) (r : Result Handle Refusal) → AnsweredCall
  free_with : (h : ℕ) (r : Result Freed NotLive) → AnsweredCall
  resize_with : (asked : Request) (r : Result Resized ResizeFault) → AnsweredCall
  write_with : (at : Position) (bytes : List ℕ) (r : Result Unit AccessFault) → AnsweredCall

-- the call may get its result and lead from the state `old` to `new`
abbrev pub Leads : HeapState → AnsweredCall → HeapState → Type 0
Leads old (malloc_with bytes r) new = IsMallocStep old bytes r new
Leads old (free_with h r) new = IsFreeStep old h r new
Leads old (resize_with asked r) new = IsResizeStep old asked r new
Leads old (write_with at bytes r) new = IsWriteStep old at bytes r new

-- from the state s the calls, one after the other, may lead to `last`; after each the live objects are allowed
abbrev pub HeapRun : (Objects → Type 0) → HeapState → List AnsweredCall → HeapState → Type 0
HeapRun allowed s [] last = last ≡ s
HeapRun allowed s (call ∷ rest) last = (next : HeapState) × Leads s call next × allowed (objects next.held) × HeapRun allowed next rest last

-- a manager with pages that keeps its rules and has no objects, such as one that was just opened
pub record IsFresh (s : HeapState) : Type 0 where
  pub pages : IsPaged s.kind
  pub rules : KeepsRules s
  pub none : s.held ≡ empty

-- whatever the program called from the state s on, in whatever order, no allowed malloc is refused for space
abbrev pub ServesHeapMallocs : (Objects → Type 0) → HeapState → Type 0
ServesHeapMallocs allowed s = (calls : List AnsweredCall) (last new : HeapState) (n : ℕ) → HeapRun allowed s calls last
    → ((h : ℕ) → get last.held h ≡ None → allowed (insert (objects last.held) h (replicate n 0)))
    → ¬ IsMallocStep last n (Err refusal.Space) new

-- whatever the program called from the state s on, in whatever order, no allowed resize is refused for space
abbrev pub ServesHeapResizes : (Objects → Type 0) → HeapState → Type 0
ServesHeapResizes allowed s = (calls : List AnsweredCall) (last new : HeapState) (asked : Request) → HeapRun allowed s calls last
    → ((x : Placed) → get last.held asked.number ≡ Some x → allowed (insert (objects last.held) asked.number (resized x.bytes asked.length)))
    → ¬ IsResizeStep last asked (Err resize.Space) new
