-- What each command does to the state of a run, and its reply. In each definition `old` is the state before the command, `new` the state after it, and `answer`
-- the result of the manager's call. `ordered` fixes what the call uses, if the manager promises an order. `cost` bounds the steps of the call: its first number
-- is the bound with pages, the second, if there is one, with blocks.
use Rattle.std.specs.Prelude.{◌≡◌, ℕ, List, Option, Some, None, Result, Ok, Err, codes, if◌then◌else◌, nat_eq}
use Rattle.std.specs.Option.{MatchOption}
use Rattle.std.specs.FinMap.{get, len, remove}
use Rattle.cf_base.specs.declared.results.AccessFault.{AccessFault}
use Rattle.cf_base.specs.declared.results.Freed.{Freed}
use Rattle.cf_base.specs.declared.results.Handle.{Handle}
use Rattle.cf_base.specs.declared.results.Refusal.{Refusal}
use Rattle.cf_base.specs.declared.results.Resized.{Resized}
use Rattle.cf_base.specs.declared.results.ResizeFault.{ResizeFault}
use Rattle.page_model.specs.Steps.{Request}
use Rattle.cf_model.specs.Answers.{with_bound, class_with}
use Rattle.cf_model.specs.Costs.{block_free_bound, free_bound, resize_bound}
use Rattle.cf_model.specs.declared.manager.TheConstants.{MALLOC_BOUND}
use Rattle.cf_model.specs.Ordered.{IsOrderedFree, IsOrderedMalloc, IsOrderedResize}
use Rattle.cf_model.specs.Rules.{KeepsRules}
use Rattle.cf_model.specs.State.{HeapState}
use Rattle.cf_model.specs.Steps.{FreesObject, IsMallocStep, IsResizeStep, IsWriteStep, Position}
use Rattle.script_reader.specs.declared.command.Command.{Command}
use Rattle.script_reader.specs.declared.command.Command.TheVariants.{Malloc, Free, Write, Bound, Resize}
use Rattle.run_model.specs.Replies.{malloc_text, resize_text, shown, write_text}
use Rattle.run_model.specs.Sessions.{CostsAtMost, CostsByKind, RunState, SessionState, counted}
use Rattle.run_model.specs.Texts.{Reply, said}
pub use Rattle.id_table.specs.Named.{ids_given}

-- the command changes nothing of the state, of whatever type S it is, and its reply is the one line `text`
abbrev pub Stays : {S : Type 0} → S → List ℕ → Reply → S → Type 0
Stays old text reply new = (reply ≡ said text) × (new ≡ old)

-- a malloc of `asked.length` bytes for the id `asked.number`, which isn't live; `step` doesn't name the words that change: `rules` relates them to the objects
pub record Mallocs (old : RunState) (asked : Request) (reply : Reply) (new : RunState) : Type 0 where
  pub answer : Result Handle Refusal
  pub step : IsMallocStep old.heap asked.length answer new.heap
  pub ordered : IsOrderedMalloc old.heap asked.length answer new.heap
  pub rules : KeepsRules new.heap
  pub cost : CostsByKind new.heap.kind new.heap.cost MALLOC_BOUND 25
  pub session : new.session ≡ record old.session { ids = ids_given old.session.ids asked.number answer; bound = MALLOC_BOUND }
  pub reply_is : reply ≡ said (malloc_text answer)

-- an id, and the number of its handle
pub record Named : Type 0 where
  pub id : ℕ
  pub number : ℕ

-- a free of a live id; `freed` is the manager's result: the words of the freed slot or block, and the object that moved into the slot, if one did
pub record Frees (old : RunState) (named : Named) (reply : Reply) (new : RunState) : Type 0 where
  pub freed : Freed
  pub step : FreesObject old.heap named.number freed new.heap
  pub ordered : IsOrderedFree old.heap named.number (Ok freed) new.heap
  pub rules : KeepsRules new.heap
  pub cost : CostsByKind new.heap.kind new.heap.cost (free_bound (Ok freed)) (block_free_bound (Ok freed))
  pub session : new.session ≡ counted (record old.session { ids = remove old.session.ids named.id; bound = free_bound (Ok freed) }) freed.moved
      freed.slot_words
  pub reply_is : reply ≡ said (codes "ok")

-- a write of `bytes` into the live object with the handle `position.number`, from byte `position.from` on
pub record Writes (old : RunState) (position : Position) (bytes : List ℕ) (reply : Reply) (new : RunState) : Type 0 where
  pub answer : Result Unit AccessFault
  pub step : IsWriteStep old.heap position bytes answer new.heap
  pub rules : KeepsRules new.heap
  pub session : new.session ≡ old.session
  pub reply_is : reply ≡ said (write_text answer)

-- session `s` after a resize with this result: if another object moved into the old slot, its move is counted
abbrev pub session_resized : SessionState → Result Resized ResizeFault → SessionState
session_resized s (Ok done) = counted s done.moved done.old_slot_words
session_resized s (Err e) = s

-- a resize of a live object to `asked.length` bytes; `asked.number` is its handle
pub record Resizes (old : RunState) (asked : Request) (reply : Reply) (new : RunState) : Type 0 where
  pub answer : Result Resized ResizeFault
  pub step : IsResizeStep old.heap asked answer new.heap
  pub ordered : IsOrderedResize old.heap asked answer new.heap
  pub rules : KeepsRules new.heap
  pub cost : CostsAtMost new.heap.kind new.heap.cost (resize_bound answer)
  pub session : new.session ≡ session_resized (record old.session { bound = resize_bound answer }) answer
  pub reply_is : reply ≡ said (resize_text answer)

-- the class with slots of `slot_words` words, which gets a new bound; none if there is no such class, or if an object is live, which no script allows
abbrev pub class_to_bound : HeapState → ℕ → Option ℕ
class_to_bound s slot_words = if nat_eq (len s.held) 0 then class_with s.kind s slot_words else None

-- the reply to `k`, from the class that got the bound: `ok`, or `none` if no class did
abbrev pub bound_text : Option ℕ → List ℕ
bound_text None = codes "none"
bound_text (Some c) = codes "ok"

-- the step of command `k`: if no object is live, the class with slots of `slot_words` words, if there is one, gets the bound `k`
pub record Bounds (old : RunState) (slot_words k : ℕ) (reply : Reply) (new : RunState) : Type 0 where
  pub heap : new.heap ≡ with_bound old.heap (class_to_bound old.heap slot_words) k
  pub rules : KeepsRules new.heap
  pub session : new.session ≡ old.session
  pub reply_is : reply ≡ said (bound_text (class_to_bound old.heap slot_words))

-- In state `old` the command may get this reply and lead to state `new`. `m` for a live id changes nothing, nor does `f`, `w` or `z` for one that isn't live.
abbrev pub Step : RunState → Command → Reply → RunState → Type 0
Step old (Malloc id bytes) reply new =
    MatchOption (get old.session.ids id) (Mallocs old (record { number = id; length = bytes }) reply new) (λ h. Stays old (codes "live") reply new)
Step old (Free id) reply new =
    MatchOption (get old.session.ids id) (Stays old (codes "unknown") reply new) (λ h. Frees old (record { id = id; number = h }) reply new)
Step old (Write id at bytes) reply new =
    MatchOption (get old.session.ids id) (Stays old (codes "unknown") reply new) (λ h. Writes old (record { number = h; from = at }) bytes reply new)
Step old (Resize id bytes) reply new =
    MatchOption (get old.session.ids id) (Stays old (codes "unknown") reply new) (λ h. Resizes old (record { number = h; length = bytes }) reply new)
Step old (Bound slot_words k) reply new = Bounds old slot_words k reply new
Step old command reply new = (reply ≡ shown old command) × (new ≡ old)
