-- A session over any heap of objects: its state, and for each command the reply and the state after it, by what the calls of the heap do (`Calls`).
use Rattle.std.specs.Prelude.{◌≡◌, ℕ, List, Option, Some, None, Result, codes}
use Rattle.std.specs.Option.{MatchOption}
use Rattle.run_model.specs.Terms.{AccessFault, Command, Free, get, Handle, Ids, Malloc, Objects, Position, Read, remove, Reply, Resize, said, Write}
use Rattle.id_table.specs.Ties.{AreTiedTo}
use Rattle.run_model.specs.Replies.{write_text}
use Rattle.run_model.specs.Steps.{Stays, ids_given}
use Rattle.script_laws.specs.IdBytes.{read_shown}

-- the live ids with the handles that they name, and the heap, of whatever type S
pub record ObjectRun (S : Type 0) : Type 0 where
  pub ids : Ids
  pub heap : S

-- the run with these live ids on this heap
abbrev pub object_run : {S : Type 0} → Ids → S → ObjectRun S
object_run ids heap = record { ids = ids; heap = heap }

-- What the calls of a heap do. Its states have the type S; it refuses a malloc with a cause of type R, and a free of a live object with one of type F.
-- `is_ready`: the heap can do a call. `objects`: the bytes of its objects, by the numbers of their handles. `mallocs`, `frees`, `writes`: the heap before a
-- call, the arguments, the result, and the heap after it; the result of a free is None unless it is refused. `malloc_text`, `free_text`: the replies to these
-- results. `others`: any command but `m`, `f`, `w`, `r` and `z`, between the run before it and the run after it.
pub record Calls (S R F : Type 0) : Type 1 where
  pub is_ready : S → Type 0
  pub objects : S → Objects
  pub mallocs : S → ℕ → Result Handle R → S → Type 0
  pub frees : S → ℕ → Option F → S → Type 0
  pub writes : S → Position → List ℕ → Result Unit AccessFault → S → Type 0
  pub malloc_text : Result Handle R → List ℕ
  pub free_text : Option F → List ℕ
  pub others : ObjectRun S → Command → Reply → ObjectRun S → Type 0

-- a state of a run: the heap can do a call, and the ids name its objects, each once
pub record IsGoingObjects {S R F : Type 0} (calls : Calls S R F) (s : ObjectRun S) : Type 0 where
  pub ready : calls.is_ready s.heap
  pub tied : AreTiedTo s.ids (calls.objects s.heap)

-- the bytes of the object that an id names, if the id is live
abbrev pub object_bytes : {S R F : Type 0} → Calls S R F → ObjectRun S → ℕ → Option (List ℕ)
object_bytes calls s id = elim (get s.ids id) [ None ↦ None | Some h ↦ get (calls.objects s.heap) h ]

-- the ids after a free of an id: the id is no longer live, or the heap refused and the ids are unchanged
abbrev pub ids_without : {F : Type 0} → Ids → ℕ → Option F → Ids
ids_without ids id None = remove ids id
ids_without ids id (Some e) = ids

-- a malloc for an id that isn't live: the heap adds an object and the id names it, or the heap refuses; the reply shows which
pub record MallocsId {S R F : Type 0} (calls : Calls S R F) (old : ObjectRun S) (id bytes : ℕ) (reply : Reply) (new : ObjectRun S) : Type 0 where
  pub answer : Result Handle R
  pub step : calls.mallocs old.heap bytes answer new.heap
  pub ids : new.ids ≡ ids_given old.ids id answer
  pub reply_is : reply ≡ said (calls.malloc_text answer)

-- a free of a live id, which names h: the heap frees the object h, or refuses; the reply shows which
pub record FreesId {S R F : Type 0} (calls : Calls S R F) (old : ObjectRun S) (id h : ℕ) (reply : Reply) (new : ObjectRun S) : Type 0 where
  pub answer : Option F
  pub step : calls.frees old.heap h answer new.heap
  pub ids : new.ids ≡ ids_without old.ids id answer
  pub reply_is : reply ≡ said (calls.free_text answer)

-- a write into a live object, which `position` names by its handle and its first byte: the heap replaces the bytes, or refuses; the reply shows which
pub record WritesId {S R F : Type 0} (calls : Calls S R F) (old : ObjectRun S) (position : Position) (bytes : List ℕ) (reply : Reply)
    (new : ObjectRun S) : Type 0 where
  pub answer : Result Unit AccessFault
  pub step : calls.writes old.heap position bytes answer new.heap
  pub ids : new.ids ≡ old.ids
  pub reply_is : reply ≡ said (write_text answer)

-- One command: the run before it, its reply, and the run after it. `m` for a live id gets `live`, `f` or `w` for another id `unknown`, and changes nothing.
-- Only managers resize objects, so the reply to `z` is `none`.
abbrev pub ObjectStep : {S R F : Type 0} → Calls S R F → ObjectRun S → Command → Reply → ObjectRun S → Type 0
ObjectStep calls old (Malloc id bytes) reply new = MatchOption (get old.ids id) (MallocsId calls old id bytes reply new) (λ h. Stays old (codes "live") reply new)
ObjectStep calls old (Free id) reply new = MatchOption (get old.ids id) (Stays old (codes "unknown") reply new) (λ h. FreesId calls old id h reply new)
ObjectStep calls old (Write id from bytes) reply new =
    MatchOption (get old.ids id) (Stays old (codes "unknown") reply new) (λ h. WritesId calls old (record { number = h; from = from }) bytes reply new)
ObjectStep calls old (Read id from count) reply new = Stays old (read_shown (object_bytes calls old id) from count) reply new
ObjectStep calls old (Resize id bytes) reply new = Stays old (codes "none") reply new
ObjectStep calls old command reply new = calls.others old command reply new
