-- A session over a heap of long objects: its state, also as a snapshot with the bytes written to the sink, the calls of its heap, and for each command the
-- reply and the state after it.
use Rattle.std.specs.Prelude.{◌≡◌, ℕ, IsTrue, List, Option, codes}
use Rattle.run_model.specs.Terms.{Command, Frag, Ids, Refusal, Reply, said, Walk}
use Rattle.large_objects.specs.Large.{KeepsParts, LargeState}
use Rattle.large_objects.specs.LargeSteps.{FreesLarge, IsLargeMalloc, IsLargeWrite, StaysKept}
use Rattle.script_laws.specs.ObjectRun.{Calls, IsGoingObjects, ObjectRun, ObjectStep, object_run}
use Rattle.run_model.specs.Replies.{malloc_text}
use Rattle.run_model.specs.Reports.{frag_of, walk_of}
use Rattle.script_loop.specs.Semantics.{Snapshot, snapshot}

-- the live ids with the handles that they name, and the heap
abbrev pub LargeRun : Type 0
LargeRun = ObjectRun LargeState

-- the run with these live ids on this heap
abbrev pub large_run : Ids → LargeState → LargeRun
large_run ids heap = object_run ids heap

-- the heap is open, and its inner manager holds exactly the inner objects of its objects (`KeepsParts`)
pub record IsReadyLarge (s : LargeState) : Type 0 where
  pub opened : IsTrue s.is_open
  pub parts : KeepsParts s

-- the reply to a command that changes nothing and names no object: the reports are those of the inner manager, and `none` is the reply to a command of another
-- mode
abbrev pub large_shown : LargeState → Command → Reply
large_shown s Walk = walk_of s.inner.kind s.inner
large_shown s Frag = frag_of s.inner
large_shown s command = said (codes "none")

-- the calls of a heap of long objects; it refuses no free of a live object
abbrev pub large_calls : Calls LargeState Refusal ⊥
large_calls = record {
  is_ready = IsReadyLarge;
  objects = λ s. s.objects;
  mallocs = λ old bytes answer new. IsLargeMalloc old bytes answer new × StaysKept old new;
  frees = λ old h fault new. FreesLarge old h new × StaysKept old new;
  writes = λ old position bytes answer new. IsLargeWrite old position bytes answer new × StaysKept old new;
  malloc_text = malloc_text;
  free_text = λ fault. codes "ok";
  others = λ old command reply new. (reply ≡ large_shown old.heap command) × (new ≡ old);
}

-- a state of a run: the heap is ready, and the ids name its objects, each once
abbrev pub IsGoingLarge : LargeRun → Type 0
IsGoingLarge = IsGoingObjects large_calls

-- One command: the run before it, its reply, and the run after it.
abbrev pub LargeStep : LargeRun → Command → Reply → LargeRun → Type 0
LargeStep = ObjectStep large_calls

-- a snapshot of a run: its state, and the bytes written to the sink so far
abbrev pub large_moment : Ids → LargeState → Option (List ℕ) → Snapshot LargeRun
large_moment ids heap written = snapshot (large_run ids heap) written
