-- The contract of `save_script`, by status: a script is run, its replies are dropped, and the objects that are live at its end are written as an image,
-- whole or in part.
use Rattle.std.specs.Prelude.{◌≡◌, ℕ, List, [], Option, None, IsTrue, if◌then◌else◌}
use Rattle.run_model.specs.Terms.{appended, at_bound_one, IsGoing, Moving, RunState, Status}
use Rattle.cf_base.specs.declared.status.Status.TheVariants.{Done, WriteFault}
use Rattle.cf_io.specs.Feeds.{WritesPrefix}
use Rattle.heap_image.specs.Heaps.{HaveImage, heap_image, live_objects}
use Rattle.script_loop.specs.OneManager.{one_manager}
use Rattle.script_loop.specs.ScriptOutcome.{Effects, MeetsOutcome}

-- the bytes that mode `save` writes for a run that ends in state `s`: the image of its objects, or no bytes if no `heap` line opened the manager
abbrev pub saved : RunState → List ℕ
saved s = if s.heap.is_open then heap_image s else []

-- the status with which the script itself ended, from that of the call: the sink can fail only after the script's end, when the image is written
abbrev pub script_status : Status → Status
script_status WriteFault = Done
script_status status = status

-- the effects of the script alone, from those of the call: its replies are dropped, so its sink isn't observable
abbrev pub unseen : Effects → Effects
unseen call = record call { before = None; after = None; status = script_status call.status }

-- what was written, by the status: these bytes, a prefix of them, or nothing
abbrev pub WritesAtEnd : Status → Option (List ℕ) → List ℕ → Option (List ℕ) → Type 0
WritesAtEnd Done before bytes after = after ≡ appended before bytes
WritesAtEnd WriteFault before bytes after = WritesPrefix before bytes after
WritesAtEnd status before bytes after = after ≡ before

-- the run is in progress on a manager of kind Moving, and a heap with its settings and the bound 1 can hold its objects (`HaveImage`)
pub record CanBeSaved (s : RunState) : Type 0 where
  pub going : IsGoing s
  pub kind : s.heap.kind ≡ Moving
  pub have : HaveImage (at_bound_one s.heap.profile) (live_objects s)

-- what the call did: the script led the run from `from` to `to`; by the status the image of `to`, a prefix of it, or nothing was written (`WritesAtEnd`); and
-- if the status is `Done` and a heap was opened, its objects have an image (`CanBeSaved`)
pub record EndsSave (from : RunState) (call : Effects) (to : RunState) : Type 0 where
  pub script : MeetsOutcome one_manager from (unseen call) to
  pub written : WritesAtEnd call.status call.before (saved to) call.after
  pub image : call.status ≡ Done → IsTrue to.heap.is_open → CanBeSaved to
