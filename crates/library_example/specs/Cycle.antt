-- For `next_frame`, one cycle of a control loop: the objects of a sliced heap after a cycle that made a frame (the cycle's object), and after one that made
-- none.
use Rattle.std.specs.Prelude.{◌≡◌, ℕ, None, replicate}
use Rattle.std.specs.FinMap.{get, insert, remove}
use Rattle.page_model.specs.Held.{Objects, objects}
use Rattle.slice_model.specs.Steps.{IsFaultOf, IsSlicedRefusedBy}
use Rattle.sliced_heap.specs.Shown.{SlicedState, plan_in, working_in}
use Rattle.library_example.specs.declared.control_loop.Missed.{Missed}
use Rattle.library_example.specs.declared.control_loop.Missed.TheVariants as missed

-- the bytes of all objects of the heap s, by handle, except those of the last frame
abbrev pub others : SlicedState → ℕ → Objects
others s last = remove (objects s.held) last

-- A cycle that succeeds; `last` and `frame` are the handles of the last frame and of the new one. No other object has the new handle (`unused`); the
-- objects are the others, unchanged, and the new frame of `bytes` zeros (`whole`).
pub record HasFrame (old : SlicedState) (last bytes frame : ℕ) (new : SlicedState) : Type 0 where
  pub unused : get (others old last) frame ≡ None
  pub whole : objects new.held ≡ insert (others old last) frame (replicate bytes 0)

-- A cycle that makes no frame, by the cause: the free was refused, and nothing has changed; or the malloc was refused, and only the last frame is gone.
-- `new` is the heap at the end.
abbrev pub IsMissed : SlicedState → ℕ → ℕ → Missed → SlicedState → Type 0
IsMissed old last bytes (missed.Free cause) new = IsFaultOf (working_in old).state last cause × (working_in new ≡ working_in old)
IsMissed old last bytes (missed.Malloc cause) new = IsSlicedRefusedBy (plan_in new) (working_in new).state bytes cause × (objects new.held ≡ others old last)
