-- For `has_room` and `moving`: what a malloc would return now, and which object the pending job moves.
use Rattle.std.specs.Prelude.{ℕ, Option, Some, None, Result, Ok, Err}
use Rattle.slice_model.specs.State.{Job, Plan, Sliced, Idle, Clear, Move}
use Rattle.slice_model.specs.Steps.{IsSlicedRefusedBy}
use Rattle.slice_model.specs.declared.refusals.SliceRefusal.{SliceRefusal}

-- what `has_room` returns in the state s: `Ok` if a malloc of `bytes` bytes has no cause to be refused, else `Err` with its cause
abbrev pub IsRoomAnswer : {T : Type 0} → Plan → Sliced → ℕ → Result T SliceRefusal → Type 0
IsRoomAnswer plan s bytes (Ok u) = (e : SliceRefusal) → ¬ IsSlicedRefusedBy plan s bytes e
IsRoomAnswer plan s bytes (Err e) = IsSlicedRefusedBy plan s bytes e

-- the number of the object that this job moves; none if it moves none
abbrev pub mover : Job → Option ℕ
mover Idle = None
mover (Clear k) = None
mover (Move h k) = Some h
