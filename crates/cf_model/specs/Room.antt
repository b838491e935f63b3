-- For `has_room` and `length`: what a malloc would return now, and how long an object is.
use Rattle.std.specs.Prelude.{ℕ, length, Option, Result, Ok, Err, option_map}
use Rattle.std.specs.FinMap.{get}
use Rattle.cf_base.specs.declared.results.Refusal.{Refusal}
use Rattle.page_model.specs.Held.{Placed}
use Rattle.cf_model.specs.State.{HeapState}
use Rattle.cf_model.specs.Steps.{IsRefusedBy}

-- what `has_room` returns in the state s: `Ok` if a malloc of `bytes` bytes has no cause to be refused, else `Err` with its cause
abbrev pub IsHasRoomAnswer : HeapState → ℕ → Result Unit Refusal → Type 0
IsHasRoomAnswer s bytes (Ok done) = (e : Refusal) → ¬ IsRefusedBy s bytes e
IsHasRoomAnswer s bytes (Err e) = IsRefusedBy s bytes e

-- the number of bytes of object h; none if it is not live
abbrev pub length_of : HeapState → ℕ → Option ℕ
length_of s h = option_map (λ (x : Placed). length x.bytes) (get s.held h)
