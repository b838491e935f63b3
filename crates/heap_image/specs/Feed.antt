-- What a source shows before and after bytes are read from it, and whether it failed. Clauses call the source `had` before and `left` after.
use Rattle.std.specs.Prelude.{◌≡◌, ℕ, Bool, true, false, List, length, Option, Result, Ok, Err}
use Rattle.cf_io.specs.Feeds.{HasGiven, SourceState, preceded}
use Rattle.heap_image.specs.declared.fault.LoadFault.{LoadFault}
use Rattle.heap_image.specs.declared.fault.LoadFault.TheVariants as fault
use Rattle.heap_image.specs.declared.fields_in.Filled.{Filled}
use Rattle.heap_image.specs.declared.fields_in.Filled.TheVariants as filled

-- a source at one moment: the bytes that it still has, if it is observable, and the count of the bytes that it has returned
pub record Feed : Type 0 where
  pub rest : Option (List ℕ)
  pub given : ℕ

-- the source that has these bytes left (None: it is not observable) and has returned `given` bytes
abbrev pub feed_at : Option (List ℕ) → ℕ → Feed
feed_at rest given = record { rest = rest; given = given }

-- the source at the moment of the state s
abbrev pub feed_of : SourceState → Feed
feed_of s = feed_at s.rest s.given

-- The bytes `taken` were read from a source: an observable source had them first, before those that are left; every source counts them as returned.
pub record TakesBytes (taken : List ℕ) (had left : Feed) : Type 0 where
  pub first : had.rest ≡ preceded taken left.rest
  pub counted : HasGiven had.given (length taken) left.given

-- whether the source failed before a buffer was full
abbrev pub is_unfilled : Filled → Bool
is_unfilled filled.Whole = false
is_unfilled filled.Cut = false
is_unfilled filled.Failed = true

-- whether a function that reads from the source stopped since the source failed
abbrev pub is_unread : {T : Type 0} → Result T LoadFault → Bool
is_unread (Ok x) = false
is_unread (Err fault.Read) = true
is_unread (Err (fault.Bad at)) = false
is_unread (Err fault.OutOfMemory) = false
