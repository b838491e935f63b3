-- For `read`, `write`, `place` and `length` of an open sliced heap: a result of a read or a write in the form that the model's calls have (`Event`); an
-- object's address and its length; and what `find` returns, the halves in which the words of an object lie or a fault, with the steps of `find`.
use Rattle.std.specs.Prelude.{◌≡◌, ℕ, ◌+◌, ◌≤◌, List, length, Option, Some, None, Result, Ok, Err, option_map}
use Rattle.std.specs.FinMap.{get}
use Rattle.cf_base.specs.declared.results.AccessFault.{AccessFault}
use Rattle.cf_base.specs.declared.results.AccessFault.TheVariants as access
use Rattle.page_model.specs.Held.{Held, Placed, objects}
use Rattle.slice_model.specs.Runs.{Position, IsOutOfReach}
use Rattle.sliced_heap.specs.Halves.{halves_of}
use Rattle.sliced_heap.specs.declared.halves.Halves.{Halves}
use Rattle.sliced_heap.specs.Heap.{Heap}
use Rattle.sliced_heap.specs.Layout.{sliced_state_of}

-- the model's result of a read, from the result of the function and the bytes then in the caller's buffer: those bytes, or the fault
abbrev pub bytes_or_fault : {T : Type 0} → Result T AccessFault → List ℕ → Result (List ℕ) AccessFault
bytes_or_fault (Ok u) out = Ok out
bytes_or_fault (Err e) out = Err e

-- the fault of a write from the function's result; None if it was not refused
abbrev pub access_fault : {T : Type 0} → Result T AccessFault → Option AccessFault
access_fault (Ok u) = None
access_fault (Err e) = Some e

-- in heap h object `position.number` is live, its length is at least `position.from + count` bytes, and its words lie in the halves s
pub record HoldsSlicedBytes (h : Heap) (position : Position) (count : ℕ) (s : Halves) : Type 0 where
  pub object : Placed
  pub found : get (sliced_state_of h).held position.number ≡ Some object
  pub within : position.from + count ≤ length object.bytes
  pub halves : s ≡ halves_of h.job position.number object.place

-- what `find` returns for object `position.number` and `count` bytes from byte `position.from` on: the halves in which its words lie, or a fault with its cause
abbrev pub IsSlicedFound : Heap → Position → ℕ → Result Halves AccessFault → Type 0
IsSlicedFound h position count (Ok s) = HoldsSlicedBytes h position count s
IsSlicedFound h position count (Err e) = IsOutOfReach (objects (sliced_state_of h).held) position count e

-- the steps of `find`: the proxy and, if the object is live, its header
abbrev pub sliced_find_steps : Result Halves AccessFault → ℕ
sliced_find_steps (Ok s) = 2
sliced_find_steps (Err access.Unknown) = 1
sliced_find_steps (Err access.Range) = 2

-- the address of object n of the objects m; none if it is not live
abbrev pub place_in : Held → ℕ → Option ℕ
place_in m n = option_map (λ (x : Placed). x.place) (get m n)

-- the number of bytes of object n of the objects m; none if it is not live
abbrev pub sliced_length_in : Held → ℕ → Option ℕ
sliced_length_in m n = option_map (λ (x : Placed). length x.bytes) (get m n)
