-- For `find`, which reads and writes begin with: the object that has the bytes and the address of its block, or why the call fails. No public clause cites
-- this module.
use Rattle.std.specs.Prelude.{◌≡◌, ℕ, ◌+◌, ◌≤◌, length, Result, Ok, Err, Some}
use Rattle.std.specs.FinMap.{get}
use Rattle.cf_base.specs.declared.results.AccessFault.{AccessFault}
use Rattle.cf_base.specs.declared.kind.Kind.{Kind}
use Rattle.page_model.specs.Bytes.{bytes_at}
use Rattle.cf_model.specs.Steps.{Position, IsFault}
use Rattle.tag_heap.specs.Heap.{Heap, tag_held_in, tag_state_of}

-- object `position.number` has its block at the address `place`, and has `count` bytes from byte `position.from` on
pub record HoldsTagBytes (h : Heap) (position : Position) (count place : ℕ) : Type 0 where
  pub found : get (tag_held_in h) position.number ≡ Some (record { place = place; bytes = bytes_at h.tagged.words (place + 1) })
  pub within : position.from + count ≤ length (bytes_at h.tagged.words (place + 1))

-- what `find` returns for `count` bytes of object `position.number` from byte `position.from` on: the object's address, or the fault of the call
abbrev pub IsTagFound : Kind → Heap → Position → ℕ → Result ℕ AccessFault → Type 0
IsTagFound kind h position count (Ok place) = HoldsTagBytes h position count place
IsTagFound kind h position count (Err e) = IsFault (tag_state_of kind h) position count e
