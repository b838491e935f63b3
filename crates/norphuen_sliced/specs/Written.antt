-- What a caller in C may write while a sliced heap is lent.
use Rattle.std.specs.Prelude.{◌≡◌, ◌≢◌, ℕ, ◌+◌, ◌/◌, ◌%◌, ◌≤◌, List, Some, length}
use Rattle.std.specs.FinMap.{get, insert}
use Rattle.page_model.specs.Bytes.{AreBytes, written}
use Rattle.page_model.specs.Held.{Placed}
use Rattle.region.specs.Overwriting.{Overwrites}
use Rattle.slice_model.specs.State.{Idle}
use Rattle.sliced_heap.specs.Shown.{SlicedState}

-- The state s, in which no job is pending, becomes t when these bytes, one at least, are written into the live object q from its byte `from` on: its other bytes
-- stay, and so do all other words. The bytes of an object begin one word after its address, behind the header.
pub record IsSlicedWritten (s t : SlicedState) (q from : ℕ) (bytes : List ℕ) : Type 0 where
  pub idle : s.job ≡ Idle
  pub object : Placed
  pub found : get s.held q ≡ Some object
  pub some : length bytes ≢ 0
  pub within : from + length bytes ≤ length object.bytes
  pub bytes_are : AreBytes bytes
  pub words : Overwrites s.words t.words (record { from = object.place + 1 + from / 8; count = (from % 8 + length bytes + 7) / 8 }) (from % 8) bytes
  pub whole : t ≡ record s { held = insert s.held q (record object { bytes = written object.bytes from bytes }); words = t.words }
