use Rattle.std.proofs.Common.{◌≡◌, ℕ, ◌*◌, ◌<◌, slice_index}
use Rattle.region.specs.Cells.{byte_in}
use Rattle.region.proofs.cells.put_words.Given as goal

abbrev pub invariant-words : goal.invariant-words
invariant-words l = (k : ℕ) → k < 8 * l.i → byte_in l.words k ≡ slice_index l.bytes k
