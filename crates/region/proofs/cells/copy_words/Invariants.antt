use Rattle.std.proofs.Common.{◌≡◌, ℕ, ◌*◌, ◌<◌, slice_index}
use Rattle.region.specs.Cells.{byte_in}
use Rattle.region.proofs.cells.copy_words.Given as goal

abbrev pub invariant-words : goal.invariant-words
invariant-words l = (k : ℕ) → k < 8 * l.i → slice_index l.out k ≡ byte_in l.words k
