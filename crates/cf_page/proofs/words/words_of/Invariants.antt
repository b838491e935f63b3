use Rattle.std.proofs.Common.{◌≡◌, ◌++◌, ◌==◌, length, map, string_bytes, IsUtf8}
use Rattle.std.specs.List.{slice_split}
use Rattle.cf_page.specs.ArgumentWords.{argument_words}
use Rattle.cf_page.proofs.words.words_of.Given as goal

abbrev pub invariant-lines : goal.invariant-lines
invariant-lines l = (map (λ word. string_bytes word) l.words.items ++ slice_split (λ b. b == 10) l.rest ≡ argument_words l.fn.text) × IsUtf8 l.rest

abbrev pub decreases-lines : goal.decreases-lines
decreases-lines l = length l.rest
