-- How the lengths of the page lists are kept in memory: two counts for each class, by turns. No public clause cites this module.
use Rattle.std.specs.Prelude.{ℕ, List, [], ◌∷◌, drop, slice_index}

-- one list of two equally long ones: count 0 of `counts` and of `others`, then count 1 of each, and so on
abbrev pub interleaved : List ℕ → List ℕ → List ℕ
interleaved [] others = []
interleaved (count ∷ counts) others = count ∷ slice_index others 0 ∷ interleaved counts (drop 1 others)
