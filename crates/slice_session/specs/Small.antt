-- A small script in mode `slice` on which right and wrong replies are tried, and replies to its eight lines.
use Rattle.std.specs.Prelude.{ℕ, true, List, [], ◌∷◌, codes}
use Rattle.run_model.specs.Terms.{items, Reply, said}
use Rattle.slice_session.specs.SliceHeadline.{MeetsSliced}

-- `replies` meet the claim for this script, on two pages of 64 words with slices of 8 words. An object of 176 bytes has 23 words, so a page holds two; an
-- object of 504 bytes fills a page.
abbrev pub MeetsSmallSliced : List Reply → Type 0
MeetsSmallSliced replies = MeetsSliced 8 (items (codes "heap 2 512 1 8\nm 1 176\nm 2 176\nf 2\ns\nf 1\nm 3 504\nm 4 176\n") true) replies

-- the eight replies to that script: `first` to `m 1 176`, `slice` to `s`, `free` to `f 1` while the job of `f 2` is pending, `large` to `m 3 504`, `last` to
-- `m 4 176`, and `ok` to `heap`, `m 2 176` and `f 2`
abbrev pub small_sliced_replies : (first slice free large last : List ℕ) → List Reply
small_sliced_replies first slice free large last =
    said (codes "ok") ∷ said first ∷ said (codes "ok") ∷ said (codes "ok") ∷ said slice ∷ said free ∷ said large ∷ said last ∷ []
