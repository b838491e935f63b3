-- A small script in mode `large` on which right and wrong replies are tried, and replies to its eight lines.
use Rattle.std.specs.Prelude.{ℕ, true, List, [], ◌∷◌, codes}
use Rattle.run_model.specs.Terms.{items, Moving, Reply, said}
use Rattle.large_session.specs.LargeHeadline.{MeetsLarge}

-- `replies` meet the claim for this script, on eight pages of 512 bytes. An object of 600 bytes has a spine of 8 bytes and parts of 504 and 96 bytes; `m 3
-- 4000` needs more pages than are free.
abbrev pub MeetsSmallLarge : List Reply → Type 0
MeetsSmallLarge replies =
    MeetsLarge Moving (items (codes "heap 8 512 1 16\nm 1 600\nw 1 503 aabb\nm 2 90\nr 1 503 2\nwalk\nfrag\nm 3 4000\n") true) replies

-- the eight replies to that script: `first` to `m 1 600`, `read` to `r`, `walk` and `frag` to the commands of these names, `last` to `m 3 4000`, and `ok` to
-- the others
abbrev pub small_large_replies : (first read : List ℕ) (walk : Reply) (frag last : List ℕ) → List Reply
small_large_replies first read walk frag last =
    said (codes "ok") ∷ said first ∷ said (codes "ok") ∷ said (codes "ok") ∷ said read ∷ walk ∷ said frag ∷ said last ∷ []

-- the right reply to `walk`, with four inner objects: the spine and the two parts of the long object, and the short object
abbrev pub small_walk : Reply
small_walk =
    codes "class 4 slots 16 live 1 pages 1 notfull 1" ∷ codes "class 13 slots 4 live 2 pages 1 notfull 1" ∷ codes "class 64 slots 1 live 1 pages 1 notfull 0"
    ∷ codes "total live 4 pages 3 free 5" ∷ []

-- a wrong reply to `walk`, which counts the long object as one object of the largest class
abbrev pub walk_of_wholes : Reply
walk_of_wholes =
    codes "class 13 slots 4 live 1 pages 1 notfull 1" ∷ codes "class 64 slots 1 live 1 pages 1 notfull 0" ∷ codes "total live 2 pages 2 free 6" ∷ []
