-- For the proofs of other crates: a call of `Region` that clears or moves a range of words is a change of words as the page model defines it (`Clears`,
-- `MovesWords`).
use Rattle.std.proofs.Common.{ℕ, ◌+◌, ◌≤◌, List, length}
use Rattle.page_model.specs.Image.{Clears, IsDisjoint, MovesWords}
use Rattle.region.specs.Words.{cleared, moved}
use Rattle.region.proofs.WordsAfter.{cleared_others, cleared_within, moved_arrived, moved_left, moved_others}

pub cleared_clears : (words : List ℕ) (i n : ℕ) → i + n ≤ length words → Clears words (cleared words i n) (record { from = i; count = n })
cleared_clears words i n inside = record { within = cleared_within words i n inside; others = cleared_others words i n inside }

pub moved_moves : (words : List ℕ) (a b n : ℕ) → a + n ≤ length words → b + n ≤ length words → IsDisjoint a n b n
    → MovesWords words (moved words a b n) (record { from = a; count = n }) b
moved_moves words a b n source target apart = record {
  arrived = moved_arrived words a b n source target apart;
  left_zeros = moved_left words a b n source target;
  others = moved_others words a b n source target;
}
