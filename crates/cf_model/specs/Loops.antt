-- What a loop over a list does to its items, and an opening to a manager (`Opens`), for `open_all`, which opens every manager of a list. `xs` is the list
-- before the loop, `ys` the list after it or so far; d and e are defaults of `slice_index_or`, never used.
use Rattle.std.specs.Prelude.{◌≡◌, ℕ, ◌<◌, ◌≤◌, List, length, slice_index_or}
use Rattle.cf_base.specs.declared.settings.Settings.{Settings}
use Rattle.cf_model.specs.Rules.{KeepsRules}
use Rattle.cf_model.specs.State.{HeapState}
use Rattle.cf_model.specs.Steps.{IsEmptyHeap}

-- the lists have the same length, and R relates the item of `xs` at each position to the item of `ys` there
pub record Pairwise {X : Type 0} (R : X → X → Type 0) (xs ys : List X) : Type 0 where
  pub count : length ys ≡ length xs
  pub each : (k : ℕ) (d e : X) → k < length xs → R (slice_index_or xs k d) (slice_index_or ys k e)

-- A loop has processed the items before position i: R relates each of them, as it was in `xs`, to the item of `ys` there. The items from i on are unchanged.
pub record Sweep {X : Type 0} (R : X → X → Type 0) (xs ys : List X) (i : ℕ) : Type 0 where
  pub count : length ys ≡ length xs
  pub done : (k : ℕ) (d e : X) → k < i → R (slice_index_or xs k d) (slice_index_or ys k e)
  pub rest : (k : ℕ) (d : X) → i ≤ k → slice_index_or ys k d ≡ slice_index_or xs k d

-- A loop stopped at position `at`. R relates each item before this position, as it was in `xs`, to the item of `ys` there, and S relates the two items at it.
-- The later items are unchanged.
pub record Stops {X : Type 0} (R S : X → X → Type 0) (xs ys : List X) : Type 0 where
  pub count : length ys ≡ length xs
  pub at : ℕ
  pub within : at < length xs
  pub before : (k : ℕ) (d e : X) → k < at → R (slice_index_or xs k d) (slice_index_or ys k e)
  pub here : (d e : X) → S (slice_index_or xs at d) (slice_index_or ys at e)
  pub behind : (k : ℕ) (d : X) → at < k → slice_index_or ys k d ≡ slice_index_or xs k d

-- a manager in the state `old` was opened with the settings s: in the state `new` it is open, without objects, and keeps the rules
pub record Opens (s : Settings) (old new : HeapState) : Type 0 where
  pub empty : IsEmptyHeap old.kind s new
  pub rules : KeepsRules new
