-- The invariant of an id table: its list has an entry for each of the 65,536 ids, and its count is that of the live ids. No public clause cites this module.
use Rattle.std.specs.Prelude.{◌≡◌, ℕ, ◌^◌, List, Option, length}
use Rattle.std.specs.FinMap.{len}
use Rattle.cf_base.specs.Maps.{numbered}

-- the invariant of an id table: `numbers` has an entry for each id, and `live` counts the entries that have a handle
pub record IsValid (numbers : List (Option ℕ)) (live : ℕ) : Type 0 where
  pub long : length numbers ≡ 2 ^ 16
  pub counted : live ≡ len (numbered 0 numbers)
