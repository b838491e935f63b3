-- What contracts see of an id table: a finite map from the live ids to the numbers of their handles.
use Rattle.std.specs.Prelude.{◌≡◌, ℕ, ◌^◌, ◌<◌, ◌≤◌, Some}
use Rattle.std.specs.Ordering.{nat_cmp}
use Rattle.std.specs.FinMap as map
use Rattle.std.specs.Coded.{Coded, coded_ℕ}

-- the live ids, each with the number of its handle
abbrev pub Ids : Type 0
Ids = map.FinMap nat_cmp ℕ

-- each live id fits 16 bits, so there are at most 65,536
pub record AreWithin (ids : Ids) : Type 0 where
  pub below : (id number : ℕ) → map.get ids id ≡ Some number → id < 2 ^ 16
  pub few : map.len ids ≤ 2 ^ 16

-- the encoding of `Ids` that the model of an id table needs, since its values are finite maps
abbrev pub ids_code : Coded Ids
ids_code = map.code coded_ℕ coded_ℕ
