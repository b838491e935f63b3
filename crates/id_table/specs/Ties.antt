-- When the ids of a session are tied to the objects of its heap: each live id names one live object, no two ids the same, and each live object has an id.
use Rattle.std.specs.Prelude.{◌≡◌, ℕ, Some}
use Rattle.std.specs.Ordering.{nat_cmp}
use Rattle.std.specs.FinMap.{FinMap, get}
use Rattle.id_table.specs.Ids.{Ids}

-- each live id has the number of a live object, no two ids have the same number, and each live object has an id; `live` are the live objects by the numbers of
-- their handles
pub record AreTiedTo {V : Type 0} (ids : Ids) (live : FinMap nat_cmp V) : Type 0 where
  pub named : (id h : ℕ) → get ids id ≡ Some h → (v : V) × (get live h ≡ Some v)
  pub once : (id other h : ℕ) → get ids id ≡ Some h → get ids other ≡ Some h → other ≡ id
  pub all : (h : ℕ) (v : V) → get live h ≡ Some v → (id : ℕ) × (get ids id ≡ Some h)
