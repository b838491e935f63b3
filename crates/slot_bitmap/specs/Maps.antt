-- What contracts see of `SlotMaps` (`SlotTable`): the used and free slots of each page, and how many a page may have.
use Rattle.std.specs.Prelude.{ℕ, Bool, List, [], slice_index_or, slice_set}

-- for each page a truth value for each slot, true if it is used; and how many slots a page may have
pub record SlotTable : Type 0 where
  pub pages : List (List Bool)
  pub most : ℕ

-- the slots of a page; none if there is no such page
abbrev pub on_page : SlotTable → ℕ → List Bool
on_page t page = slice_index_or t.pages page []

-- the table with these slots on the page
abbrev pub with_page : SlotTable → ℕ → List Bool → SlotTable
with_page t page slots = record t { pages = slice_set t.pages page slots }
