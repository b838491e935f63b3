-- The objects that the words of a heap with blocks determine.
use Rattle.std.specs.Prelude.{ℕ, ◌+◌, List}
use Rattle.std.specs.Ordering.{nat_cmp}
use Rattle.std.specs.FinMap.{FinMap}
use Rattle.cf_base.specs.Maps.{map_values}
use Rattle.page_model.specs.Bytes.{bytes_at}
use Rattle.page_model.specs.Held.{Held}

-- The objects by number, if `places` maps each number to the address of its object's block: word 1 of the block is the object's header, and its bytes follow.
abbrev pub read_objects : List ℕ → FinMap nat_cmp ℕ → Held
read_objects words places = map_values (λ a. record { place = a; bytes = bytes_at words (a + 1) }) places
