-- For `sliced.rt`: the types of an open sliced heap (`Held`) and of its fields in the kit's logic of memory. The kit generates `the_row`, the type of a struct.
use denote.RattleType.{RattleType}
use Rattle.norphuen_sliced.specs.contracts.held.Held as held
use Rattle.norphuen_sliced.specs.contracts.loose.LooseHeld as loose

-- an open sliced heap, `Held`
abbrev pub open_sliced : RattleType
open_sliced = held.the_row

-- the fields of a `Held`, `LooseHeld`
abbrev pub loose_sliced : RattleType
loose_sliced = loose.the_row
