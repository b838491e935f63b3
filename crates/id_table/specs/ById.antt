-- The objects that the ids of a session name, and their bytes.
use Rattle.std.specs.Prelude.{ℕ, List, [], Option, None, Some, option_map}
use Rattle.std.specs.Option.{unwrap_or}
use Rattle.std.specs.FinMap.{get}
use Rattle.cf_base.specs.Maps.{map_values}
use Rattle.page_model.specs.Held.{Objects, Placed}
use Rattle.id_table.specs.Ids.{Ids}
use Rattle.id_table.specs.Sessions.{RunState}

-- each id of `ids` with the bytes of the object under its handle's number in `m`; no bytes if there is no such object
abbrev pub objects_by_id : Ids → Objects → Objects
objects_by_id ids m = map_values (λ h. unwrap_or (get m h) []) ids

-- the object of an id in the state of a run; `None` if the id isn't live, or its handle isn't
abbrev pub object_of : RunState → ℕ → Option Placed
object_of s id = elim (get s.session.ids id) [ None ↦ None | Some h ↦ get s.heap.held h ]

-- in state `s` of a run, the bytes of the object of an id; `None` if `object_of` returns none
abbrev pub bytes_of : RunState → ℕ → Option (List ℕ)
bytes_of s id = option_map (λ (x : Placed). x.bytes) (object_of s id)
