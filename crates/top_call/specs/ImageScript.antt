-- The script that makes the live objects of a heap, which mode `load` prints, as commands, as items and as bytes; and the settings, bounds and objects by
-- id (`ById`, without addresses) that the items of a script leave if every bound is 1.
use Rattle.std.specs.Prelude.{ℕ, zero, suc, ◌+◌, ◌*◌, ◌++◌, List, [], ◌∷◌, length, take, drop, Option, map}
use Rattle.std.specs.FinMap.{entries}
use Rattle.std.specs.Int.{div_ceil}
use Rattle.run_model.specs.Terms.{asks, Command, Item, Kind, Malloc, Moving, Objects, Profile, RunState, starts, Write}
use Rattle.script_reader.specs.ReadBack.{command_lines, heap_line}
use Rattle.heap_image.specs.Heaps.{live_objects}
use Rattle.script_laws.specs.ById.{ById, begun}
use Rattle.script_laws.specs.Transcripts.{after_at}

-- n write commands, where n is the first argument: they write the first 4,096n of `bytes` into the object of `id`, from its byte `at` on, 4,096 bytes each; if
-- there are fewer bytes, the last commands write fewer or none
unfoldable pub writes_from : ℕ → ℕ → ℕ → List ℕ → List Command
writes_from zero id at bytes = []
writes_from (suc more) id at bytes = Write id at (take 4096 bytes) ∷ writes_from more id (at + 4096) (drop 4096 bytes)

-- the write commands that fill the object of `id` with `bytes`; none if there are no bytes
abbrev pub writes_of : ℕ → List ℕ → List Command
writes_of id bytes = writes_from (div_ceil (length bytes) 4096) id 0 bytes

-- the commands that make an object under an id, with its bytes
abbrev pub object_commands : ℕ → List ℕ → List Command
object_commands id bytes = Malloc id (length bytes) ∷ writes_of id bytes

-- the lines of those commands
abbrev pub object_lines : ℕ → List ℕ → List ℕ
object_lines id bytes = command_lines (object_commands id bytes)

-- the commands that make the objects of a list, one after the other; an entry is an id and the bytes of its object
abbrev pub commands_of : List (ℕ × List ℕ) → List Command
commands_of [] = []
commands_of (e ∷ es) = object_commands e.0 e.1 ++ commands_of es

-- the `heap` line of the settings `p`, with the bound 1
abbrev pub opening_line : Profile → List ℕ
opening_line p = heap_line p.pages (8 * p.page_words) 1 p.proxies

-- the script that makes these objects by id, in rising order of the ids, on a heap with the settings `p`, but with the bound 1
abbrev pub script_under : Profile → Objects → List ℕ
script_under p objects = opening_line p ++ command_lines (commands_of (entries objects))

-- the script that makes the live objects of a run in state `s`
abbrev pub heap_script : RunState → List ℕ
heap_script s = script_under s.heap.profile (live_objects s)

-- the state by id after the items, from state `t` on; None before the `heap` line
abbrev pub after_items : Kind → Option ById → List Item → Option ById
after_items kind t [] = t
after_items kind t (item ∷ rest) = after_items kind (after_at kind t item) rest

-- the state by id of a moving manager with the settings `p` and the objects `o`, and in each class the bound of the settings
abbrev pub state_of_objects : Profile → Objects → ById
state_of_objects p o = record (begun Moving p) { objects = o }

-- the items of the script that makes the objects `o` on a heap with the settings `p`, whose bound must be 1, as that of the script's `heap` line is
abbrev pub script_items : Profile → Objects → List Item
script_items p o = starts p ∷ map (λ c. asks c) (commands_of (entries o))
