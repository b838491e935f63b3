-- How one entry of an image is loaded: what `read_entry` and the functions below it claim. No public clause cites this module.
use Rattle.std.specs.Prelude.{◌≡◌, ◌≤◌, ℕ, List, length, Some, Result, Ok, Err}
use Rattle.std.specs.FinMap.{insert, remove}
use Rattle.id_table.specs.Sessions.{RunState}
use Rattle.heap_image.specs.Decoded.{Decoded, Reached, passed}
use Rattle.heap_image.specs.Feed.{Feed, TakesBytes}
use Rattle.heap_image.specs.Heaps.{live_objects}
use Rattle.heap_image.specs.Stages.{LeadsTo, WholeFields, StopsReading, StopsInField}
use Rattle.heap_image.specs.declared.fault.LoadFault.{LoadFault}
use Rattle.heap_image.specs.declared.objects_in.Entry.{Entry}

-- how far a load has come: the live objects of the run s by id, the least id that the next entry may have, and the offset of that entry
abbrev pub reached_in : RunState → ℕ → ℕ → Reached
reached_in s next at = record { next = next; objects = live_objects s; at = at }

-- What reading one entry did, by the result. `reading` decodes the bytes from the entry on, and `go` those after it. r is how far the load had come before
-- the entry. `had` and `left` are the source before and after, `old` and `new` the run. `Ok e`: an entry with the id and the length of e was read, and the
-- heap holds its object, the bytes v, besides those of r. `Err f`: the reading stopped with the fault f, and the heap holds the objects of r alone.
abbrev pub ReadsEntry : (List ℕ → Decoded) → (Reached → List ℕ → Decoded) → RunState → Reached → Feed → Result Entry LoadFault → Feed → RunState → Type 0
ReadsEntry reading go old r had (Ok e) left new = (v : List ℕ) × (length v ≡ e.length) × (r.next ≤ e.id) × WholeFields reading had left (go (passed r e.id v))
    × LeadsTo old new (insert r.objects e.id v)
ReadsEntry reading go old r had (Err f) left new = StopsReading (Some old.heap.profile) r.objects reading had f left × LeadsTo old new r.objects

-- What filling the object of an id did, by the result: the object got the next n bytes of the source, v; or these, which begin at the offset `at`,
-- were cut or couldn't be read, and the object was freed. `had` and `left` are the source before and after, `old` and `new` the run.
abbrev pub FillsObject : ℕ → ℕ → RunState → ℕ → Feed → Result Unit LoadFault → Feed → RunState → Type 0
FillsObject n at old id had (Ok u) left new = (v : List ℕ) × (length v ≡ n) × TakesBytes v had left × LeadsTo old new (insert (live_objects old) id v)
FillsObject n at old id had (Err f) left new = StopsInField n at had f left × LeadsTo old new (remove (live_objects old) id)
