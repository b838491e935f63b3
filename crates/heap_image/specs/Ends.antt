-- How a load ends after the settings: what `load_objects`, `load_entries` and `read_end` claim. No public clause cites this module.
use Rattle.std.specs.Prelude.{◌≡◌, ℕ, List, [], ◌∷◌, Some, Result, Ok, Err}
use Rattle.cf_base.specs.Settings.{Profile}
use Rattle.cf_io.specs.Feeds.{IsSpent}
use Rattle.page_model.specs.Held.{Objects}
use Rattle.id_table.specs.Sessions.{RunState}
use Rattle.heap_image.specs.Decoded.{BreaksNoRule, Decoded, whole}
use Rattle.heap_image.specs.Feed.{Feed, TakesBytes}
use Rattle.heap_image.specs.Load.{HoldsObjects}
use Rattle.heap_image.specs.Stages.{DecodesAs, ReadsBroken}
use Rattle.heap_image.specs.declared.fault.LoadFault.{LoadFault}
use Rattle.heap_image.specs.declared.fault.LoadFault.TheVariants as fault

-- How reading the objects ended, by the result. `reading` decodes the bytes that were still to be read under the settings p, and t is what it decodes the
-- bytes taken to. `had` and `left` are the source before and after, `to` is the run after. `Ok`: all was read, and the heap holds the objects o. `Bad`: the
-- field at the offset `at` breaks a rule or is cut, and the heap holds the objects before that field. `Read`: the source failed, t breaks no rule, and the heap
-- holds the objects of the whole entries that were read.
abbrev pub EndsReading : (List ℕ → Decoded) → Profile → Feed → Result Unit LoadFault → Feed → RunState → Type 0
EndsReading reading p had (Ok u) left to = (o : Objects) × DecodesAs reading had left (whole p o) × IsSpent left.rest × HoldsObjects p o to
EndsReading reading p had (Err (fault.Bad at)) left to =
    (t : Decoded) × (t.broken ≡ Some at) × (t.settings ≡ Some p) × ReadsBroken reading had left t × HoldsObjects p t.objects to
EndsReading reading p had (Err fault.Read) left to =
    (t : Decoded) × (t.settings ≡ Some p) × DecodesAs reading had left t × BreaksNoRule t × HoldsObjects p t.objects to
EndsReading reading p had (Err fault.OutOfMemory) left to = ⊥

-- What `read_end` found at the offset `at`, by its result: the source had ended; or it returned one byte more; or it failed.
-- `had` and `left` are the source before and after.
abbrev pub EndRead : ℕ → Feed → Result Unit LoadFault → Feed → Type 0
EndRead at had (Ok u) left = TakesBytes [] had left × IsSpent left.rest
EndRead at had (Err (fault.Bad b)) left = (b ≡ at) × ((byte : ℕ) × TakesBytes (byte ∷ []) had left)
EndRead at had (Err fault.Read) left = TakesBytes [] had left
EndRead at had (Err fault.OutOfMemory) left = ⊥
