-- How a load of an image changes the counters of a session: its step bound, and the objects and words that moved.
use Rattle.std.specs.Prelude.{◌≡◌, ◌⊎◌, ◌+◌, ◌*◌, Bool, Result, Ok, Err, if◌then◌else◌, nat_lt}
use Rattle.std.specs.FinMap.{len}
use Rattle.cf_base.specs.declared.results.Freed.{Freed}
use Rattle.id_table.specs.Ids.{Ids}
use Rattle.id_table.specs.Sessions.{RunState, SessionState, counted}
use Rattle.heap_image.specs.Heaps.{live_objects}
use Rattle.heap_image.specs.declared.fault.LoadFault.{LoadFault}

-- The session s after mallocs and writes, which move no object. Its ids are `ids`; if there was a malloc (`some`), its step bound is that of a malloc, 64.
abbrev pub after_mallocs : SessionState → Bool → Ids → SessionState
after_mallocs s some ids = record s { ids = ids; bound = if some then 64 else s.bound }

-- How a load whose last command was a free changed the session `old` to `new`: the step bound is that of the free, and if the free moved an object, this move
-- is added to the counts of `old`. `freed` is the manager's result of the free: the object that moved, if one did, and the words of the slot.
pub record CountsFree (old new : SessionState) : Type 0 where
  pub freed : Freed
  -- 96 + 2s is the step bound of a free, where s is the words of the slot
  pub counts : new ≡ counted (record old { ids = new.ids; bound = 96 + 2 * freed.slot_words }) freed.moved freed.slot_words

-- How a load that failed changed the session `old` to `new`: there were only mallocs (`some`: at least one) and writes;
-- or the last command freed the object whose bytes were cut or couldn't be read.
abbrev pub CountsStop : SessionState → SessionState → Type 0
CountsStop old new = ((some : Bool) × (new ≡ after_mallocs old some new.ids)) ⊎ CountsFree old new

-- How a load changed the session `old`, by its result; `to` is the run after it. If an image was loaded with at least one object, the step bound
-- is that of a malloc; after an image without objects it is the old one. A load that failed changed the session as in `CountsStop`.
abbrev pub CountsLoad : {T : Type 0} → SessionState → Result T LoadFault → RunState → Type 0
CountsLoad old (Ok loaded) to = to.session ≡ after_mallocs old (nat_lt 0 (len (live_objects to))) to.session.ids
CountsLoad old (Err fault) to = CountsStop old to.session
