-- What a caller in C gets of a result: the code that a call returns, and the number or structure that it writes. `before` is what the caller had before the call.
use Rattle.std.specs.Prelude.{ℕ, ℤ, pos, List, Option, Some, None, Result, Ok, Err}
use Rattle.cf_base.specs.declared.results.Figures.{Figures}
use Rattle.cf_base.specs.declared.results.Freed.{Freed}
use Rattle.cf_base.specs.declared.results.Handle.{Handle}
use Rattle.cf_base.specs.declared.results.NotLive.{NotLive}
use Rattle.cf_base.specs.declared.results.Totals.{Totals}
use Rattle.c_base.specs.Handles.{handle_of, moved_handle}
use Rattle.c_base.specs.declared.results.NphClass.{NphClass}
use Rattle.c_base.specs.declared.results.NphFreed.{NphFreed}
use Rattle.c_base.specs.declared.results.NphHeapTotals.{NphHeapTotals}

-- the caller's number after a malloc: the new handle, or after a refusal the number before the call
abbrev pub malloc_number : {E : Type 0} → List ℕ → ℕ → Result Handle E → ℕ
malloc_number handles before (Ok h) = handle_of handles h.0
malloc_number handles before (Err e) = before

-- the caller's structure after a free with this result: what was freed and moved, or after a refusal the structure before the call
abbrev pub freed_shown : List ℕ → NphFreed → Result Freed NotLive → NphFreed
freed_shown handles before (Ok f) = record { slot_words = f.slot_words; moved = moved_handle handles f.moved }
freed_shown handles before (Err e) = before

-- the code of a call that looks something up, such as a class or a live object: 0 if it is there, else 4 (`UNKNOWN`)
abbrev pub found_code : {T : Type 0} → Option T → ℤ
found_code (Some x) = pos 0
found_code None = pos 4

-- the caller's number after a call that looks up a number: the number found, or the number before the call if there is none
abbrev pub found_number : Option ℕ → ℕ → ℕ
found_number (Some n) before = n
found_number None before = before

-- the code of a call for the class of a length: 0, or 1 (`SIZE`) if an object of that length needs more than a page
abbrev pub class_code : Option ℕ → ℤ
class_code (Some c) = pos 0
class_code None = pos 1

-- the figures of a class, as C gets them
abbrev pub class_shown : Figures → NphClass
class_shown f = record { slot_words = f.slot_words; slots = f.slots; live = f.live; pages = f.pages; not_full = f.not_full }

-- the caller's structure after a call for the figures of a class; unchanged if there is no such class
abbrev pub figures_shown : Option Figures → NphClass → NphClass
figures_shown (Some f) before = class_shown f
figures_shown None before = before

-- the caller's structure after a call for the figures of the whole heap
abbrev pub totals_shown : Totals → NphHeapTotals
totals_shown t = record { asked = t.asked; taken = t.taken; held = t.held; live = t.live; used = t.used; free = t.free; largest = t.largest }
