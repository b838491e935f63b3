-- The figures that a sliced heap shows of a class and of the whole heap, and for a caller that plans a call the words of an object's slot, with the steps of
-- the call that returns them. A pending job's slot counts as used and its words as taken, as if an object (the job's placeholder) were in it, so that its page
-- is one of its class; but the slot is no live object, and no bytes are asked for it.
use Rattle.std.specs.Prelude.{ℕ, Option, Some, None, if◌then◌else◌, nat_lt, option_map}
use Rattle.std.specs.FinMap.{get, len}
use Rattle.cf_base.specs.declared.results.Figures.{Figures}
use Rattle.cf_base.specs.declared.results.Totals.{Totals}
use Rattle.page_model.specs.Arrangement.{class_at, live}
use Rattle.page_model.specs.Figures.{asked_bytes, figures_of, totals_of}
use Rattle.page_model.specs.Held.{Held, Placed, objects}
use Rattle.page_model.specs.Paging.{classes, slot_words}
use Rattle.slice_model.specs.State.{Plan, Sliced, occupied}

-- the figures of class c in the state s: those of the objects and the job's placeholder, but the live objects are the objects alone
abbrev pub class_figures : Plan → Sliced → ℕ → Figures
class_figures plan s c = record (figures_of plan.paging (occupied plan s) c) { live = live plan.paging (objects s.held) c }

-- the figures of class c in the state s; none if there is no such class
abbrev pub sliced_figures_in : Plan → Sliced → ℕ → Option Figures
sliced_figures_in plan s c = if nat_lt c (classes plan.paging) then Some (class_figures plan s c) else None

-- the figures of the whole heap in the state s: those of the objects and the job's placeholder, but the live objects and the bytes asked are the objects' alone
abbrev pub sliced_totals_in : Plan → Sliced → Totals
sliced_totals_in plan s = record (totals_of plan.paging (occupied plan s)) { live = len s.held; asked = asked_bytes (objects s.held) }

-- the number of words of the slot of object n of the objects m; none if n is not live
abbrev pub slot_words_in : Plan → Held → ℕ → Option ℕ
slot_words_in plan m n = option_map (λ (x : Placed). slot_words plan.paging (class_at plan.paging x)) (get m n)

-- the steps of a call for the words of an object's slot: the proxy and, if the object is live, the header and the class
abbrev pub sliced_words_steps : {T : Type 0} → Option T → ℕ
sliced_words_steps (Some n) = 3
sliced_words_steps None = 1
