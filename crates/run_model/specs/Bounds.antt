-- Two claims on every command of a run with pages: how many pages a class may have, and, if every bound is 1, exactly when a malloc is refused.
use Rattle.std.specs.Prelude.{◌≡◌, ℕ, ⊤, ◌⊎◌, ◌↔◌, ◌+◌, ◌/◌, ◌≤◌, ◌<◌, Option, Some, None, codes}
use Rattle.std.specs.FinMap.{get}
use Rattle.cf_base.specs.Classes.{need}
use Rattle.cf_base.specs.declared.kind.Kind.{Kind}
use Rattle.page_model.specs.Arrangement.{pages_of_class, live}
use Rattle.page_model.specs.Held.{objects}
use Rattle.page_model.specs.Paging.{EveryBoundIsOne, bound_of, classes, slots_of}
use Rattle.cf_model.specs.Families.{paged, tiled, family_of}
use Rattle.cf_model.specs.State.{HeapState, paging_in}
use Rattle.script_reader.specs.declared.command.Command.{Command}
use Rattle.script_reader.specs.declared.command.Command.TheVariants.{Malloc}
use Rattle.run_model.specs.Sessions.{RunState}
pub use Rattle.id_table.specs.Named.{LacksProxyOrPages}
use Rattle.run_model.specs.Texts.{Reply, said}

-- in heap `s`, each class `c` has at most ⌊n/m⌋ + k pages: `n` is its live objects, `m` the slots of a page, `k` its bound
abbrev pub HasFewPages : HeapState → Type 0
HasFewPages s = (c : ℕ) → c < classes (paging_in s) → pages_of_class (paging_in s) s.held c ≤ live (paging_in s) (objects s.held) c / slots_of
    (paging_in s) c + bound_of (paging_in s) c

-- the reply is `refused proxy` or `refused space`, so not `refused size`
abbrev pub RefusesForProxyOrSpace : Reply → Type 0
RefusesForProxyOrSpace reply = (reply ≡ said (codes "refused proxy")) ⊎ (reply ≡ said (codes "refused space"))

-- The first argument is the handle of the malloc's id, `None` if the id isn't live. If it isn't live, every bound is 1 and an object of `bytes` bytes fits a
-- page, then the reply is `refused proxy` or `refused space` if and only if `LacksProxyOrPages` holds before the malloc.
abbrev pub RefusesByNeed : Option ℕ → HeapState → ℕ → Reply → Type 0
RefusesByNeed (Some h) s bytes reply = ⊤
RefusesByNeed None s bytes reply = EveryBoundIsOne (paging_in s) → need bytes ≤ s.profile.page_words → RefusesForProxyOrSpace reply ↔ LacksProxyOrPages s bytes

-- the claim `RefusesByNeed` on the reply to a malloc in state `old`; of other commands nothing is claimed
abbrev pub Refuses : RunState → Command → Reply → Type 0
Refuses old (Malloc id bytes) reply = RefusesByNeed (get old.session.ids id) old.heap bytes reply
Refuses old command reply = ⊤

-- with pages: `HasFewPages` holds after the command, and `Refuses` of its reply; with blocks nothing is claimed
abbrev pub MeetsBounds : Kind → RunState → Command → Reply → RunState → Type 0
MeetsBounds kind old command reply new = elim (family_of kind) [ paged ↦ HasFewPages new.heap × Refuses old command reply | tiled ↦ ⊤ ]
