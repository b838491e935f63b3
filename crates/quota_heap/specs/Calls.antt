-- What a call of one task finds and does in what all tasks share (g: settings, region, used slots, free pages) and in the task (x); after it they are g' and
-- x'. Also the steps of `find`. No public clause cites this module.
use Rattle.std.specs.Prelude.{◌≡◌, ℕ, ◌+◌, ◌-◌, ◌*◌, ◌<◌, ◌↔◌, IsSome, Option, Some, None, Result, Ok, Err, length, slice_get, slice_index, slice_set}
use Rattle.std.specs.FinMap.{get}
use Rattle.cf_base.specs.declared.results.AccessFault.{AccessFault}
use Rattle.cf_base.specs.declared.results.AccessFault.TheVariants.{Unknown, Range}
use Rattle.cf_base.specs.declared.results.Handle.{Handle}
use Rattle.cf_base.specs.declared.kind.Kind.TheVariants.{Moving}
use Rattle.cf_model.specs.Steps.{Position}
use Rattle.page_model.specs.Bytes.{bytes_at}
use Rattle.page_model.specs.Image.{header_word}
use Rattle.page_model.specs.Paging.{classes}
use Rattle.page_slots.specs.Owner.{HoldsBytesAt, MustMoveInto}
use Rattle.page_slots.specs.Leaving.{Leaves, Parts, parts}
use Rattle.page_slots.specs.Tables.{AreTables, KeepsForeign}
use Rattle.page_slots.specs.Take.{TakesAt}
use Rattle.page_slots.specs.declared.leave.LeftSlot.{LeftSlot}
use Rattle.proxy_table.specs.Proxies.{AreBelowLimit, with_place, without_place}
use Rattle.quota_model.specs.Parts.{key_of}
use Rattle.quota_heap.specs.Costs.{task_fault_steps}
use Rattle.quota_heap.specs.Layout.{as_owner, tables_of, tasks_state_of}
use Rattle.quota_heap.specs.Steps.{IsTaskFault}
use Rattle.quota_heap.specs.declared.shared_pages.SharedPages.{SharedPages}
use Rattle.quota_heap.specs.declared.open_tasks.OpenTasks.{OpenTasks}
use Rattle.quota_heap.specs.declared.task.Task.{Task}

-- what a malloc or a free of task x leaves unchanged: settings, classes, the task's quota, the tables of foreign pages, and the sum of the task's pages and
-- the free ones; the tables and the proxies stay valid
pub record KeepsRest (g : SharedPages) (x : Task) (g' : SharedPages) (x' : Task) : Type 0 where
  pub settings : g'.settings ≡ g.settings
  pub classes : g'.tables.classes ≡ g.tables.classes
  pub quota : x'.quota ≡ x.quota
  pub tables : AreTables g.tables.classes (tables_of g' x')
  pub elsewhere : KeepsForeign (tables_of g x) (tables_of g' x')
  pub handles : AreBelowLimit x'.proxies
  pub account : x'.pages + length g'.tables.pool.free ≡ x.pages + length g.tables.pool.free

-- what `malloc_inner` does: it adds an object of `bytes` bytes to task x, whose number is t; the object gets a free slot of class c and the number q
pub record IsAdded (g : SharedPages) (x : Task) (t c bytes q : ℕ) (g' : SharedPages) (x' : Task) : Type 0 where
  pub rest : KeepsRest g x g' x'
  pub place : ℕ
  pub taken : TakesAt g.tables.classes (tables_of g x) c place (tables_of g' x')
  pub unused : get x.proxies.places q ≡ None
  pub below : q < x.proxies.limit
  pub proxies : x'.proxies ≡ with_place x.proxies q place
  pub words : g'.region ≡ slice_set g.region place (header_word (key_of t q) bytes)
  pub live : x'.live ≡ slice_set x.live c (slice_index x.live c + 1)

-- the parts of task x, and of what all tasks share, that change when the slot of an object of x is left
abbrev pub parts_of : SharedPages → Task → Parts
parts_of g x = parts Moving g.tables x.lists x.proxies (record { blocks = None; region = g.region })

-- those of `parts_of` once the number q of task x is released
abbrev pub parts_without : SharedPages → Task → ℕ → Parts
parts_without g x q = record (parts_of g x) { proxies = without_place x.proxies q }

-- the slot of class c at the address `place`; the headers of task t hold the keys of its objects, `t * 65536` (`first`) plus their numbers
abbrev pub slot_of : SharedPages → ℕ → ℕ → ℕ → LeftSlot
slot_of g t c place = record { class = c; place = place; words = slice_index g.tables.classes.sizes c; first = t * 65536 }

-- what `free_inner` does: it removes object q, which is in the slot s, from task x; and moves another object into that slot if and only if the slot must be
-- filled
pub record IsRemoved (g : SharedPages) (x : Task) (q : ℕ) (s : LeftSlot) (moved : Option Handle) (g' : SharedPages) (x' : Task) : Type 0 where
  pub rest : KeepsRest g x g' x'
  pub due : IsSome moved ↔ MustMoveInto (as_owner g x) s.place s.class
  pub left : Leaves (parts_without g x q) s moved (parts_of g' x')
  pub live : x'.live ≡ slice_set x.live s.class (slice_index x.live s.class - 1)

-- object `position.number` of task x is live, but `position.from` plus `count` exceeds the object's length
pub record IsPastEnd (g : SharedPages) (x : Task) (position : Position) (count : ℕ) : Type 0 where
  pub place : ℕ
  pub found : get x.proxies.places position.number ≡ Some place
  pub past : length (bytes_at g.region place) < position.from + count

-- the cause of each fault of `find`: the object is not live, or the bytes pass its end
abbrev pub IsMissing : SharedPages → Task → Position → ℕ → AccessFault → Type 0
IsMissing g x position count Unknown = get x.proxies.places position.number ≡ None
IsMissing g x position count Range = IsPastEnd g x position count

-- what `find` returns for the object `position.number` of task x: its address, or the fault, whose cause holds
abbrev pub IsTaskFound : SharedPages → Task → Position → ℕ → Result ℕ AccessFault → Type 0
IsTaskFound g x position count (Ok place) = HoldsBytesAt (as_owner g x) position.number position.from count place
IsTaskFound g x position count (Err e) = IsMissing g x position count e

-- the steps of `find`: the proxy and, if the handle is live, the header
abbrev pub task_find_steps : Result ℕ AccessFault → ℕ
task_find_steps (Ok place) = 2
task_find_steps (Err e) = task_fault_steps e

-- what `find` of the open heap h returns for the object `position.number` of task t: its address, or the fault, whose cause holds
abbrev pub IsFoundIn : OpenTasks → ℕ → Position → ℕ → Result ℕ AccessFault → Type 0
IsFoundIn h t position count (Ok place) =
    (x : Task) → slice_get h.tasks.items t ≡ Some x → HoldsBytesAt (as_owner h.shared_pages x) position.number position.from count place
IsFoundIn h t position count (Err e) = IsTaskFault (tasks_state_of h) t position count e
