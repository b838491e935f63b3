-- For `moving.rt`: the types of an open heap of the moving manager (`Held`) and of its fields in the kit's logic of memory, and the manager's step bounds. The
-- kit generates `the_row`, the type of a struct, and `ghosts`, the ghost members of a trait's implementation.
use denote.RattleType.{RattleType}
use Rattle.std.specs.Prelude.{Option, Some}
use Rattle.cf_base.specs.declared.kind.Kind.TheVariants.{Moving}
use Rattle.cf_model.specs.Bounds.{Bounds}
use Rattle.paged_heap.specs.Most.{page_bounds}
use Rattle.paged_heap.specs.contracts.manager.PagedHeap as heap
use Rattle.paged_heap.specs.contracts.manager.PagedHeapManager.TheImpl as manager
use Rattle.paged_heap.specs.contracts.manager.PagedHeapStepBounds.TheImpl as step_bounds
use Rattle.paged_heap.specs.contracts.page_kind.DirectPageKind.TheImpl as page_kind
use Rattle.virtual_words.specs.contracts.direct.Direct.{the_row}
use Rattle.virtual_words.specs.contracts.direct.DirectMapping.TheImpl as mapping
use Rattle.held_heap.specs.contracts.held.Held as held
use Rattle.held_heap.specs.contracts.loose.LooseHeld as loose
use Rattle.held_heap.specs.contracts.of_kind.PagedHeapOfKind.TheImpl as of_kind

-- an open heap of the moving manager, `Held`
abbrev pub open_heap : RattleType
open_heap = held.the_row
    (heap.the_row the_row mapping.ghosts)
    (of_kind.ghosts the_row page_kind.ghosts of_kind.no_dict mapping.ghosts of_kind.no_dict)
    (manager.ghosts the_row page_kind.ghosts manager.no_dict mapping.ghosts manager.no_dict)
    (step_bounds.ghosts the_row page_kind.ghosts step_bounds.no_dict mapping.ghosts step_bounds.no_dict)

-- the fields of an open heap of the moving manager, `LooseHeld`
abbrev pub loose_heap : RattleType
loose_heap = loose.the_row

-- the step bounds of the manager
abbrev pub bounds : Option Bounds
bounds = Some (page_bounds Moving)
