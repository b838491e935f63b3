-- For `nonmoving.rt`: the type of an open heap of the non-moving manager (`Held`) in the kit's logic of memory, and the manager's step bounds. The kit
-- generates `the_row`, the type of a struct, and `ghosts`, the ghost members of a trait's implementation.
use denote.RattleType.{RattleType}
use Rattle.std.specs.Prelude.{Option, Some}
use Rattle.cf_base.specs.declared.kind.Kind.TheVariants.{NonMoving}
use Rattle.cf_model.specs.Bounds.{Bounds}
use Rattle.paged_heap.specs.Most.{page_bounds}
use Rattle.paged_heap.specs.contracts.manager.PagedHeap as heap
use Rattle.paged_heap.specs.contracts.manager.PagedHeapManager.TheImpl as manager
use Rattle.paged_heap.specs.contracts.manager.PagedHeapStepBounds.TheImpl as step_bounds
use Rattle.paged_heap.specs.contracts.page_kind.MappedPageKind.TheImpl as page_kind
use Rattle.virtual_words.specs.contracts.mapped.Mapped.{the_row}
use Rattle.virtual_words.specs.contracts.mapped.MappedMapping.TheImpl as mapping
use Rattle.held_heap.specs.contracts.held.Held as held
use Rattle.held_heap.specs.contracts.of_kind.PagedHeapOfKind.TheImpl as of_kind

-- an open heap of the non-moving manager, `Held`
abbrev pub open_heap : RattleType
open_heap = held.the_row
    (heap.the_row the_row mapping.ghosts)
    (of_kind.ghosts the_row page_kind.ghosts of_kind.no_dict mapping.ghosts of_kind.no_dict)
    (manager.ghosts the_row page_kind.ghosts manager.no_dict mapping.ghosts manager.no_dict)
    (step_bounds.ghosts the_row page_kind.ghosts step_bounds.no_dict mapping.ghosts step_bounds.no_dict)

-- the step bounds of the manager
abbrev pub bounds : Option Bounds
bounds = Some (page_bounds NonMoving)
