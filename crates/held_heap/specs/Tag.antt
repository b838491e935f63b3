-- For `tlsf.rt` and `half.rt`: for each free-list rule the types of an open heap with blocks (`Held`) and of its fields in the kit's logic of memory; and the
-- managers' step bounds. The kit generates `the_row`, the type of a struct, and `ghosts`, the ghost members of a trait's implementation.
use denote.RattleType.{RattleType}
use Rattle.std.specs.Prelude.{Option, Some}
use Rattle.cf_model.specs.Bounds.{Bounds}
use Rattle.tag_blocks.specs.declared.buckets.Buckets as buckets
use Rattle.tag_heap.specs.Costs.{block_bounds}
use Rattle.tag_heap.specs.contracts.manager.TagHeap as heap
use Rattle.tag_heap.specs.contracts.manager.TagHeapManager.TheImpl as manager
use Rattle.tag_heap.specs.contracts.manager.TagHeapStepBounds.TheImpl as step_bounds
use Rattle.tag_heap.specs.declared.fit_policy.FitPolicy as policy
use Rattle.held_heap.specs.LooseTag.{Rule}
use Rattle.held_heap.specs.contracts.held.Held as held
use Rattle.held_heap.specs.contracts.loose_tag.LooseTag as loose
use Rattle.held_heap.specs.contracts.of_kind.TagHeapOfKind.TheImpl as of_kind

module _ (R : RattleType) (P : policy.Ghosts R.Denot) (B : buckets.Ghosts R.Denot) where
  -- the rule of the type R, by the ghost members of its traits
  abbrev pub rule_of : Rule
  rule_of = record { kind = P.kind; lists = B.rule; count = B.COUNT }

  -- an open heap with this rule, `Held`
  abbrev pub open_heap : RattleType
  open_heap = held.the_row
      (heap.the_row R P B)
      (of_kind.ghosts R P of_kind.no_dict B of_kind.no_dict of_kind.no_dict)
      (manager.ghosts R P manager.no_dict B manager.no_dict manager.no_dict)
      (step_bounds.ghosts R P step_bounds.no_dict B step_bounds.no_dict step_bounds.no_dict)

-- the fields of an open heap with blocks, `LooseTag`
abbrev pub loose_heap : RattleType
loose_heap = loose.the_row

-- the step bounds of the managers with blocks
abbrev pub bounds : Option Bounds
bounds = Some block_bounds
