-- The law `Send` of an open heap with blocks, for each free-list rule.
use denote.Param.Send.{IsSend}
use denote.RattleType.{RattleType}
use Rattle.tag_blocks.specs.declared.buckets.Buckets as buckets
use Rattle.tag_heap.specs.contracts.manager.TagHeap as tag_heap
use Rattle.tag_heap.specs.contracts.manager.TagHeapManager.TheImpl as manager
use Rattle.tag_heap.specs.contracts.manager.TagHeapStepBounds.TheImpl as step_bounds
use Rattle.tag_heap.specs.declared.fit_policy.FitPolicy as policy
use Rattle.tag_heap.proofs.manager.TagHeap.TheSendSync.{the_send as heap}
use Rattle.held_heap.specs.Tag.{open_heap}
use Rattle.held_heap.specs.contracts.of_kind.TagHeapOfKind.TheImpl as of_kind
use Rattle.held_heap.proofs.held.Held.TheSendSync.{the_send as held}

pub heap-send : (R : RattleType) (P : policy.Ghosts R.Denot) (B : buckets.Ghosts R.Denot) → IsSend (open_heap R P B)
heap-send R P B = held
    (tag_heap.the_row R P B)
    (of_kind.ghosts R P of_kind.no_dict B of_kind.no_dict of_kind.no_dict)
    (manager.ghosts R P manager.no_dict B manager.no_dict manager.no_dict)
    (step_bounds.ghosts R P step_bounds.no_dict B step_bounds.no_dict step_bounds.no_dict)
    (heap R P B)
