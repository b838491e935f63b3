-- For `half.rt`: the open heap of the Half-Fit manager, and its free-list rule.
use denote.RattleType.{RattleType}
use Rattle.half_fit_heap.specs.contracts.buckets.HalfFitBuckets.{the_row}
use Rattle.half_fit_heap.specs.contracts.buckets.HalfFitBucketsBuckets.TheImpl as buckets
use Rattle.half_fit_heap.specs.contracts.heap.HalfFitBucketsFitPolicy.TheImpl as policy
use Rattle.held_heap.specs.LooseTag.{Rule}
use Rattle.held_heap.specs.Tag as tag

-- the free-list rule of Half-Fit
abbrev pub rule : Rule
rule = tag.rule_of the_row policy.ghosts buckets.ghosts

-- an open heap of the Half-Fit manager, `Held`
abbrev pub open_heap : RattleType
open_heap = tag.open_heap the_row policy.ghosts buckets.ghosts
