-- For `tlsf.rt`: the open heap of the TLSF manager, and its free-list rule.
use denote.RattleType.{RattleType}
use Rattle.tlsf_heap.specs.contracts.buckets.TlsfBuckets.{the_row}
use Rattle.tlsf_heap.specs.contracts.buckets.TlsfBucketsBuckets.TheImpl as buckets
use Rattle.tlsf_heap.specs.contracts.heap.TlsfBucketsFitPolicy.TheImpl as policy
use Rattle.held_heap.specs.LooseTag.{Rule}
use Rattle.held_heap.specs.Tag as tag

-- the free-list rule of TLSF
abbrev pub rule : Rule
rule = tag.rule_of the_row policy.ghosts buckets.ghosts

-- an open heap of the TLSF manager, `Held`
abbrev pub open_heap : RattleType
open_heap = tag.open_heap the_row policy.ghosts buckets.ghosts
