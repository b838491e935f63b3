use Rattle.std.proofs.Common.{arith}
use Rattle.tag_blocks.proofs.LongestLemmas.{passed_all, passed_over, walk_start, walk_end, walk_over, walk_within, walk_step}
use Rattle.step_ledger.proofs.CallerLemmas.{rose_both, rose_none}
use Rattle.tag_blocks.proofs.CostLemmas.{by_same}
use Rattle.tag_blocks.proofs.links.largest_in_list.Goals as goal

pub walk-init : goal.walk-init
walk-init c = record { walks = λ xs l. walk_start _ _ _ xs c.len-words.ensures.len l; taken = by_same _ _ _ _ (rose_none _) (omega arith) }

pub returns-then-at-clause-value : goal.returns-then-at-clause-value
returns-then-at-clause-value c xs l = walk_end _ _ _ _ _ xs (c.walk.invariant.walks xs l) c.if-at.true

pub read-size-requires : goal.read-size-requires
read-size-requires c = (let w = walk_within _ _ _ _ _ _ (c.walk.invariant.walks c.requires.listed.0 c.requires.listed.1) c.if-at.false in record
    { within = omega arith })

pub read-at-requires-clause-within : goal.read-at-requires-clause-within
read-at-requires-clause-within c = walk_within _ _ _ _ _ _ (c.walk.invariant.walks c.requires.listed.0 c.requires.listed.1) c.if-at.false

pub walk-preserved : goal.walk-preserved
walk-preserved c = record {
  walks = λ xs l. walk_step _ _ _ _ _ xs (c.walk.invariant.walks xs l) _ _ _ _ c.if-at.false c.read-size.ensures.size c.read-at.ensures.next c.max-best.ensures
      (omega arith);
  taken = by_same _ _ _ _ (rose_both _ _ _ _ _ c.walk.invariant.taken (rose_both _ _ _ _ _ c.read-size.ensures.steps c.read-at.ensures.steps)) (omega arith);
}

pub returns-clause-value : goal.returns-clause-value
returns-clause-value c xs l = walk_over _ _ _ _ _ xs (c.walk.invariant.walks xs l) (omega arith)

pub returns-then-at-clause-steps : goal.returns-then-at-clause-steps
returns-then-at-clause-steps c xs l =
    let p = passed_all _ _ _ _ _ xs (c.walk.invariant.walks xs l) c.if-at.true in
    by_same _ _ _ _ c.walk.invariant.taken (omega arith)

pub returns-clause-steps : goal.returns-clause-steps
returns-clause-steps c xs l =
    let p = passed_over _ _ _ _ _ xs (c.walk.invariant.walks xs l) (omega arith) in
    by_same _ _ _ _ c.walk.invariant.taken (omega arith)
