use Rattle.std.proofs.Common.{◌≡◌, ◌+◌, ◌-◌, length, arith, ap, ◌∙◌}
use Rattle.block_model.specs.Costs.{before_steps}
use Rattle.tag_blocks.proofs.ClaimLemmas.{claim_counts, claim_listed, claim_size}
use Rattle.step_ledger.proofs.CallerLemmas.{rose_both}
use Rattle.tag_blocks.proofs.CostLemmas.{by_same}
use Rattle.tag_blocks.proofs.SplitLemmas.{split_sizes, split_linked, split_kept, split_turns, split_steps}
use Rattle.tag_blocks.proofs.SplitLemmas.{split_lists}
use Rattle.tag_blocks.proofs.ListedLemmas.{seen_listed}
use Rattle.tag_blocks.proofs.blocks.TagBlocks.split.Goals as goal

pub bucket-list-requires-clause-some : goal.bucket-list-requires-clause-some
bucket-list-requires-clause-some g c =
    let s = split_sizes _ _ _ _ c.self.invariant c.self.view_is c.args.at c.args.need c.requires.some c.requires.free.0 c.requires.free.1 in
    let e = claim_size _ _ _ _ c.self.invariant c.self.view_is c.args.at c.requires.free.0 c.requires.free.1.between _ (rw (← c.self.view_is) at c.requires.described) in
    let r = s.0 in let h = s.1 in let m = s.2 in omega arith

pub bucket-list-requires-clause-few : goal.bucket-list-requires-clause-few
bucket-list-requires-clause-few g c =
    let s = split_sizes _ _ _ _ c.self.invariant c.self.view_is c.args.at c.args.need c.requires.some c.requires.free.0 c.requires.free.1 in
    let e = claim_size _ _ _ _ c.self.invariant c.self.view_is c.args.at c.requires.free.0 c.requires.free.1.between _ (rw (← c.self.view_is) at c.requires.described) in
    let r = s.0 in let h = s.1 in let m = s.2 in omega arith

pub unlink-requires-clause-list : goal.unlink-requires-clause-list
unlink-requires-clause-list g c =
    let s = split_sizes _ _ _ _ c.self.invariant c.self.view_is c.args.at c.args.need c.requires.some c.requires.free.0 c.requires.free.1 in
    let e = claim_size _ _ _ _ c.self.invariant c.self.view_is c.args.at c.requires.free.0 c.requires.free.1.between _ (rw (← c.self.view_is) at c.requires.described) in
    let r = s.0 in let h = s.1 in let m = s.2 in
    let below = g.met.B.Buckets.lawful.below c.args.header.size (omega arith) (omega arith) in
    omega (arith, below, c.bucket-list.ensures, c.self.invariant.as_many)

pub unlink-requires-clause-linked : goal.unlink-requires-clause-linked
unlink-requires-clause-linked g c = (
  c.self.invariant.lists,
  c.self.invariant.kept.linked,
  claim_listed _ _ _ _ c.self.invariant c.self.view_is c.args.at c.requires.free.0 c.requires.free.1.between _ _ (rw (← c.self.view_is) at c.requires.described) c.bucket-list.ensures,
)

pub write-requires-clause-within : goal.write-requires-clause-within
write-requires-clause-within g c =
    let s = split_sizes _ _ _ _ c.self.invariant c.self.view_is c.args.at c.args.need c.requires.some c.requires.free.0 c.requires.free.1 in
    let r = s.0 in let h = s.1 in let m = s.2 in omega arith

pub write-requires-clause-small : goal.write-requires-clause-small
write-requires-clause-small g c =
    let s = split_sizes _ _ _ _ c.self.invariant c.self.view_is c.args.at c.args.need c.requires.some c.requires.free.0 c.requires.free.1 in
    let r = s.0 in let h = s.1 in let m = s.2 in omega arith

pub overflow_add-at : goal.overflow_add-at
overflow_add-at g c =
    let s = split_sizes _ _ _ _ c.self.invariant c.self.view_is c.args.at c.args.need c.requires.some c.requires.free.0 c.requires.free.1 in
    let r = s.0 in let h = s.1 in let m = s.2 in omega arith

pub write-requires-2 : goal.write-requires-2
write-requires-2 g c =
    let s = split_sizes _ _ _ _ c.self.invariant c.self.view_is c.args.at c.args.need c.requires.some c.requires.free.0 c.requires.free.1 in
    let r = s.0 in let h = s.1 in let m = s.2 in record { within = omega arith }

pub overflow_sub-over : goal.overflow_sub-over
overflow_sub-over g c =
    let s = split_sizes _ _ _ _ c.self.invariant c.self.view_is c.args.at c.args.need c.requires.some c.requires.free.0 c.requires.free.1 in
    let e = claim_size _ _ _ _ c.self.invariant c.self.view_is c.args.at c.requires.free.0 c.requires.free.1.between _ (rw (← c.self.view_is) at c.requires.described) in
    let r = s.0 in let h = s.1 in let m = s.2 in omega arith

pub overflow_add-at-2 : goal.overflow_add-at-2
overflow_add-at-2 g c =
    let s = split_sizes _ _ _ _ c.self.invariant c.self.view_is c.args.at c.args.need c.requires.some c.requires.free.0 c.requires.free.1 in
    let e = claim_size _ _ _ _ c.self.invariant c.self.view_is c.args.at c.requires.free.0 c.requires.free.1.between _ (rw (← c.self.view_is) at c.requires.described) in
    let r = s.0 in let h = s.1 in let m = s.2 in omega arith

pub write-requires-3-clause-within : goal.write-requires-3-clause-within
write-requires-3-clause-within g c =
    let s = split_sizes _ _ _ _ c.self.invariant c.self.view_is c.args.at c.args.need c.requires.some c.requires.free.0 c.requires.free.1 in
    let e = claim_size _ _ _ _ c.self.invariant c.self.view_is c.args.at c.requires.free.0 c.requires.free.1.between _ (rw (← c.self.view_is) at c.requires.described) in
    let r = s.0 in let h = s.1 in let m = s.2 in omega arith

pub write-requires-3-clause-small : goal.write-requires-3-clause-small
write-requires-3-clause-small g c =
    let s = split_sizes _ _ _ _ c.self.invariant c.self.view_is c.args.at c.args.need c.requires.some c.requires.free.0 c.requires.free.1 in
    let e = claim_size _ _ _ _ c.self.invariant c.self.view_is c.args.at c.requires.free.0 c.requires.free.1.between _ (rw (← c.self.view_is) at c.requires.described) in
    let r = s.0 in let h = s.1 in let m = s.2 in omega arith

pub overflow_add-at-3 : goal.overflow_add-at-3
overflow_add-at-3 g c =
    let s = split_sizes _ _ _ _ c.self.invariant c.self.view_is c.args.at c.args.need c.requires.some c.requires.free.0 c.requires.free.1 in
    let e = claim_size _ _ _ _ c.self.invariant c.self.view_is c.args.at c.requires.free.0 c.requires.free.1.between _ (rw (← c.self.view_is) at c.requires.described) in
    let r = s.0 in let h = s.1 in let m = s.2 in omega arith

pub bucket-list-requires-2-clause-some : goal.bucket-list-requires-2-clause-some
bucket-list-requires-2-clause-some g c =
    let s = split_sizes _ _ _ _ c.self.invariant c.self.view_is c.args.at c.args.need c.requires.some c.requires.free.0 c.requires.free.1 in
    let e = claim_size _ _ _ _ c.self.invariant c.self.view_is c.args.at c.requires.free.0 c.requires.free.1.between _ (rw (← c.self.view_is) at c.requires.described) in
    let r = s.0 in let h = s.1 in let m = s.2 in omega arith

pub bucket-list-requires-2-clause-few : goal.bucket-list-requires-2-clause-few
bucket-list-requires-2-clause-few g c =
    let s = split_sizes _ _ _ _ c.self.invariant c.self.view_is c.args.at c.args.need c.requires.some c.requires.free.0 c.requires.free.1 in
    let e = claim_size _ _ _ _ c.self.invariant c.self.view_is c.args.at c.requires.free.0 c.requires.free.1.between _ (rw (← c.self.view_is) at c.requires.described) in
    let r = s.0 in let h = s.1 in let m = s.2 in omega arith

pub overflow_add-at-4 : goal.overflow_add-at-4
overflow_add-at-4 g c =
    let s = split_sizes _ _ _ _ c.self.invariant c.self.view_is c.args.at c.args.need c.requires.some c.requires.free.0 c.requires.free.1 in
    let e = claim_size _ _ _ _ c.self.invariant c.self.view_is c.args.at c.requires.free.0 c.requires.free.1.between _ (rw (← c.self.view_is) at c.requires.described) in
    let r = s.0 in let h = s.1 in let m = s.2 in omega arith

pub push-requires-clause-within : goal.push-requires-clause-within
push-requires-clause-within g c =
    let s = split_sizes _ _ _ _ c.self.invariant c.self.view_is c.args.at c.args.need c.requires.some c.requires.free.0 c.requires.free.1 in
    let e = claim_size _ _ _ _ c.self.invariant c.self.view_is c.args.at c.requires.free.0 c.requires.free.1.between _ (rw (← c.self.view_is) at c.requires.described) in
    let r = s.0 in let h = s.1 in let m = s.2 in omega arith

pub push-requires-clause-list : goal.push-requires-clause-list
push-requires-clause-list g c =
    let s = split_sizes _ _ _ _ c.self.invariant c.self.view_is c.args.at c.args.need c.requires.some c.requires.free.0 c.requires.free.1 in
    let e = claim_size _ _ _ _ c.self.invariant c.self.view_is c.args.at c.requires.free.0 c.requires.free.1.between _ (rw (← c.self.view_is) at c.requires.described) in
    let r = s.0 in let h = s.1 in let m = s.2 in
    let below = g.met.B.Buckets.lawful.below (c.args.header.size - c.args.need) (omega arith) (omega arith) in
    omega (arith, below, c.bucket-list-2.ensures, c.self.invariant.as_many)

pub push-requires-clause-linked : goal.push-requires-clause-linked
push-requires-clause-linked g c =
    rw (c.set_before.ensures.words, c.write-3.ensures.words, c.write-2.ensures.words, c.write.ensures.words) (split_linked _ _ _ _ c.self.invariant c.self.view_is c.args.at c.args.need c.requires.some c.requires.free.0 c.requires.free.1
    c.args.tag _ _ _ _ _ c.unlink.ensures.heads c.unlink.ensures.words (rw (← c.self.view_is) at c.requires.described) (rw (← c.self.view_is) at c.requires.before) c.bucket-list.ensures c.unlink.ensures.unlinked)

pub overflow_add-self : goal.overflow_add-self
overflow_add-self g c =
    let n = claim_counts _ _ _ _ c.self.invariant c.self.view_is c.args.at c.requires.free.0 c.requires.free.1.between in let u = n.1 in omega arith

pub invariant_of-self : goal.invariant_of-self
invariant_of-self g c =
    let pushed = rw (c.set_before.ensures.words, c.write-3.ensures.words, c.write-2.ensures.words, c.write.ensures.words) at c.push.ensures.pushed in
    let long = rw (c.set_before.ensures.words, c.write-3.ensures.words, c.write-2.ensures.words, c.write.ensures.words) at c.push.ensures.words in
    split_kept _ _ _ _ c.self.invariant c.self.view_is c.args.at c.args.need c.requires.some c.requires.free.0 c.requires.free.1
    c.args.tag _ _ _ _ _ c.unlink.ensures.heads c.unlink.ensures.words (rw (← c.self.view_is) at c.requires.described) (rw (← c.self.view_is) at c.requires.before) c.bucket-list.ensures c.unlink.ensures.unlinked
    _ _ _ c.push.ensures.heads long c.bucket-list-2.ensures pushed

pub returns-clause-split : goal.returns-clause-split
returns-clause-split g c x h =
    let pushed = rw (c.set_before.ensures.words, c.write-3.ensures.words, c.write-2.ensures.words, c.write.ensures.words) at c.push.ensures.pushed in
    let long = rw (c.set_before.ensures.words, c.write-3.ensures.words, c.write-2.ensures.words, c.write.ensures.words) at c.push.ensures.words in
    split_turns _ _ _ _ c.self.invariant c.self.view_is c.args.at c.args.need c.requires.some x h
    c.args.tag _ _ _ _ _ c.unlink.ensures.heads c.unlink.ensures.words (rw (← c.self.view_is) at c.requires.described) (rw (← c.self.view_is) at c.requires.before) c.bucket-list.ensures c.unlink.ensures.unlinked
    _ _ _ c.push.ensures.heads long c.bucket-list-2.ensures pushed

pub returns-clause-steps : goal.returns-clause-steps
returns-clause-steps g c =
    let s = split_sizes _ _ _ _ c.self.invariant c.self.view_is c.args.at c.args.need c.requires.some c.requires.free.0 c.requires.free.1 in
    let e = claim_size _ _ _ _ c.self.invariant c.self.view_is c.args.at c.requires.free.0 c.requires.free.1.between _ (rw (← c.self.view_is) at c.requires.described) in
    let r = s.0 in let h = s.1 in let m = s.2 in
    let below = g.met.B.Buckets.lawful.below (c.args.header.size - c.args.need) (omega arith) (omega arith) in
    let pushed = rw (c.set_before.ensures.words, c.write-3.ensures.words, c.write-2.ensures.words, c.write.ensures.words) at c.push.ensures.pushed in
    let long = rw (c.set_before.ensures.words, c.write-3.ensures.words, c.write-2.ensures.words, c.write.ensures.words) at c.push.ensures.words in
    let last = split_steps _ _ _ _ c.self.invariant c.self.view_is c.args.at c.args.need c.requires.some c.requires.free.0 c.requires.free.1
    c.args.tag _ _ _ _ _ c.unlink.ensures.heads c.unlink.ensures.words (rw (← c.self.view_is) at c.requires.described) (rw (← c.self.view_is) at c.requires.before) c.bucket-list.ensures c.unlink.ensures.unlinked
    _ _ _ c.push.ensures.heads long c.bucket-list-2.ensures pushed (omega (arith, below, c.bucket-list-2.ensures, c.self.invariant.as_many)) in
    let next : before_steps (c.args.at + c.args.header.size) (length c.write-3.new.region) ≡ before_steps (c.args.at + c.args.header.size) (length c.self.inside.region) =
    ap (before_steps (c.args.at + c.args.header.size)) (c.write-3.ensures.len ∙ c.write-2.ensures.len ∙ c.write.ensures.len ∙ c.unlink.ensures.words) in
    rw (← c.self.view_is) (by_same _ _ _ _ (rose_both _ _ _ _ _ c.unlink.ensures.steps (rose_both _ _ _ _ _ c.write.ensures.steps
    (rose_both _ _ _ _ _ c.write-2.ensures.steps (rose_both _ _ _ _ _ c.write-3.ensures.steps
    (rose_both _ _ _ _ _ c.set_before.ensures.steps c.push.ensures.steps))))) (omega (arith, last, next)))

pub returns-clause-lists : goal.returns-clause-lists
returns-clause-lists g c =
    let s = split_sizes _ _ _ _ c.self.invariant c.self.view_is c.args.at c.args.need c.requires.some c.requires.free.0 c.requires.free.1 in
    let e = claim_size _ _ _ _ c.self.invariant c.self.view_is c.args.at c.requires.free.0 c.requires.free.1.between _ (rw (← c.self.view_is) at c.requires.described) in
    let r = s.0 in let h = s.1 in let m = s.2 in
    let below = g.met.B.Buckets.lawful.below (c.args.header.size - c.args.need) (omega arith) (omega arith) in
    let pushed = rw (c.set_before.ensures.words, c.write-3.ensures.words, c.write-2.ensures.words, c.write.ensures.words) at c.push.ensures.pushed in
    let long = rw (c.set_before.ensures.words, c.write-3.ensures.words, c.write-2.ensures.words, c.write.ensures.words) at c.push.ensures.words in
    split_lists _ _ _ _ c.self.invariant c.self.view_is c.args.at c.args.need c.requires.some c.requires.free.0 c.requires.free.1
    c.args.tag _ _ _ _ _ c.unlink.ensures.heads c.unlink.ensures.words (rw (← c.self.view_is) at c.requires.described) (rw (← c.self.view_is) at c.requires.before) c.bucket-list.ensures c.unlink.ensures.unlinked
    _ _ _ c.push.ensures.heads long c.bucket-list-2.ensures pushed (omega (arith, below, c.unlink.ensures.heads, c.self.invariant.as_many))

pub returns-clause-listed : goal.returns-clause-listed
returns-clause-listed g c =
    let pushed = rw (c.set_before.ensures.words, c.write-3.ensures.words, c.write-2.ensures.words, c.write.ensures.words) at c.push.ensures.pushed in
    let long = rw (c.set_before.ensures.words, c.write-3.ensures.words, c.write-2.ensures.words, c.write.ensures.words) at c.push.ensures.words in
    seen_listed _ _ _ (split_kept _ _ _ _ c.self.invariant c.self.view_is c.args.at c.args.need c.requires.some c.requires.free.0 c.requires.free.1
    c.args.tag _ _ _ _ _ c.unlink.ensures.heads c.unlink.ensures.words (rw (← c.self.view_is) at c.requires.described) (rw (← c.self.view_is) at c.requires.before) c.bucket-list.ensures c.unlink.ensures.unlinked
    _ _ _ c.push.ensures.heads long c.bucket-list-2.ensures pushed)
