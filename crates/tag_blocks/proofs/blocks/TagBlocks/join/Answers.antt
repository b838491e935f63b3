use Rattle.std.proofs.Common.{◌≡◌, ◌+◌, length, arith, ap, ◌∙◌}
use Rattle.block_model.specs.Costs.{before_steps}
use Rattle.step_ledger.proofs.CallerLemmas.{rose_both}
use Rattle.tag_blocks.proofs.CostLemmas.{by_same}
use Rattle.tag_blocks.proofs.JoinLemmas.{join_sizes, join_many, join_listed, join_some, join_kept, join_others, join_turns}
use Rattle.tag_blocks.proofs.JoinLemmas.{join_lists}
use Rattle.tag_blocks.proofs.blocks.TagBlocks.join.Goals as goal

pub unlink-requires-clause-linked : goal.unlink-requires-clause-linked
unlink-requires-clause-linked g c = (
  c.self.invariant.lists,
  c.self.invariant.kept.linked,
  join_listed _ _ _ _ c.self.invariant c.self.view_is c.args.start c.args.first c.args.second c.args.taken c.args.many c.requires.pair.0 c.requires.pair.1 _
      c.bucket-list.ensures,
)

pub unlink-requires-clause-list : goal.unlink-requires-clause-list
unlink-requires-clause-list g c =
    let n = join_many _ _ _ _ c.self.invariant c.self.view_is c.args.start c.args.first c.args.second c.args.taken c.args.many
    c.requires.pair.0 c.requires.pair.1 in
    let below = g.met.B.Buckets.lawful.below c.args.many n.0 n.1 in
    omega (arith, below, c.bucket-list.ensures, c.self.invariant.as_many)

pub overflow_sub-self : goal.overflow_sub-self
overflow_sub-self g c =
    join_some _ _ _ _ c.self.invariant c.self.view_is c.args.start c.args.first c.args.second c.args.taken c.args.many c.requires.pair.0 c.requires.pair.1
    _ _ _ _ c.unlink.ensures.heads c.unlink.ensures.words c.read-header.ensures.before c.bucket-list.ensures c.unlink.ensures.unlinked

pub invariant_of-self : goal.invariant_of-self
invariant_of-self g c = rw (c.set_before.ensures.words, c.write-2.ensures.words, c.write.ensures.words, c.clear.ensures.words) (
    join_kept _ _ _ _ c.self.invariant c.self.view_is c.args.start c.args.first c.args.second c.args.taken c.args.many c.requires.pair.0 c.requires.pair.1
    _ _ _ _ c.unlink.ensures.heads c.unlink.ensures.words c.read-header.ensures.before c.bucket-list.ensures c.unlink.ensures.unlinked)

pub returns-clause-joined : goal.returns-clause-joined
returns-clause-joined g c x h = rw (c.set_before.ensures.words, c.write-2.ensures.words, c.write.ensures.words, c.clear.ensures.words) (
    join_turns _ _ _ _ c.self.invariant c.self.view_is c.args.start c.args.first c.args.second c.args.taken c.args.many x h
    _ _ _ _ c.unlink.ensures.heads c.unlink.ensures.words c.read-header.ensures.before c.bucket-list.ensures c.unlink.ensures.unlinked)

pub read-header-requires : goal.read-header-requires
read-header-requires g c =
    let s = join_sizes _ _ _ _ c.self.invariant c.self.view_is c.args.start c.args.first c.args.second c.args.taken c.args.many
    c.requires.pair.0 c.requires.pair.1 in
    let a = s.0 in let l = s.2 in record { within = omega arith }

pub overflow_add-size : goal.overflow_add-size
overflow_add-size g c =
    let s = join_sizes _ _ _ _ c.self.invariant c.self.view_is c.args.start c.args.first c.args.second c.args.taken c.args.many
    c.requires.pair.0 c.requires.pair.1 in
    let l = s.2 in let m = s.3 in omega arith

pub bucket-list-requires-clause-some : goal.bucket-list-requires-clause-some
bucket-list-requires-clause-some g c =
    (join_many _ _ _ _ c.self.invariant c.self.view_is c.args.start c.args.first c.args.second c.args.taken c.args.many c.requires.pair.0 c.requires.pair.1).0

pub bucket-list-requires-clause-few : goal.bucket-list-requires-clause-few
bucket-list-requires-clause-few g c =
    (join_many _ _ _ _ c.self.invariant c.self.view_is c.args.start c.args.first c.args.second c.args.taken c.args.many c.requires.pair.0 c.requires.pair.1).1

pub overflow_add-start : goal.overflow_add-start
overflow_add-start g c =
    let s = join_sizes _ _ _ _ c.self.invariant c.self.view_is c.args.start c.args.first c.args.second c.args.taken c.args.many
    c.requires.pair.0 c.requires.pair.1 in
    let l = s.2 in let m = s.3 in omega arith

pub clear-requires : goal.clear-requires
clear-requires g c =
    let s = join_sizes _ _ _ _ c.self.invariant c.self.view_is c.args.start c.args.first c.args.second c.args.taken c.args.many
    c.requires.pair.0 c.requires.pair.1 in
    let b = s.1 in let l = s.2 in record { within = omega arith }

pub write-requires-2-clause-small : goal.write-requires-2-clause-small
write-requires-2-clause-small g c =
    let s = join_sizes _ _ _ _ c.self.invariant c.self.view_is c.args.start c.args.first c.args.second c.args.taken c.args.many
    c.requires.pair.0 c.requires.pair.1 in
    let l = s.2 in let m = s.3 in omega arith

pub overflow_add-start-3 : goal.overflow_add-start-3
overflow_add-start-3 g c =
    let s = join_sizes _ _ _ _ c.self.invariant c.self.view_is c.args.start c.args.first c.args.second c.args.taken c.args.many
    c.requires.pair.0 c.requires.pair.1 in
    let l = s.2 in let m = s.3 in omega arith

pub returns-clause-left : goal.returns-clause-left
returns-clause-left g c a low =
    let s = join_sizes _ _ _ _ c.self.invariant c.self.view_is c.args.start c.args.first c.args.second c.args.taken c.args.many
    c.requires.pair.0 c.requires.pair.1 in
    let l = s.2 in let m = s.3 in
    rw (← c.self.view_is, c.set_before.ensures.words, c.write-2.ensures.words, c.write.ensures.words, c.clear.ensures.words) (
    join_others _ _ _ _ c.self.invariant c.self.view_is c.args.start c.args.first c.args.second c.args.taken c.args.many c.requires.pair.0 c.requires.pair.1
    _ _ _ _ c.unlink.ensures.heads c.unlink.ensures.words c.read-header.ensures.before c.bucket-list.ensures c.unlink.ensures.unlinked (a + 1) low
    ∙ c.unlink.ensures.left a (λ e. absurd (omega arith)))

pub returns-clause-len : goal.returns-clause-len
returns-clause-len g c = rw (← c.self.view_is) (
    c.set_before.ensures.len ∙ c.write-2.ensures.len ∙ c.write.ensures.len ∙ c.clear.ensures.len ∙ c.unlink.ensures.words)

pub returns-clause-steps : goal.returns-clause-steps
returns-clause-steps g c =
    let end = c.args.start + (c.args.first + c.args.second) in
    let next : before_steps end (length c.write-2.new.region) ≡ before_steps end (length c.self.inside.region) =
    ap (before_steps end) (c.write-2.ensures.len ∙ c.write.ensures.len ∙ c.clear.ensures.len ∙ c.unlink.ensures.words) in
    rw (← c.self.view_is) (by_same _ _ _ _ (rose_both _ _ _ _ _ c.read-header.ensures.steps (rose_both _ _ _ _ _ c.unlink.ensures.steps
    (rose_both _ _ _ _ _ c.clear.ensures.steps (rose_both _ _ _ _ _ c.write.ensures.steps (rose_both _ _ _ _ _ c.write-2.ensures.steps
    c.set_before.ensures.steps))))) (omega (arith, next)))

pub returns-clause-lists : goal.returns-clause-lists
returns-clause-lists g c = rw (c.set_before.ensures.words, c.write-2.ensures.words, c.write.ensures.words, c.clear.ensures.words) (
    join_lists _ _ _ _ c.self.invariant c.self.view_is c.args.start c.args.first c.args.second c.args.taken c.args.many c.requires.pair.0 c.requires.pair.1
    _ _ _ _ c.unlink.ensures.heads c.unlink.ensures.words c.read-header.ensures.before c.bucket-list.ensures c.unlink.ensures.unlinked)
