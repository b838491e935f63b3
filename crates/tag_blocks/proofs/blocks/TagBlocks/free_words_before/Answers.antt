use Rattle.std.proofs.Common.{◌∙◌, arith, sym}
use Rattle.step_ledger.proofs.CallerLemmas.{rose_none}
use Rattle.tag_blocks.proofs.CostLemmas.{by_same}
use Rattle.tag_blocks.proofs.ThreadLemmas.{chosen, other}
use Rattle.tag_blocks.proofs.FindLemmas.{tags_seen}
use Rattle.tag_blocks.proofs.NeighbourLemmas.{none_before, previous_inside, used_before, size_before, free_words_before, back_none, back_used, back_free}
use Rattle.tag_blocks.proofs.ListedLemmas.{view_listed}
use Rattle.tag_blocks.proofs.blocks.TagBlocks.free_words_before.Goals as goal

pub overflow_sub-at : goal.overflow_sub-at
overflow_sub-at g c = (previous_inside _ _ _ _ c.self.invariant c.self.view_is c.args.at c.requires.held.0 c.requires.held.1 _ (rw (← c.self.view_is) at c.requires.described)
    c.if-at-eq0.false).0

pub read-before-requires : goal.read-before-requires
read-before-requires g c = record {
  within = (previous_inside _ _ _ _ c.self.invariant c.self.view_is c.args.at c.requires.held.0 c.requires.held.1 _
      (rw (← c.self.view_is) at c.requires.described) c.if-at-eq0.false).1;
}

pub returns-then-at-eq0-clause-none : goal.returns-then-at-eq0-clause-none
returns-then-at-eq0-clause-none g c x h z = none_before _ _ _ _ c.self.invariant c.self.view_is c.args.at x h c.if-at-eq0.true

pub returns-then-at-eq0-clause-kept : goal.returns-then-at-eq0-clause-kept
returns-then-at-eq0-clause-kept g c = tags_seen _ _ _ _ c.self.invariant c.self.view_is

pub returns-then-before-clause-none : goal.returns-then-before-clause-none
returns-then-before-clause-none g c x h z =
    used_before _ _ _ _ c.self.invariant c.self.view_is c.args.at x h _ (rw (← c.self.view_is) at c.requires.described) c.if-at-eq0.false
    (sym c.read-before.ensures.used ∙ c.if-before.true)

pub returns-then-before-clause-kept : goal.returns-then-before-clause-kept
returns-then-before-clause-kept g c = tags_seen _ _ _ _ c.self.invariant c.self.view_is

pub returns-clause-some : goal.returns-clause-some
returns-clause-some g c x h empty more =
    free_words_before _ _ _ _ c.self.invariant c.self.view_is c.args.at x h _ (rw (← c.self.view_is) at c.requires.described) c.if-at-eq0.false _ c.read-before.ensures.size
    (sym c.read-before.ensures.used ∙ c.if-before.false) empty

pub returns-clause-none : goal.returns-clause-none
returns-clause-none g c x h z =
    absurd (let two = size_before _ _ _ _ c.self.invariant c.self.view_is c.args.at x h _ (rw (← c.self.view_is) at c.requires.described) c.if-at-eq0.false _
    c.read-before.ensures.size in omega arith)

pub returns-clause-kept : goal.returns-clause-kept
returns-clause-kept g c = tags_seen _ _ _ _ c.self.invariant c.self.view_is

pub returns-then-at-eq0-clause-back : goal.returns-then-at-eq0-clause-back
returns-then-at-eq0-clause-back g c x h = sym (back_none _ _ _ _ c.self.invariant c.self.view_is c.args.at x h c.if-at-eq0.true)

pub returns-then-before-clause-back : goal.returns-then-before-clause-back
returns-then-before-clause-back g c x h =
    sym (back_used _ _ _ _ c.self.invariant c.self.view_is c.args.at x h _ (rw (← c.self.view_is) at c.requires.described) c.if-at-eq0.false
    (sym c.read-before.ensures.used ∙ c.if-before.true))

pub returns-clause-back : goal.returns-clause-back
returns-clause-back g c x h =
    (back_free _ _ _ _ c.self.invariant c.self.view_is c.args.at x h _ (rw (← c.self.view_is) at c.requires.described) c.if-at-eq0.false _ c.read-before.ensures.size
    (sym c.read-before.ensures.used ∙ c.if-before.false)).0

pub returns-clause-within : goal.returns-clause-within
returns-clause-within g c =
    (back_free _ _ _ _ c.self.invariant c.self.view_is c.args.at c.requires.held.0 c.requires.held.1 _ (rw (← c.self.view_is) at c.requires.described) c.if-at-eq0.false _
    c.read-before.ensures.size (sym c.read-before.ensures.used ∙ c.if-before.false)).1

pub returns-then-at-eq0-clause-steps : goal.returns-then-at-eq0-clause-steps
returns-then-at-eq0-clause-steps g c = by_same _ _ _ _ (rose_none _) (sym (chosen c.args.at 0 0 1 c.if-at-eq0.true))

pub returns-then-before-clause-steps : goal.returns-then-before-clause-steps
returns-then-before-clause-steps g c =
    by_same _ _ _ _ c.read-before.ensures.steps (sym (other c.args.at 0 0 1 c.if-at-eq0.false))

pub returns-clause-steps : goal.returns-clause-steps
returns-clause-steps g c =
    by_same _ _ _ _ c.read-before.ensures.steps (sym (other c.args.at 0 0 1 c.if-at-eq0.false))

pub returns-then-at-eq0-clause-listed : goal.returns-then-at-eq0-clause-listed
returns-then-at-eq0-clause-listed g c = view_listed _ _ _ _ c.self.invariant c.self.view_is

pub returns-then-before-clause-listed : goal.returns-then-before-clause-listed
returns-then-before-clause-listed g c = view_listed _ _ _ _ c.self.invariant c.self.view_is

pub returns-clause-listed : goal.returns-clause-listed
returns-clause-listed g c = view_listed _ _ _ _ c.self.invariant c.self.view_is
