use Rattle.std.proofs.Common.{ℕ, ◌+◌, length, arith, ap, ◌∙◌, sym}
use Rattle.step_ledger.proofs.CallerLemmas.{rose_none}
use Rattle.tag_blocks.proofs.CostLemmas.{by_same}
use Rattle.tag_blocks.proofs.ThreadLemmas.{chosen, other}
use Rattle.tag_blocks.proofs.FindLemmas.{tags_seen}
use Rattle.tag_blocks.proofs.NeighbourLemmas.{look_sizes, described_size, none_behind, next_inside, used_behind, size_behind, free_words_behind}
use Rattle.tag_blocks.proofs.ListedLemmas.{view_listed}
use Rattle.tag_blocks.proofs.blocks.TagBlocks.free_words_behind.Goals as goal

pub overflow_add-next : goal.overflow_add-next
overflow_add-next g c =
    let s = look_sizes _ _ _ _ c.self.invariant c.self.view_is c.args.at c.requires.held.0 c.requires.held.1 in
    let e = described_size _ _ _ _ c.self.invariant c.self.view_is c.args.at c.requires.held.0 c.requires.held.1 _ c.requires.size in
    let h = s.1 in let m = s.2 in omega arith

pub read-behind-requires : goal.read-behind-requires
read-behind-requires g c =
    let e = ap (λ (k : ℕ). c.args.at + k) (described_size _ _ _ _ c.self.invariant c.self.view_is c.args.at c.requires.held.0 c.requires.held.1 _ c.requires.size) in
    record {
      within = next_inside _ _ _ _ c.self.invariant c.self.view_is c.args.at c.requires.held.0 c.requires.held.1 _ e
          (λ f. c.if-next-len.false (f ∙ sym c.len.ensures.len));
    }

pub returns-then-next-len-clause-none : goal.returns-then-next-len-clause-none
returns-then-next-len-clause-none g c x h z =
    let e = ap (λ (k : ℕ). c.args.at + k) (described_size _ _ _ _ c.self.invariant c.self.view_is c.args.at x h _ c.requires.size) in
    none_behind _ _ _ _ c.self.invariant c.self.view_is c.args.at x h (sym e ∙ c.if-next-len.true ∙ c.len.ensures.len)

pub returns-then-next-len-clause-kept : goal.returns-then-next-len-clause-kept
returns-then-next-len-clause-kept g c = tags_seen _ _ _ _ c.self.invariant c.self.view_is

pub returns-then-behind-clause-none : goal.returns-then-behind-clause-none
returns-then-behind-clause-none g c x h z =
    let e = ap (λ (k : ℕ). c.args.at + k) (described_size _ _ _ _ c.self.invariant c.self.view_is c.args.at x h _ c.requires.size) in
    used_behind _ _ _ _ c.self.invariant c.self.view_is c.args.at x h _ e (λ f. c.if-next-len.false (f ∙ sym c.len.ensures.len))
    (sym c.read-behind.ensures.used ∙ c.if-behind.true)

pub returns-then-behind-clause-kept : goal.returns-then-behind-clause-kept
returns-then-behind-clause-kept g c = tags_seen _ _ _ _ c.self.invariant c.self.view_is

pub returns-clause-some : goal.returns-clause-some
returns-clause-some g c x h more =
    let e = ap (λ (k : ℕ). c.args.at + k) (described_size _ _ _ _ c.self.invariant c.self.view_is c.args.at x h _ c.requires.size) in
    free_words_behind _ _ _ _ c.self.invariant c.self.view_is c.args.at x h _ e (λ f. c.if-next-len.false (f ∙ sym c.len.ensures.len)) _ c.read-behind.ensures.size
    (sym c.read-behind.ensures.used ∙ c.if-behind.false)

pub returns-clause-none : goal.returns-clause-none
returns-clause-none g c x h z =
    let e = ap (λ (k : ℕ). c.args.at + k) (described_size _ _ _ _ c.self.invariant c.self.view_is c.args.at x h _ c.requires.size) in
    absurd (let two = size_behind _ _ _ _ c.self.invariant c.self.view_is c.args.at x h _ e
    (λ f. c.if-next-len.false (f ∙ sym c.len.ensures.len)) _ c.read-behind.ensures.size in omega arith)

pub returns-clause-kept : goal.returns-clause-kept
returns-clause-kept g c = tags_seen _ _ _ _ c.self.invariant c.self.view_is

pub returns-then-next-len-clause-steps : goal.returns-then-next-len-clause-steps
returns-then-next-len-clause-steps g c = rw (← c.self.view_is) (
    by_same _ _ _ _ (rose_none _) (sym (chosen (c.args.at + c.args.size) (length c.self.inside.region) 0 1 (c.if-next-len.true ∙ c.len.ensures.len))))

pub returns-then-behind-clause-steps : goal.returns-then-behind-clause-steps
returns-then-behind-clause-steps g c = rw (← c.self.view_is) (
    by_same _ _ _ _ c.read-behind.ensures.steps (sym (other (c.args.at + c.args.size) (length c.self.inside.region) 0 1
    (λ e. c.if-next-len.false (e ∙ sym c.len.ensures.len)))))

pub returns-clause-steps : goal.returns-clause-steps
returns-clause-steps g c = rw (← c.self.view_is) (
    by_same _ _ _ _ c.read-behind.ensures.steps (sym (other (c.args.at + c.args.size) (length c.self.inside.region) 0 1
    (λ e. c.if-next-len.false (e ∙ sym c.len.ensures.len)))))

pub returns-then-next-len-clause-listed : goal.returns-then-next-len-clause-listed
returns-then-next-len-clause-listed g c = view_listed _ _ _ _ c.self.invariant c.self.view_is

pub returns-then-behind-clause-listed : goal.returns-then-behind-clause-listed
returns-then-behind-clause-listed g c = view_listed _ _ _ _ c.self.invariant c.self.view_is

pub returns-clause-listed : goal.returns-clause-listed
returns-clause-listed g c = view_listed _ _ _ _ c.self.invariant c.self.view_is
