use Rattle.std.proofs.Common.{arith, ◌≡◌, ◌+◌, ℕ, length, sym, subst}
use Rattle.region.specs.Words.{MovesBlocks}
use Rattle.region.proofs.Blocks.{moves_next, moves_none}
use Rattle.region.proofs.ranges.move_blocks.Goals as goal

pub fours-init : goal.fours-init
fours-init c = record { within = omega arith; words = moves_none c.args.words.now c.args.sources.now c.args.targets.now }

pub fours-preserved : goal.fours-preserved
fours-preserved c =
    let less = c.fours-test.true in
    let long = c.fours.auto.words in
    let many = c.requires.as_many in
    let source = c.requires.sources c.fours.done less in
    let target = c.requires.targets c.fours.done (omega arith) in
    record {
      within = omega arith;
      words = subst (λ ws. MovesBlocks c.args.words.now ws c.args.sources.now c.args.targets.now (c.fours.done + 1)) (sym c.move_block.ensures)
          (moves_next c.args.words.now c.fours.words c.args.sources.now c.args.targets.now c.fours.done (length c.args.sources.now) less (omega arith)
          (omega arith) c.requires.sources_differ c.requires.targets_differ c.requires.apart c.fours.invariant.words);
    }

pub returns : goal.returns
returns c =
    let all : c.fours.done ≡ length c.args.sources.now = (let w = c.fours.invariant.within in let e = c.fours-test.false in omega arith) in
    subst (λ (n : ℕ). MovesBlocks c.args.words.now c.fours.words c.args.sources.now c.args.targets.now n) all c.fours.invariant.words
