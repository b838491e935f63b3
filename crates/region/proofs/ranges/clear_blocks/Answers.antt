use Rattle.std.proofs.Common.{arith, ◌≡◌, ◌+◌, ℕ, length, sym, subst}
use Rattle.region.specs.Words.{ClearsBlocks}
use Rattle.region.proofs.Blocks.{clears_next, clears_none}
use Rattle.region.proofs.ranges.clear_blocks.Goals as goal

pub fours-init : goal.fours-init
fours-init c = record { within = omega arith; words = clears_none c.args.words.now c.args.blocks.now }

pub fours-preserved : goal.fours-preserved
fours-preserved c =
    let less = c.fours-test.true in
    let long = c.fours.auto.words in
    let within = c.requires.within c.fours.done less in
    record {
      within = omega arith;
      words = subst (λ ws. ClearsBlocks c.args.words.now ws c.args.blocks.now (c.fours.done + 1)) (sym c.clear.ensures)
          (clears_next c.args.words.now c.fours.words c.args.blocks.now c.fours.done (omega arith) c.fours.invariant.words);
    }

pub returns : goal.returns
returns c =
    let all : c.fours.done ≡ length c.args.blocks.now = (let w = c.fours.invariant.within in let e = c.fours-test.false in omega arith) in
    subst (λ (n : ℕ). ClearsBlocks c.args.words.now c.fours.words c.args.blocks.now n) all c.fours.invariant.words
