use Rattle.std.proofs.Common.{ℕ, subst}
use Rattle.region.specs.Words.{ClearsBlocks}
use Rattle.virtual_words.proofs.WholeBlocks.{blocks_cleared, entries_within}
use Rattle.virtual_words.proofs.blocks.clear_blocks.Goals as goal

pub clear_blocks-requires-clause-within : goal.clear_blocks-requires-clause-within
clear_blocks-requires-clause-within c =
    entries_within c.args.table.now c.requires.mapped.table c.args.v c.args.n c.requires.within c.run-frames.result.now c.run-frames.ensures.value
    c.run-frames.ensures.len _ c.requires.mapped.whole

pub returns-clause-words : goal.returns-clause-words
returns-clause-words c =
    blocks_cleared c.args.table.now c.requires.mapped.table c.args.v c.args.n c.requires.within c.run-frames.result.now c.run-frames.ensures.value
    c.run-frames.ensures.len c.args.region.now c.clear_blocks.new.self
    (subst (λ (n : ℕ). ClearsBlocks c.args.region.now c.clear_blocks.new.self c.run-frames.result.now n) c.run-frames.ensures.len
    c.clear_blocks.ensures.words)
