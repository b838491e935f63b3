use Rattle.std.proofs.Common.{ℕ, sym, subst}
use Rattle.region.specs.BlockBytes.{WritesBlocks}
use Rattle.region.specs.Words.{AreDistinct}
use Rattle.virtual_words.proofs.WholeBlocks.{blocks_written, entries_distinct, entries_within}
use Rattle.virtual_words.proofs.blocks.write_blocks.Goals as goal

pub write_blocks-requires-clause-within : goal.write_blocks-requires-clause-within
write_blocks-requires-clause-within c =
    entries_within c.args.table.now c.requires.mapped.table c.args.v c.args.n c.requires.within c.run-frames.result.now c.run-frames.ensures.value
    c.run-frames.ensures.len _ c.requires.mapped.whole

pub write_blocks-requires-clause-differ : goal.write_blocks-requires-clause-differ
write_blocks-requires-clause-differ c =
    subst (λ (n : ℕ). AreDistinct c.run-frames.result.now n) (sym c.run-frames.ensures.len)
    (entries_distinct c.args.table.now c.requires.mapped.table c.args.v c.args.n c.requires.within c.run-frames.result.now c.run-frames.ensures.value
    c.run-frames.ensures.len)

pub returns-clause-words : goal.returns-clause-words
returns-clause-words c =
    blocks_written c.args.table.now c.requires.mapped.table c.args.v c.args.n c.requires.within c.run-frames.result.now c.run-frames.ensures.value
    c.run-frames.ensures.len c.args.region.now c.write_blocks.new.self c.args.bytes.now c.requires.fits
    (subst (λ (n : ℕ). WritesBlocks c.args.region.now c.write_blocks.new.self c.run-frames.result.now c.args.bytes.now n) c.run-frames.ensures.len
    c.write_blocks.ensures.words)
