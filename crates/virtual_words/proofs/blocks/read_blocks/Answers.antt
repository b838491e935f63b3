use Rattle.std.proofs.Common.{ℕ, arith, subst}
use Rattle.region.specs.BlockBytes.{HasBytesOf}
use Rattle.virtual_words.proofs.WholeBlocks.{blocks_read, entries_within}
use Rattle.virtual_words.proofs.blocks.read_blocks.Goals as goal

pub read_blocks-requires-clause-within : goal.read_blocks-requires-clause-within
read_blocks-requires-clause-within c =
    entries_within c.args.table.now c.requires.mapped.table c.args.v c.args.n c.requires.within c.run-frames.result.now c.run-frames.ensures.value
    c.run-frames.ensures.len _ c.requires.mapped.whole

pub returns-clause-bytes : goal.returns-clause-bytes
returns-clause-bytes c = λ j lt.
    blocks_read c.args.table.now c.requires.mapped.table c.args.v c.args.n c.requires.within c.run-frames.result.now c.run-frames.ensures.value
    c.run-frames.ensures.len c.args.region.now c.read_blocks.new.out
    (subst (λ (n : ℕ). HasBytesOf c.read_blocks.new.out c.args.region.now c.run-frames.result.now n) c.run-frames.ensures.len c.read_blocks.ensures.bytes) j
    (let l = c.read_blocks.auto.out in let f = c.requires.fits in omega arith)
