use Rattle.std.proofs.Common.{ℕ, sym, subst}
use Rattle.region.specs.Words.{AreDistinct, AreOther, MovesBlocks}
use Rattle.virtual_words.proofs.WholeBlocks.{blocks_moved, entries_distinct, entries_other, entries_within}
use Rattle.virtual_words.proofs.blocks.move_blocks.Goals as goal

pub move_blocks-requires-clause-sources : goal.move_blocks-requires-clause-sources
move_blocks-requires-clause-sources c =
    entries_within c.args.table.now c.requires.mapped.table c.args.v c.args.n c.requires.source c.run-sources.result.now c.run-sources.ensures.value
    c.run-sources.ensures.len _ c.requires.mapped.whole

pub move_blocks-requires-clause-targets : goal.move_blocks-requires-clause-targets
move_blocks-requires-clause-targets c =
    entries_within c.args.table.now c.requires.mapped.table c.args.w c.args.n c.requires.target c.run-targets.result.now c.run-targets.ensures.value
    c.run-targets.ensures.len _ c.requires.mapped.whole

pub move_blocks-requires-clause-sources_differ : goal.move_blocks-requires-clause-sources_differ
move_blocks-requires-clause-sources_differ c =
    subst (λ (n : ℕ). AreDistinct c.run-sources.result.now n) (sym c.run-sources.ensures.len)
    (entries_distinct c.args.table.now c.requires.mapped.table c.args.v c.args.n c.requires.source c.run-sources.result.now c.run-sources.ensures.value
    c.run-sources.ensures.len)

pub move_blocks-requires-clause-targets_differ : goal.move_blocks-requires-clause-targets_differ
move_blocks-requires-clause-targets_differ c =
    subst (λ (n : ℕ). AreDistinct c.run-targets.result.now n) (sym c.run-sources.ensures.len)
    (entries_distinct c.args.table.now c.requires.mapped.table c.args.w c.args.n c.requires.target c.run-targets.result.now c.run-targets.ensures.value
    c.run-targets.ensures.len)

pub move_blocks-requires-clause-apart : goal.move_blocks-requires-clause-apart
move_blocks-requires-clause-apart c =
    subst (λ (n : ℕ). AreOther c.run-sources.result.now c.run-targets.result.now n) (sym c.run-sources.ensures.len)
    (entries_other c.args.table.now c.requires.mapped.table c.args.v c.args.w c.args.n c.requires.source c.requires.target c.run-sources.result.now
    c.run-targets.result.now c.run-sources.ensures.value c.run-sources.ensures.len c.run-targets.ensures.value c.run-targets.ensures.len c.requires.apart)

pub returns-clause-words : goal.returns-clause-words
returns-clause-words c =
    blocks_moved c.args.table.now c.requires.mapped.table c.args.v c.args.w c.args.n c.requires.source c.requires.target c.run-sources.result.now
    c.run-targets.result.now c.run-sources.ensures.value c.run-sources.ensures.len c.run-targets.ensures.value c.run-targets.ensures.len
    c.args.region.now c.move_blocks.new.self
    (subst (λ (n : ℕ). MovesBlocks c.args.region.now c.move_blocks.new.self c.run-sources.result.now c.run-targets.result.now n)
    c.run-sources.ensures.len c.move_blocks.ensures.words)
