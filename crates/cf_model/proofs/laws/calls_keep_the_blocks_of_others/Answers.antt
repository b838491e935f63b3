use Rattle.cf_model.proofs.Blocks.{blocks_after_free, blocks_after_resize, blocks_after_refusal}
use Rattle.cf_model.proofs.laws.calls_keep_the_blocks_of_others.Goals as goal

pub returns-clause-free : goal.returns-clause-free
returns-clause-free c = λ old new h freed is before after f. blocks_after_free old h freed new is before after f

pub returns-clause-resize : goal.returns-clause-resize
returns-clause-resize c = λ old new asked done is before after f. blocks_after_resize old asked done new is before after f

pub returns-clause-refusal : goal.returns-clause-refusal
returns-clause-refusal c = λ old new h is before after whole. blocks_after_refusal old h new whole is before after
