use Rattle.page_model.proofs.BlockSteps.{free_blocks, resize_blocks, in_place_blocks}
use Rattle.page_model.proofs.blocks.blocks_of_others_stay.Goals as goal

pub returns-clause-free : goal.returns-clause-free
returns-clause-free c = λ p old frames h after f step. free_blocks p old frames f.paged f.blocks f.sound f.count h after step

pub returns-clause-resize : goal.returns-clause-resize
returns-clause-resize c = λ p old frames asked after f step. resize_blocks p old frames f.paged f.blocks f.sound f.count asked after step

pub returns-clause-same_class : goal.returns-clause-same_class
returns-clause-same_class c = in_place_blocks
