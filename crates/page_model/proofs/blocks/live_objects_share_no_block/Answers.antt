use Rattle.page_model.proofs.Frames.{no_block_shared}
use Rattle.page_model.proofs.blocks.live_objects_share_no_block.Goals as goal

pub returns : goal.returns
returns c = λ p m frames f h q x y. no_block_shared p f.paged f.blocks m f.sound frames f.count f.permuted h x q y
