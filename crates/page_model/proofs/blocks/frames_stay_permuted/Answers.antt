use Rattle.std.proofs.lemmas.List.FromFn.{length-range_with_len}
use Rattle.page_model.proofs.Frames.{first_permuted}
use Rattle.page_model.proofs.BlockSteps.{framed_free, framed_resize}
use Rattle.page_model.proofs.blocks.frames_stay_permuted.Goals as goal

pub returns-clause-first : goal.returns-clause-first
returns-clause-first c = λ n. (first_permuted n, length-range_with_len 0 n)

pub returns-clause-free : goal.returns-clause-free
returns-clause-free c = framed_free

pub returns-clause-resize : goal.returns-clause-resize
returns-clause-resize c = framed_resize
