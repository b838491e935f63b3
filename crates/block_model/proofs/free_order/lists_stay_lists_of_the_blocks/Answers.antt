use Rattle.block_model.proofs.FreeOrderLemmas.{carve_keeps_lists, opening_lists}
use Rattle.block_model.proofs.FreeOrderRelease.{release_keeps_lists}
use Rattle.block_model.proofs.free_order.lists_stay_lists_of_the_blocks.Goals as goal

pub returns-clause-opening : goal.returns-clause-opening
returns-clause-opening c = opening_lists

pub returns-clause-malloc : goal.returns-clause-malloc
returns-clause-malloc c = carve_keeps_lists

pub returns-clause-free : goal.returns-clause-free
returns-clause-free c = release_keeps_lists
