use Rattle.page_model.proofs.Following.{free_once, malloc_once}
use Rattle.page_model.proofs.ResizeOnce.{resize_once}
use Rattle.page_model.proofs.order.an_order_leaves_no_choice.Goals as goal

pub returns-clause-malloc : goal.returns-clause-malloc
returns-clause-malloc c = malloc_once

pub returns-clause-free : goal.returns-clause-free
returns-clause-free c = free_once

pub returns-clause-resize : goal.returns-clause-resize
returns-clause-resize c = resize_once
