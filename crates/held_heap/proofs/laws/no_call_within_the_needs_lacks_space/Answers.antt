use Rattle.held_heap.proofs.PageCalls.{malloc_served, resize_served}
use Rattle.held_heap.proofs.laws.no_call_within_the_needs_lacks_space.Goals as goal

pub returns-clause-malloc : goal.returns-clause-malloc
returns-clause-malloc c = λ kind p last page_bytes pages needs most first old new calls bytes before after code paged fresh sure words le run.
    malloc_served kind p last page_bytes pages needs most first old new calls paged fresh sure words le run bytes before after code

pub returns-clause-resize : goal.returns-clause-resize
returns-clause-resize c = λ kind p last page_bytes pages needs most first old new calls handle bytes before after code paged fresh sure words le run.
    resize_served kind p last page_bytes pages needs most first old new calls paged fresh sure words le run handle bytes before after code
