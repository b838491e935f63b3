use Rattle.cf_model.proofs.EmptyHeaps.{empty_there, ordered_there, paged_empty, tiled_empty, tiled_ordered}
use Rattle.cf_model.proofs.laws.an_empty_heap_keeps_the_rules.Goals as goal

pub returns-clause-pages : goal.returns-clause-pages
returns-clause-pages c = λ kind p order paged ok opens. paged_empty p ok kind paged order opens

pub returns-clause-blocks : goal.returns-clause-blocks
returns-clause-blocks c = λ kind p words tiled ok long header zeros. tiled_empty p ok words long header zeros kind tiled

pub returns-clause-linked : goal.returns-clause-linked
returns-clause-linked c = λ kind p words tiled ok long header link zeros.
    tiled_ordered p ok words long header zeros c.lists_stay_lists_of_the_blocks.ensures.opening link kind tiled

pub returns-clause-there : goal.returns-clause-there
returns-clause-there c = λ kind p ok. empty_there p ok kind

pub returns-clause-ordered : goal.returns-clause-ordered
returns-clause-ordered c = λ kind p ok. ordered_there p ok c.lists_stay_lists_of_the_blocks.ensures.opening kind
