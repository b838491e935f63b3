use Rattle.page_model.proofs.Adding.{len-objects, pages_add_up}
use Rattle.page_model.proofs.figures.pages_and_objects_add_up.Goals as goal

pub returns-clause-pages : goal.returns-clause-pages
returns-clause-pages c = pages_add_up

pub returns-clause-len : goal.returns-clause-len
returns-clause-len c = len-objects
