use Rattle.page_model.proofs.Adding.{live_taken, asked_taken, taken_taken}
use Rattle.page_model.proofs.figures.figures_after_removing.Goals as goal

pub returns-clause-live : goal.returns-clause-live
returns-clause-live c = live_taken

pub returns-clause-asked : goal.returns-clause-asked
returns-clause-asked c = asked_taken

pub returns-clause-taken : goal.returns-clause-taken
returns-clause-taken c = taken_taken
