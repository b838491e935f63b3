use Rattle.page_model.proofs.Adding.{live_added, asked_added, taken_added}
use Rattle.page_model.proofs.figures.figures_after_adding.Goals as goal

pub returns-clause-live : goal.returns-clause-live
returns-clause-live c = live_added

pub returns-clause-asked : goal.returns-clause-asked
returns-clause-asked c = asked_added

pub returns-clause-taken : goal.returns-clause-taken
returns-clause-taken c = taken_added
