use Rattle.sizing.proofs.ModePages.{modes_refused}
use Rattle.sizing.proofs.modes.fewer_pages_for_modes_refuse.Goals as goal

pub returns : goal.returns
returns c = modes_refused
