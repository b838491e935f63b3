use Rattle.slice_session.proofs.OneOutput.{one_play, one_run}
use Rattle.slice_session.proofs.laws.one_sliced_output.Goals as goal

pub returns-clause-run : goal.returns-clause-run
returns-clause-run c = one_run

pub returns-clause-play : goal.returns-clause-play
returns-clause-play c = one_play
