use Rattle.slice_session.proofs.Claims.{run_meets, sliced_headline_met}
use Rattle.slice_session.proofs.laws.the_sliced_headline.Goals as goal

pub returns-clause-run : goal.returns-clause-run
returns-clause-run c = run_meets

pub returns-clause-play : goal.returns-clause-play
returns-clause-play c = sliced_headline_met
