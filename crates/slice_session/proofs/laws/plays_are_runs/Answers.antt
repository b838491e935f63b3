use Rattle.slice_session.proofs.RunInvariant.{play_seen}
use Rattle.slice_session.proofs.laws.plays_are_runs.Goals as goal

pub returns : goal.returns
returns c = play_seen
