use Rattle.large_objects.proofs.ObjectLaws.{others_stay, read_back}
use Rattle.large_objects.proofs.laws.what_is_written_is_read.Goals as goal

pub returns-clause-same : goal.returns-clause-same
returns-clause-same c = read_back

pub returns-clause-others : goal.returns-clause-others
returns-clause-others c = others_stay
