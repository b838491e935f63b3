use Rattle.script_reader.proofs.Prefix.{items_prefix}
use Rattle.script_reader.proofs.laws.items_stay.Goals as goal

pub returns : goal.returns
returns c = λ bytes more ended. items_prefix bytes more ended
