use Rattle.script_reader.proofs.ReadBack.{script_back}
use Rattle.script_reader.proofs.read_back.scripts_are_read_back.Goals as goal

pub returns : goal.returns
returns c = script_back
