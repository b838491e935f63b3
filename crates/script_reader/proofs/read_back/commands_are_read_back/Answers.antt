use Rattle.script_reader.proofs.ReadBack.{alone_back, line_back, says_back}
use Rattle.script_reader.proofs.read_back.commands_are_read_back.Goals as goal

pub returns : goal.returns
returns c = record { line = line_back; says = says_back; after_heap = alone_back }
