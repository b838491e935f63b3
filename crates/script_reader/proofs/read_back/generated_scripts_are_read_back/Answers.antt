use Rattle.script_reader.specs.Generated.{generated}
use Rattle.script_reader.proofs.GeneratedLemmas.{generated_plain}
use Rattle.script_reader.proofs.ReadBack.{script_back}
use Rattle.script_reader.proofs.read_back.generated_scripts_are_read_back.Goals as goal

pub returns : goal.returns
returns c = λ pages page_bytes k proxies seed count can.
    script_back pages page_bytes k proxies (generated seed count) can (generated_plain seed count)
