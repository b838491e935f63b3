use Rattle.top_call.proofs.Loaded.{run_ok, makes}
use Rattle.top_call.proofs.Printed.{read_back, script_clean}
use Rattle.top_call.proofs.image_laws.printed_scripts_are_read_back.Goals as goal

pub returns : goal.returns
returns c = record {
  read = read_back;
  clean = script_clean;
  makes = makes;
  replies = λ p o replies last h run. run_ok p o h replies last run;
}
