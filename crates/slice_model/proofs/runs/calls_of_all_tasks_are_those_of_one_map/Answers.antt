use Rattle.slice_model.proofs.OneMap.{run_on_map}
use Rattle.slice_model.proofs.runs.calls_of_all_tasks_are_those_of_one_map.Goals as goal

pub returns : goal.returns
returns c = λ plan old turns new ok. run_on_map plan ok turns old new
