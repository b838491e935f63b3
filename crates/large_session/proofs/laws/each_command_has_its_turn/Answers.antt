use Rattle.script_laws.proofs.CallerLemmas.{object_step_exists, still_going}
use Rattle.large_session.specs.LargeRun.{large_calls}
use Rattle.large_session.proofs.RunInvariant.{large_keeps, begins_going, begins_large, large_there}
use Rattle.large_session.proofs.laws.each_command_has_its_turn.Goals as goal

pub returns : goal.returns
returns c = record {
  begins = begins_large;
  begun = begins_going;
  answered = object_step_exists large_calls large_there;
  going = still_going large_calls large_keeps;
}
