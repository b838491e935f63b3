use Rattle.script_laws.proofs.CallerLemmas.{object_step_exists, still_going}
use Rattle.slice_session.specs.SliceRun.{sliced_calls}
use Rattle.slice_session.proofs.RunInvariant.{sliced_keeps, begins_going}
use Rattle.slice_session.proofs.CommandSteps.{begins_sliced, sliced_there}
use Rattle.slice_session.proofs.laws.each_command_has_its_turn.Goals as goal

pub returns : goal.returns
returns c = record {
  begins = begins_sliced c.an_empty_heap_is_consistent.ensures;
  begun = begins_going;
  answered = object_step_exists sliced_calls sliced_there;
  going = still_going sliced_calls sliced_keeps;
}
