use Rattle.top_call.proofs.ReadAlike.{chosen_are_accepted, not_accepted}
use Rattle.top_call.proofs.argument_laws.refused_arguments_are_not_chosen.Goals as goal

pub returns : goal.returns
returns c = record {
  accepted = not_accepted;
  chosen = λ words choice refused chosen. not_accepted words refused (chosen_are_accepted words choice chosen);
}
