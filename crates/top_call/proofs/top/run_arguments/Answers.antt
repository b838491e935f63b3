use Rattle.top_call.proofs.ReadAlike.{chosen_are_accepted, not_accepted}
use Rattle.top_call.proofs.Modes.{chosen_ends, chosen_shows, chosen_whole}
use Rattle.top_call.proofs.top.run_arguments.Goals as goal

pub returns-in-Ok-clause-keeps : goal.returns-in-Ok-clause-keeps
returns-in-Ok-clause-keeps g c = record {
  outcome = chosen_ends _ c.in-Ok.choice c.in-Ok.ensures.reads _ c.run_mode.result _ c.run_mode.ensures;
  claimed = chosen_shows _ c.in-Ok.choice c.in-Ok.ensures.reads _ c.run_mode.result _ c.run_mode.ensures;
  kinds = c.run_mode.ensures.kinds;
  orders = c.run_mode.ensures.orders;
}

pub returns-in-Ok-clause-complete : goal.returns-in-Ok-clause-complete
returns-in-Ok-clause-complete g c = chosen_whole _ c.in-Ok.choice c.in-Ok.ensures.reads _ c.run_mode.result _ c.run_mode.ensures

pub returns-in-Err-Refused-clause-complete : goal.returns-in-Err-Refused-clause-complete
returns-in-Err-Refused-clause-complete g c = λ have sure firm.
    absurd (not_accepted _ (rw c.in-Err-Refused.field-0-is at c.in-Err-Refused.ensures.reads) (chosen_are_accepted _ have.choice have.chosen))
