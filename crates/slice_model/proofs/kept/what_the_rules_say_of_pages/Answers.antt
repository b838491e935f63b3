use Rattle.std.proofs.Common.{subst}
use Rattle.slice_model.specs.State.{with_slot, job_slot}
use Rattle.page_model.specs.Arrangement.{IsSound}
use Rattle.slice_model.proofs.Beside.{stand_beside}
use Rattle.slice_model.proofs.Occupied.{beside}
use Rattle.slice_model.proofs.kept.what_the_rules_say_of_pages.Goals as goal

pub returns-clause-idle : goal.returns-clause-idle
returns-clause-idle c = λ plan s kept idle. subst (λ j. IsSound plan.paging (with_slot plan s.held (job_slot j))) idle kept.sound

pub returns-clause-pending : goal.returns-clause-pending
returns-clause-pending c = λ plan s k ok kept is. stand_beside plan ok s kept k is

pub returns-clause-slots : goal.returns-clause-slots
returns-clause-slots c = λ plan s h x ok kept there. kept.sound.slots h x (beside plan ok s kept h x there)

pub returns-clause-own_place : goal.returns-clause-own_place
returns-clause-own_place c = λ plan s h x q y ok kept there there'. kept.sound.own_place h x q y (beside plan ok s kept h x there)
    (beside plan ok s kept q y there')

pub returns-clause-one_class : goal.returns-clause-one_class
returns-clause-one_class c = λ plan s h x q y ok kept there there'. kept.sound.one_class h x q y (beside plan ok s kept h x there)
    (beside plan ok s kept q y there')
