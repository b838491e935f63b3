use Rattle.std.proofs.Common.{sym, ◌∙◌}
use Rattle.large_session.proofs.Claims.{large_met, run_meets}
use Rattle.large_session.proofs.laws.the_large_headline.Goals as goal

pub returns : goal.returns
returns c = record {
  run = run_meets;
  play = large_met;
  one = λ kind items replies others meets meet. meet ∙ sym meets;
}
