use Rattle.script_laws.proofs.OneOutput.{begins_once, begun_alike, further_once, run_in_order}
use Rattle.script_laws.proofs.headline.one_output.Goals as goal

pub returns : goal.returns
returns c = record {
  there = run_in_order;
  script = λ kind bytes ended replies others last end run run' some also. begun_alike kind _ replies others last end
      (begins_once bytes ended) some also run run';
  items = λ kind items replies others last end once run run' some also. begun_alike kind items replies others last end once
      some also run run';
  further = λ kind one items replies others last end going some none run run'. further_once kind _ items replies others last end none
      (going, some) run run';
}
