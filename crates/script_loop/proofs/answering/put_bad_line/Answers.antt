use Rattle.std.proofs.Common.{◌∙◌, ◌++◌, [], List, ℕ, Ok, Err, ap}
use Rattle.cf_io.proofs.CallerLemmas.{puts_line}
use Rattle.run_model.specs.Texts.{bad_line}
use Rattle.script_loop.proofs.answering.put_bad_line.Goals as goal

pub returns-in-Ok-clause-names : goal.returns-in-Ok-clause-names
returns-in-Ok-clause-names g c =
    let text = bad_line c.args.number in
    let is = c.push_field.ensures.text ∙ ap (λ (l : List ℕ). l ++ text) c.new-line.ensures in
    (puts_line {T = Unit {0}} _ _ [] text _ (Ok tt) is c.in-Ok.ensures).wrote

pub returns-in-Err-clause-names : goal.returns-in-Err-clause-names
returns-in-Err-clause-names g c =
    let text = bad_line c.args.number in
    let is = c.push_field.ensures.text ∙ ap (λ (l : List ℕ). l ++ text) c.new-line.ensures in
    (puts_line {T = Unit {0}} _ _ [] text _ (Err c.in-Err.field-0) is c.in-Err.ensures).part
