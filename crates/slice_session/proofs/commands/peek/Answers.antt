use Rattle.std.proofs.Common.{◌<◌, ◌≤◌, ◌∙◌, ◌++◌, List, ℕ, arith, length, length-append, ap, sym}
use Rattle.cf_io.proofs.CallerLemmas.{length_of_word, pushed}
use Rattle.cf_io.specs.Lines.{word_text}
use Rattle.cf_session.specs.Apply.{outcome_in}
use Rattle.cf_session.proofs.CallerLemmas.{word_other}
use Rattle.run_model.specs.Replies.{peek_text}
use Rattle.slice_session.proofs.commands.peek.Goals as goal

pub unwrap-requires : goal.unwrap-requires
unwrap-requires c =
    let long = length_of_word c.in-Some.v in
    let begun : length c.args.line.now ≤ 8 = rw c.requires.empty (omega arith) in
    (pushed c.args.line.now (word_text c.in-Some.v) _ c.push_word.result c.push_word.ensures (omega arith)).0

pub returns-in-Some-clause-text : goal.returns-in-Some-clause-text
returns-in-Some-clause-text c =
    let long = length_of_word c.in-Some.v in
    let begun : length c.args.line.now ≤ 8 = rw c.requires.empty (omega arith) in
    let is = (pushed c.args.line.now (word_text c.in-Some.v) _ c.push_word.result c.push_word.ensures (omega arith)).1 in
    is ∙ ap (λ (l : List ℕ). l ++ word_text c.in-Some.v) c.requires.empty ∙ ap peek_text c.in-Some.ensures.value

pub returns-in-Some-clause-outcome : goal.returns-in-Some-clause-outcome
returns-in-Some-clause-outcome c =
    let long = length_of_word c.in-Some.v in
    let begun : length c.args.line.now ≤ 8 = rw c.requires.empty (omega arith) in
    let is = (pushed c.args.line.now (word_text c.in-Some.v) _ c.push_word.result c.push_word.ensures (omega arith)).1 in
    word_other c.in-Some.v ∙ ap outcome_in (sym (is ∙ ap (λ (l : List ℕ). l ++ word_text c.in-Some.v) c.requires.empty))

pub returns-in-Some-clause-room : goal.returns-in-Some-clause-room
returns-in-Some-clause-room c =
    let long = length_of_word c.in-Some.v in
    let begun : length c.args.line.now ≤ 8 = rw c.requires.empty (omega arith) in
    let is = (pushed c.args.line.now (word_text c.in-Some.v) _ c.push_word.result c.push_word.ensures (omega arith)).1 in
    let short : length c.push_word.new.self < 9000 = rw (is, length-append) (omega arith) in short

pub returns-in-None-clause-text : goal.returns-in-None-clause-text
returns-in-None-clause-text c = c.push_short.ensures.text ∙ ap peek_text c.in-None.ensures.value
