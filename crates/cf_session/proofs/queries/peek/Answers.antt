use Rattle.std.proofs.Common.{◌<◌, ◌≤◌, arith, length, length-append}
use Rattle.cf_io.proofs.CallerLemmas.{pushed, length_of_word}
use Rattle.cf_io.specs.Lines.{word_text}
use Rattle.cf_session.proofs.Reporting.{word_other, written}
use Rattle.cf_session.proofs.queries.peek.Goals as goal

pub unwrap-requires : goal.unwrap-requires
unwrap-requires g c =
    let long = length_of_word c.in-Some.v in
    let begun : length c.begin_line.new.line ≤ 8 = rw c.begin_line.ensures c.requires.lead in
    (pushed c.begin_line.new.line (word_text c.in-Some.v) _ c.push_word.result c.push_word.ensures (omega arith)).0

pub returns-in-Some : goal.returns-in-Some
returns-in-Some g c =
    let long = length_of_word c.in-Some.v in
    let begun : length c.begin_line.new.line ≤ 8 = rw c.begin_line.ensures c.requires.lead in
    let is = (pushed c.begin_line.new.line (word_text c.in-Some.v) _ c.push_word.result c.push_word.ensures (omega arith)).1 in
    let short : length c.push_word.new.self < 9000 = rw (is, length-append) (omega arith) in
    rw (← c.in-Some.ensures.value)
    (written c.args.lead.now c.begin_line.new.line c.push_word.new.self _ _ c.begin_line.ensures is short (word_other c.in-Some.v))
