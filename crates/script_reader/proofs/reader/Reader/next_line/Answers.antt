use Rattle.std.proofs.Common.{◌∙◌, ap, sym, take}
use Rattle.script_reader.specs.Answered.{is_blank_or_comment}
use Rattle.script_reader.specs.Items.{line_says}
use Rattle.script_reader.specs.Reading.{Reading}
use Rattle.script_reader.proofs.AnswerLemmas.{passes_line, passes_then}
use Rattle.script_reader.proofs.reader.Reader.next_line.Goals as goal

pub lines-preserved : goal.lines-preserved
lines-preserved c =
    let cut = c.in_ok-cut.cut in
    let passes = c.lines.invariant in
    let found = c.in_ok-cut.ensures in
    let silent = ap (λ (r : Reading). is_blank_or_comment (line_says (take cut.len r.kept))) (sym found.same) ∙ sym c.is_silent.ensures ∙ c.if-not-is_silent.false in
    rw (c.pass_line.ensures, found.same) (passes_then _ _ _ passes (passes_line c.lines.self cut.len cut.next passes.still found.found silent))
