use Rattle.std.proofs.Common.{◌≡◌, ◌∙◌, List, ℕ, Some, ap, drop, subst, sym, take}
use Rattle.std.proofs.lemmas.List.{take_rest}
use Rattle.script_reader.specs.Answered.{line_passed, saying_if, stage_said}
use Rattle.script_reader.specs.Items.{line_says}
use Rattle.script_reader.specs.Layout.{reading_of}
use Rattle.script_reader.specs.Owned.{owned_next}
use Rattle.script_reader.specs.Reading.{Answers, AnswersBad, Reading}
use Rattle.script_reader.specs.declared.stage.Stage.{Stage}
use Rattle.script_reader.proofs.AnswerLemmas.{step_in_place, step_out_of_place}
use Rattle.script_reader.proofs.reader.Reader.read_first_line.Goals as goal

pub returns-in-Some : goal.returns-in-Some
returns-in-Some c =
    let old = c.args.self.now in
    let cut = c.args.cut in
    let formed = c.read_line-formed.result in
    let n = owned_next c.read_line-formed.new.next in
    let same = take_rest c.as_slice.result.now c.self.inside.start ∙ ap (drop c.self.inside.start) c.as_slice.ensures.value
    ∙ ap (λ (r : Reading). r.kept) c.self.view_is in
    let says = c.read_line-formed.ensures.value ∙ ap (λ (k : List ℕ). line_says (take cut.len k)) same in
    let passed : reading_of c.self-2.inside ≡ line_passed old cut.next = c.self-2.view_is ∙ c.pass_line.ensures in
    let place = c.in-Some.ensures ∙ ap (λ (s : Stage). stage_said s (saying_if formed n)) (ap (λ (r : Reading). r.stage) passed) in
    subst (λ (r : Reading). Answers old n (record r { stage = c.in-Some.stage })) (sym passed)
    (step_in_place old cut.len cut.next formed n c.requires.going c.requires.line says c.in-Some.stage c.read_line-formed.ensures.fits place)

pub returns-in-None : goal.returns-in-None
returns-in-None c =
    let old = c.args.self.now in
    let cut = c.args.cut in
    let formed = c.read_line-formed.result in
    let n = owned_next c.read_line-formed.new.next in
    let same = take_rest c.as_slice.result.now c.self.inside.start ∙ ap (drop c.self.inside.start) c.as_slice.ensures.value
    ∙ ap (λ (r : Reading). r.kept) c.self.view_is in
    let says = c.read_line-formed.ensures.value ∙ ap (λ (k : List ℕ). line_says (take cut.len k)) same in
    let passed : reading_of c.self-2.inside ≡ line_passed old cut.next = c.self-2.view_is ∙ c.pass_line.ensures in
    let place = c.in-None.ensures ∙ ap (λ (s : Stage). stage_said s (saying_if formed n)) (ap (λ (r : Reading). r.stage) passed) in
    subst (λ (r : Reading). AnswersBad old old.stopped r.passed (record r { stopped = Some r.passed })) (sym passed)
    (step_out_of_place old cut.len cut.next formed n c.requires.going c.requires.line says place)
