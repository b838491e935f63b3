use Rattle.std.proofs.Common.{◌∙◌, ap, refl, sym}
use Rattle.script_reader.specs.Reading.{Reading}
use Rattle.script_reader.proofs.AnswerLemmas.{step_ends, step_waits}
use Rattle.script_reader.proofs.reader.Reader.without_line.Goals as goal

pub returns-then-self : goal.returns-then-self
returns-then-self c = step_ends c.args.self.now _ c.requires.going refl c.requires.none (ap (λ (r : Reading). r.ended) (sym c.self.view_is) ∙ c.if-self.true)

pub returns-else-self : goal.returns-else-self
returns-else-self c = step_waits c.args.self.now _ c.requires.going refl c.requires.none (ap (λ (r : Reading). r.ended) (sym c.self.view_is) ∙ c.if-self.false)
