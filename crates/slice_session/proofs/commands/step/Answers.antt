use Rattle.std.proofs.Common.{◌<◌, ◌≤◌, ◌∙◌, ◌++◌, List, ℕ, arith, length, ap, codes}
use Rattle.cf_io.specs.Texts.{with_number}
use Rattle.slice_session.proofs.RunInvariant.{speaks_left}
use Rattle.slice_session.proofs.commands.step.Goals as goal

pub returns-clause-speaks : goal.returns-clause-speaks
returns-clause-speaks c =
    let more = c.push_field.ensures.short in
    let begun : length c.args.line.now ≤ 8 = rw c.requires.empty (omega arith) in
    let short : length c.push_field.new.line < 9000 = omega (arith, more, begun) in
    speaks_left c.args.ids.now c.args.heap.now c.step.new.self c.push_field.new.line
    (record { happens = c.step.ensures.step; ordered = c.step.ensures.ordered; stays = c.step.ensures.same })
    (c.push_field.ensures.text ∙ ap (λ (l : List ℕ). l ++ with_number (codes "left ") c.left.result) c.requires.empty
    ∙ ap (with_number (codes "left ")) c.left.ensures) short
