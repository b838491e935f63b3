use Rattle.std.proofs.Common.{◌≡◌, ◌∙◌, Some, [], ap, refl, arith, rules, length}
use Rattle.cf_page.proofs.Playing.{played}
use Rattle.cf_page.proofs.play.play_on.Goals as goal

pub returns : goal.returns
returns g c =
    let call = c.run_arguments-status.ensures in
    let left : c.new-source.result.left ≡ c.args.script.now = ap (λ s. s.left) c.new-source.ensures ∙ c.in-Ok.ensures.items in
    played _ _ _ _ _ _ _ _ _ call.keeps (ap Some left) (ap Some c.new-sink.ensures.bytes) c.new-sink.ensures.faults c.requires refl refl call.complete call.source
    call.sink (search rules) (search rules) (search rules)
