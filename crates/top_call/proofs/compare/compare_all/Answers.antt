use Rattle.std.proofs.Common.{◌≡◌, arith, length, subst}
use Rattle.top_call.proofs.Begun.{begun_each}
use Rattle.top_call.specs.SideBySide.{AreFresh}
use Rattle.top_call.proofs.Outcomes.{each_ends}
use Rattle.top_call.proofs.compare.compare_all.Goals as goal

pub play_script-requires : goal.play_script-requires
play_script-requires g c =
    let many : c.len.result ≡ length c.args.managers.now.items = omega arith in
    begun_each (λ m. g.H.Manager.state m) c.in-Ok.sessions.each.items c.args.managers.now.items
    (subst (λ n. AreFresh n c.in-Ok.sessions.each.items) many c.in-Ok.ensures)

pub returns : goal.returns
returns g c =
    let by = c.play_script.ensures in
    let many : c.len.result ≡ length c.args.managers.now.items = omega arith in
    let started = subst (λ n. AreFresh n c.in-Ok.sessions.each.items) many c.in-Ok.ensures in
    each_ends _ _ _ _ c.play_script.result
    by.causes
    (λ m. g.H.Manager.state m) c.in-Ok.sessions.each.items c.args.managers.now.items started
    c.play_script.new.mode_handler.each.items c.play_script.new.heap.items by.plan by.outcome
