use Rattle.std.proofs.Common.{refl, sym}
use Rattle.cf_session.specs.Apply.{run_at}
use Rattle.top_call.proofs.Outcomes.{first_ends}
use Rattle.top_call.proofs.run.run_chosen.Goals as goal

-- the first manager of the kind runs the script
pub returns-in-Some : goal.returns-in-Some
returns-in-Some g c =
    let f = λ (m : g.row.H.Denot). g.H.Manager.state m in
    let by = c.play_script.ensures in
    first_ends c.args.kind _ _ _ _ c.play_script.result
    by.causes
    c.in-Ok.session (run_at c.play_script.new.mode_handler (f c.play_script.new.heap)) c.in-Ok.ensures f c.args.managers.now.items c.in-Some.i
    c.index_mut.result.now c.play_script.new.heap (sym c.in-Some.ensures) c.index_mut.ensures.value refl by.plan by.outcome

-- no manager is of the kind: one that is made for the script runs it
pub returns : goal.returns
returns g c = c.run_own.ensures _ (sym c.in-None.ensures)
