use Rattle.std.proofs.Common.{◌≡◌, ◌∙◌, Bool, ap, refl}
use Rattle.run_model.specs.Terms.{Kind, Moving}
use Rattle.cf_session.specs.Apply.{run_at}
use Rattle.script_loop.specs.WithSettings.{settled}
use Rattle.top_call.proofs.SavedImage.{cut_causes, done_same, ends_cut, ends_early, ends_saved, ends_unopened, never_faults, opened, saved_going, unopened, whole_causes}
use Rattle.top_call.proofs.save.save_script.Goals as goal

pub returns-in_default : goal.returns-in_default
returns-in_default g c =
    let by = c.play_script.ensures in
    record {
      ends = ends_early (settled (run_at c.args.mode_handler.now.mode_handler (g.H.Manager.state c.args.heap.now)) c.args.mode_handler.now.settings)
          (settled (run_at c.play_script.new.mode_handler.mode_handler (g.H.Manager.state c.play_script.new.heap)) c.play_script.new.mode_handler.settings) _ _ _ _ _ _
          c.play_script.result c.in_default.not-Done by.causes.sink_fault by.outcome refl;
      promise = ap (λ (p : Kind × Bool). p.1) by.plan;
      causes = record {
        silent = λ is. refl;
        source_fault = by.causes.source_fault;
        sink_fault = never_faults c.play_script.result _ _ by.causes.sink_fault;
        too_long = by.causes.too_long;
      };
    }

-- the script has no `heap` line
pub returns-in_default-settings-clause-ends : goal.returns-in_default-settings-clause-ends
returns-in_default-settings-clause-ends g c =
    let by = c.play_script.ensures in
    let from = settled (run_at c.args.mode_handler.now.mode_handler (g.H.Manager.state c.args.heap.now)) c.args.mode_handler.now.settings in
    let to = settled (run_at c.play_script.new.mode_handler.mode_handler (g.H.Manager.state c.play_script.new.heap)) c.play_script.new.mode_handler.settings in
    ends_unopened from to _ _ _ _ _ _ c.play_script.result c.in-Done.is by.outcome
    (unopened from to _ by.outcome c.in-Done.is c.in_default-settings.is c.requires.closed) refl

-- the script has a `heap` line
pub save-requires-clause-open : goal.save-requires-clause-open
save-requires-clause-open g c =
    let from = settled (run_at c.args.mode_handler.now.mode_handler (g.H.Manager.state c.args.heap.now)) c.args.mode_handler.now.settings in
    let to = settled (run_at c.play_script.new.mode_handler.mode_handler (g.H.Manager.state c.play_script.new.heap)) c.play_script.new.mode_handler.settings in
    (opened from to _ c.in-Some.settings c.play_script.ensures.outcome c.in-Done.is c.in-Some.is c.requires.unset).0.opened

pub save-requires-clause-settings : goal.save-requires-clause-settings
save-requires-clause-settings g c =
    let from = settled (run_at c.args.mode_handler.now.mode_handler (g.H.Manager.state c.args.heap.now)) c.args.mode_handler.now.settings in
    let to = settled (run_at c.play_script.new.mode_handler.mode_handler (g.H.Manager.state c.play_script.new.heap)) c.play_script.new.mode_handler.settings in
    (opened from to _ c.in-Some.settings c.play_script.ensures.outcome c.in-Done.is c.in-Some.is c.requires.unset).1

pub save-requires-clause-tied : goal.save-requires-clause-tied
save-requires-clause-tied g c =
    let from = settled (run_at c.args.mode_handler.now.mode_handler (g.H.Manager.state c.args.heap.now)) c.args.mode_handler.now.settings in
    let to = settled (run_at c.play_script.new.mode_handler.mode_handler (g.H.Manager.state c.play_script.new.heap)) c.play_script.new.mode_handler.settings in
    (opened from to _ c.in-Some.settings c.play_script.ensures.outcome c.in-Done.is c.in-Some.is c.requires.unset).0.tied

pub returns-in-Ok-clause-ends : goal.returns-in-Ok-clause-ends
returns-in-Ok-clause-ends g c =
    let by = c.play_script.ensures in
    let from = settled (run_at c.args.mode_handler.now.mode_handler (g.H.Manager.state c.args.heap.now)) c.args.mode_handler.now.settings in
    let to = settled (run_at c.play_script.new.mode_handler.mode_handler (g.H.Manager.state c.play_script.new.heap)) c.play_script.new.mode_handler.settings in
    let going = (opened from to _ c.in-Some.settings by.outcome c.in-Done.is c.in-Some.is c.requires.unset).0 in
    let moving : (g.H.Manager.state c.play_script.new.heap).kind ≡ Moving = ap (λ (p : Kind × Bool). p.0) by.plan ∙ c.requires.moving in
    ends_saved from to _ _ _ _ _ _ c.play_script.result c.in-Done.is by.outcome (saved_going to.state going) c.in-Ok.ensures.wrote
    (record {
      going = going;
      kind = moving;
      have = (c.live_objects_have_an_image.ensures.lives to.state going c.handle-handle.ensures.within moving).0;
    })

pub returns-in-Err-clause-ends : goal.returns-in-Err-clause-ends
returns-in-Err-clause-ends g c =
    let by = c.play_script.ensures in
    let from = settled (run_at c.args.mode_handler.now.mode_handler (g.H.Manager.state c.args.heap.now)) c.args.mode_handler.now.settings in
    let to = settled (run_at c.play_script.new.mode_handler.mode_handler (g.H.Manager.state c.play_script.new.heap)) c.play_script.new.mode_handler.settings in
    let going = (opened from to _ c.in-Some.settings by.outcome c.in-Done.is c.in-Some.is c.requires.unset).0 in
    ends_cut from to _ _ _ _ _ _ c.play_script.result c.in-Done.is by.outcome (saved_going to.state going) c.in-Err.ensures.part

pub returns-in_default-settings-clause-causes : goal.returns-in_default-settings-clause-causes
returns-in_default-settings-clause-causes g c = whole_causes _ _ _ _ (done_same c.play_script.result c.in-Done.is _ _ _ c.play_script.ensures.causes.source_fault) refl

pub returns-in-Ok-clause-causes : goal.returns-in-Ok-clause-causes
returns-in-Ok-clause-causes g c =
    whole_causes _ _ _ _ (done_same c.play_script.result c.in-Done.is _ _ _ c.play_script.ensures.causes.source_fault) c.in-Ok.ensures.same

pub returns-in-Err-clause-causes : goal.returns-in-Err-clause-causes
returns-in-Err-clause-causes g c =
    cut_causes _ _ _ _ (done_same c.play_script.result c.in-Done.is _ _ _ c.play_script.ensures.causes.source_fault) c.in-Err.ensures.fails

pub returns-in_default-settings-clause-promise : goal.returns-in_default-settings-clause-promise
returns-in_default-settings-clause-promise g c = ap (λ (p : Kind × Bool). p.1) c.play_script.ensures.plan

pub returns-in-Ok-clause-promise : goal.returns-in-Ok-clause-promise
returns-in-Ok-clause-promise g c = ap (λ (p : Kind × Bool). p.1) c.play_script.ensures.plan

pub returns-in-Err-clause-promise : goal.returns-in-Err-clause-promise
returns-in-Err-clause-promise g c = ap (λ (p : Kind × Bool). p.1) c.play_script.ensures.plan
