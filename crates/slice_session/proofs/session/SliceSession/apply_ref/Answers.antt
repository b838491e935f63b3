use Rattle.std.proofs.Common.{◌∙◌, subst, sym}
use Rattle.run_model.specs.Terms.{Ids, owned_command}
use Rattle.script_laws.proofs.CallerLemmas.{going_before}
use Rattle.script_loop.specs.Applying.{Applies}
use Rattle.script_loop.specs.Semantics.{snapshot}
use Rattle.script_loop.proofs.CallerLemmas.{shown_line}
use Rattle.slice_session.specs.Playing.{sliced}
use Rattle.slice_session.specs.SliceRun.{slice_run, sliced_calls}
use Rattle.slice_session.proofs.RunInvariant.{applied_going}
use Rattle.slice_session.proofs.session.SliceSession.apply_ref.Goals as goal

pub build_reply-outcome-requires-clause-going : goal.build_reply-outcome-requires-clause-going
build_reply-outcome-requires-clause-going g c =
    going_before sliced_calls c.args.self.now c.self.inside.ids c.args.heap.now (sym c.self.view_is)
    (record { opened = c.requires.open; rules = c.is_open-open.ensures.rules (c.is_open-open.ensures.value ∙ c.requires.open) }) c.requires.tied

pub returns-clause-step : goal.returns-clause-step
returns-clause-step g c =
    let old = slice_run c.self.inside.ids c.args.heap.now in
    let new = slice_run c.build_reply-outcome.new.ids c.build_reply-outcome.new.heap in
    subst (λ (i : Ids). Applies sliced (snapshot (slice_run i c.args.heap.now) (g.K.Sink.state c.args.out.now).written) (owned_command c.args.c)
    c.ended.result (snapshot new (g.K.Sink.state c.put_line.new.out).written)) c.self.view_is
    (shown_line sliced (λ _ _ _ _ turn. turn) old new (owned_command c.args.c) c.build_reply-outcome.new.line _ _ c.put_line.result
    c.build_reply-outcome.result c.ended.result c.build_reply-outcome.ensures.speaks c.build_reply-outcome.ensures.outcome c.put_line.ensures c.ended.ensures)

pub returns-clause-going : goal.returns-clause-going
returns-clause-going g c = applied_going (slice_run c.args.self.now c.args.heap.now) _ (owned_command c.args.c) _ _ c.ended.result (record {
  ready = record { opened = c.requires.open; rules = c.is_open-open.ensures.rules (c.is_open-open.ensures.value ∙ c.requires.open) };
  tied = c.requires.tied;
}) (returns-clause-step g c)
