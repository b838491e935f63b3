use Rattle.std.proofs.Common.{◌∙◌, ap, subst, sym}
use Rattle.run_model.specs.Terms.{Ids, owned_command}
use Rattle.script_laws.proofs.CallerLemmas.{going_before}
use Rattle.script_loop.specs.Applying.{Applies}
use Rattle.script_loop.specs.Semantics.{snapshot}
use Rattle.script_loop.proofs.CallerLemmas.{shown_line}
use Rattle.large_session.specs.LargeRun.{large_calls, large_run}
use Rattle.large_session.specs.Playing.{large_heap}
use Rattle.large_session.proofs.RunInvariant.{applied_going, shown_frag, shown_walk}
use Rattle.large_session.proofs.session.LargeSession.apply_ref.Goals as goal

pub build_reply-outcome-requires-clause-going : goal.build_reply-outcome-requires-clause-going
build_reply-outcome-requires-clause-going g c =
    going_before large_calls c.args.self.now c.self.inside.ids c.args.heap.now (sym c.self.view_is)
    (record { opened = c.requires.open; parts = c.is_open-open.ensures.parts (c.is_open-open.ensures.value ∙ c.requires.open) }) c.requires.tied

pub returns-in-Walk-clause-step : goal.returns-in-Walk-clause-step
returns-in-Walk-clause-step g c = shown_walk (large_run c.args.self.now c.args.heap.now) (g.H.Manager.state c.inner.result.now) (owned_command c.args.c) _ _
    c.walk_lines-written.result c.ended.result (ap owned_command c.in-Walk.is) c.inner.ensures c.walk_lines-written.ensures.puts c.ended.ensures

pub returns-in-Walk-clause-going : goal.returns-in-Walk-clause-going
returns-in-Walk-clause-going g c = record {
  ready = record { opened = c.requires.open; parts = c.is_open-open.ensures.parts (c.is_open-open.ensures.value ∙ c.requires.open) };
  tied = c.requires.tied;
}

pub returns-in-Frag-clause-step : goal.returns-in-Frag-clause-step
returns-in-Frag-clause-step g c = shown_frag (large_run c.args.self.now c.args.heap.now) (g.H.Manager.state c.inner-in-Frag.result.now)
    (owned_command c.args.c) _ _
    c.frag_line-written.result c.ended-in-Frag.result (ap owned_command c.in-Frag.is) c.inner-in-Frag.ensures c.frag_line-written.ensures.puts
    c.ended-in-Frag.ensures

pub returns-in-Frag-clause-going : goal.returns-in-Frag-clause-going
returns-in-Frag-clause-going g c = record {
  ready = record { opened = c.requires.open; parts = c.is_open-open.ensures.parts (c.is_open-open.ensures.value ∙ c.requires.open) };
  tied = c.requires.tied;
}

pub returns-in_default-clause-step : goal.returns-in_default-clause-step
returns-in_default-clause-step g c =
    let new = large_run c.build_reply-outcome.new.ids c.build_reply-outcome.new.heap in
    subst (λ (i : Ids). Applies large_heap (snapshot (large_run i c.args.heap.now) (g.K.Sink.state c.args.out.now).written) (owned_command c.args.c)
    c.ended-in_default.result (snapshot new (g.K.Sink.state c.put_line.new.out).written)) c.self.view_is
    (shown_line large_heap (λ _ _ _ _ turn. turn) (large_run c.self.inside.ids c.args.heap.now) new (owned_command c.args.c) c.build_reply-outcome.new.line
    _ _ c.put_line.result c.build_reply-outcome.result c.ended-in_default.result c.build_reply-outcome.ensures.speaks
    c.build_reply-outcome.ensures.outcome c.put_line.ensures c.ended-in_default.ensures)

pub returns-in_default-clause-going : goal.returns-in_default-clause-going
returns-in_default-clause-going g c = applied_going (large_run c.args.self.now c.args.heap.now) _ (owned_command c.args.c) _ _ c.ended-in_default.result (record {
  ready = record { opened = c.requires.open; parts = c.is_open-open.ensures.parts (c.is_open-open.ensures.value ∙ c.requires.open) };
  tied = c.requires.tied;
}) (returns-in_default-clause-step g c)
