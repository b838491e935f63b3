use Rattle.std.proofs.Common.{◌∙◌, refl, subst, sym}
use Rattle.run_model.specs.Terms.{HeapState, IsPaged}
use Rattle.large_session.specs.LargeRun.{large_run}
use Rattle.large_session.specs.Playing.{large_heap}
use Rattle.top_call.proofs.Outcomes.{made_ends}
use Rattle.top_call.specs.Outcomes.{IsMadeLarge}
use Rattle.top_call.proofs.large.play_large.Goals as goal

pub play_script-requires : goal.play_script-requires
play_script-requires g c = record {
  ids = c.in-Ok.ensures;
  pages = subst (λ (s : HeapState). IsPaged s.kind) (sym (c.new-heap.ensures.inner ∙ c.closed.ensures.state)) refl;
}

pub returns : goal.returns
returns g c = λ managers.
    let by = c.play_script.ensures in
    let inner = c.new-heap.ensures.inner ∙ c.closed.ensures.state in
    made_ends large_heap IsMadeLarge _ _ _ _ managers c.play_script.result
    by.causes
    (large_run c.in-Ok.mode_handler.session c.new-heap.result) (large_run c.play_script.new.mode_handler.session c.play_script.new.heap)
    (record {
      fresh = record { ids = c.in-Ok.ensures; pages = subst (λ (s : HeapState). IsPaged s.kind) (sym inner) refl };
      inner = inner;
    }) by.outcome
