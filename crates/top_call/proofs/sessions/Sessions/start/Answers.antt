use Rattle.std.proofs.Common.{◌≡◌, ◌∙◌, ◌+◌, ap, length, subst, sym, [], ◌∷◌, length-append}
use Rattle.std.proofs.lemmas.List.Elements.{All-append, All-cons, All-nil}
use Rattle.std.specs.List.{All}
use Rattle.run_model.specs.Sessions.{SessionState, fresh_session}
use Rattle.top_call.proofs.sessions.Sessions.start.Goals as goal

pub loop-i-preserved : goal.loop-i-preserved
loop-i-preserved c =
    let was = c.loop-i.invariant in
    let items = c.in-Ok.ensures.items in
    record {
      many = ap length items ∙ length-append c.loop-i.each.items (c.in_ok-session.session ∷ []) ∙ ap (λ n. n + 1) was.many;
      fresh = subst (All (λ (s : SessionState). s ≡ fresh_session)) (sym items)
          (All-append (λ (s : SessionState). s ≡ fresh_session) c.loop-i.each.items (c.in_ok-session.session ∷ []) was.fresh
          (All-cons (λ (s : SessionState). s ≡ fresh_session) c.in_ok-session.session [] c.in_ok-session.ensures
          (All-nil (λ (s : SessionState). s ≡ fresh_session))));
    }
