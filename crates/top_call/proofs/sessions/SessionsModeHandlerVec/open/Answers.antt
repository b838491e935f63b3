use Rattle.std.proofs.Common.{◌∙◌, [], ap, sym, refl}
use Rattle.std.proofs.lemmas.Result.{err_from_is_err_and}
use Rattle.run_model.specs.Terms.{appended, led}
use Rattle.top_call.proofs.Passing.{promises_seen}
use Rattle.top_call.proofs.Begun.{all_begin, all_go, pairs_promises, same_kinds, some_lack, stops_kinds, shown}
use Rattle.top_call.proofs.sessions.SessionsModeHandlerVec.open.Goals as goal

pub returns-in_err-open_all-clause-opens : goal.returns-in_err-open_all-clause-opens
returns-in_err-open_all-clause-opens g c =
    let p = err_from_is_err_and c.from_residual.result c.from_residual.ensures.1 in rw (p.1, p.2) (
      some_lack (λ m. g.H.Manager.state m) c.args.settings.now c.args.self.now.each.items c.args.heap.now.items c.open_all.new.managers.items
          c.in_err-open_all.ensures.err,
      refl,
    )

pub returns-in_err-open_all-clause-plan : goal.returns-in_err-open_all-clause-plan
returns-in_err-open_all-clause-plan g c =
    let lack = some_lack (λ m. g.H.Manager.state m) c.args.settings.now c.args.self.now.each.items c.args.heap.now.items c.open_all.new.managers.items
    c.in_err-open_all.ensures.err in
    let kinds = stops_kinds lack.settings _ _ lack.stops in
    let promises = promises_seen (λ m. g.H.Manager.state m) c.args.heap.now.items c.open_all.new.managers.items
    (pairs_promises (λ m. g.H.Manager.state m) c.args.heap.now.items c.open_all.new.managers.items c.in_err-open_all.ensures.promise) in
    λ i. (kinds i, promises i)

pub returns-clause-opens : goal.returns-clause-opens
returns-clause-opens g c = record {
  reply = _;
  begins = all_begin (λ m. g.H.Manager.state m) c.args.settings.now c.args.self.now.each.items c.args.heap.now.items c.open_all.new.managers.items c.requires
      c.in_ok-open_all.ensures.ok;
  written = c.in_ok-put_opened.ensures.wrote ∙ ap (λ r. appended (g.K.Sink.state c.args.sink.now).written (led [] r))
      (shown (λ m. g.H.Manager.state m) c.args.settings.now c.args.self.now.each.items c.args.heap.now.items c.open_all.new.managers.items c.requires
      c.in_ok-open_all.ensures.ok);
}

pub returns-clause-going : goal.returns-clause-going
returns-clause-going g c =
    all_go (λ m. g.H.Manager.state m) c.args.settings.now c.args.self.now.each.items c.args.heap.now.items c.open_all.new.managers.items c.requires
    c.in_ok-open_all.ensures.ok

pub returns-clause-plan : goal.returns-clause-plan
returns-clause-plan g c =
    let kinds = same_kinds (λ m. g.H.Manager.state m) c.args.settings.now c.args.self.now.each.items c.args.heap.now.items c.open_all.new.managers.items
    c.requires c.in_ok-open_all.ensures.ok in
    let promises = promises_seen (λ m. g.H.Manager.state m) c.args.heap.now.items c.open_all.new.managers.items
    (pairs_promises (λ m. g.H.Manager.state m) c.args.heap.now.items c.open_all.new.managers.items c.in_ok-open_all.ensures.promise) in
    λ i. (kinds i, promises i)

pub returns-in_err-put_opened-clause-opens : goal.returns-in_err-put_opened-clause-opens
returns-in_err-put_opened-clause-opens g c =
    let puts = c.in_err-put_opened.ensures.part in
    let p = err_from_is_err_and c.from_residual-in_err-put_opened.result c.from_residual-in_err-put_opened.ensures.1 in rw (p.1, p.2) record {
      reply = _;
      front = puts.0;
      lost = puts.1;
      begins = all_begin (λ m. g.H.Manager.state m) c.args.settings.now c.args.self.now.each.items c.args.heap.now.items c.open_all.new.managers.items
          c.requires c.in_ok-open_all.ensures.ok;
      cut = ap (λ r. led [] r) (sym (shown
          (λ m. g.H.Manager.state m) c.args.settings.now c.args.self.now.each.items c.args.heap.now.items c.open_all.new.managers.items c.requires
          c.in_ok-open_all.ensures.ok)) ∙ puts.2;
      written = puts.3;
    }

pub returns-in_err-put_opened-clause-plan : goal.returns-in_err-put_opened-clause-plan
returns-in_err-put_opened-clause-plan g c =
    let kinds = same_kinds (λ m. g.H.Manager.state m) c.args.settings.now c.args.self.now.each.items c.args.heap.now.items c.open_all.new.managers.items
    c.requires c.in_ok-open_all.ensures.ok in
    let promises = promises_seen (λ m. g.H.Manager.state m) c.args.heap.now.items c.open_all.new.managers.items
    (pairs_promises (λ m. g.H.Manager.state m) c.args.heap.now.items c.open_all.new.managers.items c.in_ok-open_all.ensures.promise) in
    λ i. (kinds i, promises i)
