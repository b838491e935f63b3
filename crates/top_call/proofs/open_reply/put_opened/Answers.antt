use Rattle.std.proofs.Common.{◌++◌, ◌+◌, [], true, ap, arith, map, take, drop, Ok}
use Rattle.std.proofs.lemmas.List.{length-map, take_all}
use Rattle.cf_io.proofs.CallerLemmas.{appended_after, fails_after, puts_same, puts_then}
use Rattle.run_model.specs.Texts.{led}
use Rattle.top_call.specs.SideBySide.{opened_reply}
use Rattle.top_call.proofs.Begun.{kind_at, opened_reply_cut, opened_reply_more}
use Rattle.top_call.proofs.open_reply.put_opened.Goals as goal

pub returns-in-Err : goal.returns-in-Err
returns-in-Err g c =
    let kinds = map (λ m. (g.H.Manager.state m).kind) c.args.managers.now.items in
    let so_far = led [] (opened_reply (take c.loop-i.i kinds)) in
    let puts = c.in-Err.ensures.part in
    let at = kind_at (λ m. (g.H.Manager.state m).kind) c.args.managers.now.items c.loop-i.i c.index.result.now c.kind.result
    (omega arith) c.index.ensures c.kind.ensures in
    record {
      part = (
        so_far ++ puts.0,
        puts.1 ++ led [] (opened_reply (drop (c.loop-i.i + 1) kinds)),
        opened_reply_cut kinds c.loop-i.i c.kind.result puts.0 puts.1 at.0 at.1 puts.2,
        appended_after _ _ _ so_far puts.0 c.loop-i.invariant.wrote.wrote puts.3,
      );
      fails = fails_after true _ _ _ _ c.loop-i.invariant.wrote.same c.in-Err.ensures.fails;
    }

pub loop-i-preserved : goal.loop-i-preserved
loop-i-preserved g c =
    let kinds = map (λ m. (g.H.Manager.state m).kind) c.args.managers.now.items in
    let so_far = led [] (opened_reply (take c.loop-i.i kinds)) in
    let at = kind_at (λ m. (g.H.Manager.state m).kind) c.args.managers.now.items c.loop-i.i c.index.result.now c.kind.result
    (omega arith) c.index.ensures c.kind.ensures in
    record {
      wrote = puts_same {T = Unit {0}} _ _ _ _ (Ok tt) (opened_reply_more kinds c.loop-i.i c.kind.result at.0 at.1)
          (puts_then {T = Unit {0}} _ _ _ so_far _ (Ok tt) c.loop-i.invariant.wrote c.in-Ok.ensures);
    }

pub returns : goal.returns
returns g c = puts_same {T = Unit {0}} _ _ _ _ (Ok tt) (ap (λ l. led [] (opened_reply l))
    (take_all c.loop-i.i _ (omega (arith, length-map c.args.managers.now.items (λ m. (g.H.Manager.state m).kind))))) c.loop-i.invariant.wrote
