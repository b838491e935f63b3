use Rattle.std.proofs.Common.{◌∙◌, ap, sym, arith}
use Rattle.top_call.specs.FirstOfKind.{same_kind}
use Rattle.top_call.proofs.FirstOfKindLemmas.{first_here, none_more, none_there}
use Rattle.top_call.proofs.first_of_kind.first_of.Goals as goal

pub loop-i-preserved : goal.loop-i-preserved
loop-i-preserved g c = none_more (λ m. g.H.Manager.state m) c.args.kind c.args.managers.now.items c.loop-i.i c.index.result.now (omega arith) c.index.ensures
    (ap (λ k. same_kind k c.args.kind) (sym c.kind.ensures) ∙ sym c.is_same.ensures ∙ c.if-is_same.false) c.loop-i.invariant

pub returns-then-is_same : goal.returns-then-is_same
returns-then-is_same g c =
    sym (first_here (λ m. g.H.Manager.state m) c.args.kind c.args.managers.now.items c.loop-i.i c.index.result.now (omega arith) c.index.ensures
    (ap (λ k. same_kind k c.args.kind) (sym c.kind.ensures) ∙ sym c.is_same.ensures ∙ c.if-is_same.true) c.loop-i.invariant)

pub returns : goal.returns
returns g c = sym (none_there (λ m. g.H.Manager.state m) c.args.kind c.args.managers.now.items c.loop-i.i (omega arith) c.loop-i.invariant)
