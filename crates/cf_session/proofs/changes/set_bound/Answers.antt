use Rattle.std.proofs.Common.{arith, sym, IsTrue}
use Rattle.cf_session.proofs.Calling.{bound_none, bound_ok, bound_refused, bound_step, none_held}
use Rattle.cf_session.proofs.changes.set_bound.Goals as goal

pub returns-then-not-is_empty : goal.returns-then-not-is_empty
returns-then-not-is_empty g c =
    record {
      step = bound_refused _ _ c.args.slot_words c.args.k c.requires.going
          (λ none. (let t = c.is_empty.ensures.1 none in let f = c.if-not-is_empty.true in cc));
    }

pub set_bound-requires-clause-empty : goal.set_bound-requires-clause-empty
set_bound-requires-clause-empty g c =
    let t : IsTrue c.is_empty.result = (let f = c.if-not-is_empty.false in grind (arith, f)) in
    none_held _ _ c.requires.going.tied (c.is_empty.ensures.0 t)

pub returns-then-set_bound : goal.returns-then-set_bound
returns-then-set_bound g c =
    let t : IsTrue c.is_empty.result = (let f = c.if-not-is_empty.false in grind (arith, f)) in
    record {
      step = bound_step _ _ c.args.slot_words c.args.k _ _ (none_held _ _ c.requires.going.tied (c.is_empty.ensures.0 t))
          c.set_bound.ensures.bound c.set_bound.ensures.rules (bound_ok _ (sym c.if-set_bound.ensures.value));
    }

pub returns-else-set_bound : goal.returns-else-set_bound
returns-else-set_bound g c =
    let t : IsTrue c.is_empty.result = (let f = c.if-not-is_empty.false in grind (arith, f)) in
    record {
      step = bound_step _ _ c.args.slot_words c.args.k _ _ (none_held _ _ c.requires.going.tied (c.is_empty.ensures.0 t))
          c.set_bound.ensures.bound c.set_bound.ensures.rules (bound_none _ (sym c.if-set_bound.ensures.value));
    }
