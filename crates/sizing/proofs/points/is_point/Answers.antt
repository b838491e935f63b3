use Rattle.std.proofs.Common.{◌≤◌, arith, below_more, refl, rules, slice_index, subst, sym}
use Rattle.std.proofs.lemmas.Bool.{false≢true}
use Rattle.std.proofs.lemmas.Grind.{common_steps}
use Rattle.std.proofs.lemmas.List.{length-map}
use Rattle.page_model.specs.Counts.{ceil_div}
use Rattle.page_model.specs.Paging.{slots_of}
use Rattle.sizing.specs.Checks.{paging_with}
use Rattle.sizing.specs.declared.certificate.ModeNeeds.{ModeNeeds}
use Rattle.sizing.proofs.CheckedPoints.{count_at}
use Rattle.sizing.proofs.points.is_point.Goals as goal

pub returns-then-not-has_tops : goal.returns-then-not-has_tops
returns-then-not-has_tops c = (
  λ no. absurd (false≢true no),
  λ row. c.if-not-has_tops.ensures.1 (λ n lt. subst (λ k. ceil_div k (slots_of (paging_with 0 c.args.heap.now) n) ≤ slice_index c.args.x.now.pages n)
      (sym (count_at c.args.pages c.args.heap.now c.args.modes.now c.args.x.now.mode _ (omega arith) n)) ((row.point).tops n lt)),
)

pub loop-j-preserved : goal.loop-j-preserved
loop-j-preserved c = below_more _ _ c.loop-j.invariant (c.if-not-follows.ensures.0 refl)

pub returns-then-not-follows : goal.returns-then-not-follows
returns-then-not-follows c = (
  λ no. absurd (false≢true no),
  λ row. c.if-not-follows.ensures.1 (record {
    next = (let long = length-map c.args.modes.now (λ (m : ModeNeeds). m.needs) in let lt = c.loop-j-test.true in (row.point).next c.loop-j.j (omega arith));
    resized = λ yes. row.resized yes c.loop-j.j c.loop-j-test.true;
  }),
)

pub returns : goal.returns
returns c = (
  λ _. record {
    point = record {
      known = (let long = length-map c.args.modes.now (λ (m : ModeNeeds). m.needs) in omega arith);
      tops = λ n lt. subst (λ k. ceil_div k (slots_of (paging_with 0 c.args.heap.now) n) ≤ slice_index c.args.x.now.pages n)
          (count_at c.args.pages c.args.heap.now c.args.modes.now c.args.x.now.mode _ (omega arith) n) (c.if-not-has_tops.ensures.0 refl n lt);
      enough = first_of (search rules, grind (arith, common_steps));
      next = λ i lt. (let long = length-map c.args.modes.now (λ (m : ModeNeeds). m.needs) in (c.loop-j.invariant i (omega arith)).next);
    };
    resized = λ yes i lt. (c.loop-j.invariant i (omega arith)).resized yes;
  },
  λ _. refl,
)
