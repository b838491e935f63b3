use Rattle.std.proofs.Common.{[], Some, None, arith, sym, ◌∙◌}
use Rattle.tag_blocks.proofs.CallerLemmas.{by_same}
use Rattle.tag_heap.proofs.CostLemmas.{find_cost}
use Rattle.tag_heap.proofs.Preserved.{rules}
use Rattle.tag_heap.proofs.MallocLemmas.{has_no_cause, lacks_proxy, lacks_space}
use Rattle.tag_heap.proofs.open_heap.OpenHeap.room.Goals as goal

pub returns-then-self-need-clause-rules : goal.returns-then-self-need-clause-rules
returns-then-self-need-clause-rules g c = rw (← c.self.view_is) (rules _ c.self.invariant g.met.B.FitPolicy.tiled)

pub returns-then-live-self-clause-room : goal.returns-then-live-self-clause-room
returns-then-live-self-clause-room g c = rw (← c.self.view_is) (
    lacks_proxy g.B.FitPolicy.kind g.met.B.FitPolicy.tiled _ c.self.invariant c.args.bytes
    (let f = c.if-self-need.false in let e = c.need_of-need.ensures in omega arith)
    (sym c.live.ensures.count ∙ c.if-live-self.true ∙ sym c.self.invariant.numbers))

pub returns-then-live-self-clause-answer : goal.returns-then-live-self-clause-answer
returns-then-live-self-clause-answer g c = returns-then-live-self-clause-room g c

pub returns-then-live-self-clause-rules : goal.returns-then-live-self-clause-rules
returns-then-live-self-clause-rules g c = rw (← c.self.view_is) (rules _ c.self.invariant g.met.B.FitPolicy.tiled)

pub returns-in-Some-clause-room : goal.returns-in-Some-clause-room
returns-in-Some-clause-room g c = rw (← c.self.view_is) (record {
  fits = (let f = c.if-self-need.false in let e = c.need_of-need.ensures in omega arith);
  few = λ all. c.if-live-self.false (c.live.ensures.count ∙ all ∙ c.self.invariant.numbers);
  found = rw c.need_of-need.ensures at c.in-Some.ensures.found;
  next = sym (rw c.need_of-need.ensures at c.in-Some.ensures.next);
})

pub returns-in-Some-clause-answer : goal.returns-in-Some-clause-answer
returns-in-Some-clause-answer g c = rw (← c.self.view_is) (
    has_no_cause g.B.FitPolicy.kind g.met.B.FitPolicy.tiled _ _ g.met.B.FitPolicy.lists _ c.in-Some.place (record {
      fits = (let f = c.if-self-need.false in let e = c.need_of-need.ensures in omega arith);
      few = λ all. c.if-live-self.false (c.live.ensures.count ∙ all ∙ c.self.invariant.numbers);
      found = rw c.need_of-need.ensures at c.in-Some.ensures.found;
      next = sym (rw c.need_of-need.ensures at c.in-Some.ensures.next);
    }) c.self.invariant)

pub returns-in-Some-clause-rules : goal.returns-in-Some-clause-rules
returns-in-Some-clause-rules g c = rw (← c.self.view_is) (rules _ c.self.invariant g.met.B.FitPolicy.tiled)

pub returns-in-None-clause-room : goal.returns-in-None-clause-room
returns-in-None-clause-room g c = rw (← c.self.view_is) (
    lacks_space g.B.FitPolicy.kind g.met.B.FitPolicy.tiled _ c.self.invariant c.args.bytes
    (let f = c.if-self-need.false in let e = c.need_of-need.ensures in omega arith) _ g.met.B.FitPolicy.lists
    (λ all. c.if-live-self.false (c.live.ensures.count ∙ all ∙ c.self.invariant.numbers))
    c.need_of-need.result c.need_of-need.ensures c.in-None.ensures.found)

pub returns-in-None-clause-answer : goal.returns-in-None-clause-answer
returns-in-None-clause-answer g c = returns-in-None-clause-room g c

pub returns-in-None-clause-rules : goal.returns-in-None-clause-rules
returns-in-None-clause-rules g c = rw (← c.self.view_is) (rules _ c.self.invariant g.met.B.FitPolicy.tiled)

pub returns-in-Some-clause-steps : goal.returns-in-Some-clause-steps
returns-in-Some-clause-steps g c = rw (← c.self.view_is) (by_same _ _ _ _ c.in-Some.ensures.steps (
    find_cost g.B.FitPolicy.kind _ _ g.met.B.FitPolicy.lists g.met.B.FitPolicy.count c.args.bytes c.need_of-need.result c.need_of-need.ensures _
    (Some c.in-Some.place)))

pub returns-in-None-clause-steps : goal.returns-in-None-clause-steps
returns-in-None-clause-steps g c = by_same _ _ _ _ c.in-None.ensures.steps (
    find_cost g.B.FitPolicy.kind _ _ g.met.B.FitPolicy.lists g.met.B.FitPolicy.count c.args.bytes c.need_of-need.result c.need_of-need.ensures [] None)
