-- At the end of the loop as many numbers were looked at as there are from `from` on.
use Rattle.std.proofs.Common.{◌≡◌, ◌-◌, arith, subst}
use Rattle.step_ledger.specs.Counting.{RoseBy}
use Rattle.held_heap.proofs.walk.next_live.Goals as goal

pub returns-clause-steps : goal.returns-clause-steps
returns-clause-steps g c =
    let all : c.loop-n.n - c.args.from ≡ c.args.count - c.args.from = (let v = c.loop-n.invariant in let t = c.loop-n-test.false in omega arith) in
    subst (RoseBy c.args.steps.now c.loop-n.steps) all c.loop-n.invariant.2
