use Rattle.std.proofs.Common.{◌≡◌, ℕ, ◌-◌, ◌≤◌, ◌<◌, None}
use Rattle.std.specs.FinMap.{get}
use Rattle.step_ledger.specs.Counting.{RoseBy}
use Rattle.held_heap.proofs.walk.next_live.Given as goal

abbrev pub invariant-loop-n : goal.invariant-loop-n
invariant-loop-n g l =
    (l.from ≤ l.n) × ((m : ℕ) → l.from ≤ m → m < l.n → get (g.H.Manager.state l.heap).held m ≡ None) × RoseBy l.initial.steps l.steps (l.n - l.from)
    × (l.n - l.from ≤ l.count - l.from)
