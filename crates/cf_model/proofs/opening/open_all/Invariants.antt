use Rattle.cf_model.specs.Loops.{Opens, Sweep}
use Rattle.cf_model.specs.Ordered.{KeepsPromise}
use Rattle.cf_model.proofs.opening.open_all.Given as goal

-- the managers before i are open, and they keep their promises
abbrev pub invariant-loop-i : goal.invariant-loop-i
invariant-loop-i g l = Sweep (λ old new. Opens l.s (g.H.Manager.state old) (g.H.Manager.state new)) l.initial.managers.items l.managers.items l.i
    × Sweep (λ old new. KeepsPromise (g.H.Manager.state old) (g.H.Manager.state new)) l.initial.managers.items l.managers.items l.i
