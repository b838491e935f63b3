use Rattle.std.proofs.Common.{ap, refl}
use Rattle.c_base.specs.CallerHeap.{heap_of}
use Rattle.c_base.proofs.Again.{again}
use Rattle.c_base.proofs.lendable.LendableHeap.held.Goals as goal

pub returns : goal.returns
returns g c = let n = c.args.self.now in (
  (refl, λ w. again n.place n.loan n.last w n.is_open n.is_lent _ _ _),
  record { writes_back = tt; value = ap (λ o. heap_of o n.loan.heap n.loan.words n.last) c.lend.ensures.value },
)
