use Rattle.top_call.proofs.FirstOfKindLemmas.{NoneBelow}
use Rattle.top_call.proofs.first_of_kind.first_of.Given as goal

abbrev pub invariant-loop-i : goal.invariant-loop-i
invariant-loop-i g l = NoneBelow (λ m. g.H.Manager.state m) l.kind l.managers.items l.i
