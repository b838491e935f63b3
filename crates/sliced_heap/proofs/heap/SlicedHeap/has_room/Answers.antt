use Rattle.std.proofs.Common.{sym, ◌∙◌, ap, subst}
use Rattle.sliced_heap.specs.Room.{IsRoomAnswer}
use Rattle.sliced_heap.specs.Shown.{plan_in, sliced_shown, working_in}
use Rattle.sliced_heap.proofs.heap.SlicedHeap.has_room.Goals as goal

pub returns-clause-value : goal.returns-clause-value
returns-clause-value c =
    subst (λ s. IsRoomAnswer (plan_in s) (working_in s).state c.args.bytes c.has_room.result) (ap sliced_shown (sym c.in-Some.is) ∙ c.self.view_is)
    c.has_room.ensures.value
