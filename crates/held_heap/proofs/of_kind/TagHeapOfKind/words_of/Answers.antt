use Rattle.std.proofs.Common.{sym, subst}
use Rattle.step_ledger.specs.Counting.{RoseBy}
use Rattle.held_heap.proofs.SlotSteps.{tiled_steps}
use Rattle.held_heap.proofs.of_kind.TagHeapOfKind.words_of.Goals as goal

pub returns-clause-steps : goal.returns-clause-steps
returns-clause-steps g c = subst (RoseBy _ _) (sym (tiled_steps g.B.FitPolicy.kind c.block_words.result g.met.B.FitPolicy.tiled)) c.block_words.ensures.steps
