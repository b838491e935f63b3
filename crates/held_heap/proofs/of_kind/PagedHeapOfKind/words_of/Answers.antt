use Rattle.std.proofs.Common.{sym, subst}
use Rattle.step_ledger.specs.Counting.{RoseBy}
use Rattle.held_heap.proofs.SlotSteps.{paged_steps}
use Rattle.held_heap.proofs.of_kind.PagedHeapOfKind.words_of.Goals as goal

pub returns-clause-steps : goal.returns-clause-steps
returns-clause-steps g c = subst (RoseBy _ _) (sym (paged_steps g.A.Mapping.kind c.slot_words.result g.met.A.PageKind.paged)) c.slot_words.ensures.steps
