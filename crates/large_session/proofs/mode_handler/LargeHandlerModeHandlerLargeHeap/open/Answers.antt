use Rattle.std.proofs.Common.{refl}
use Rattle.large_session.proofs.RunInvariant.{opened_begins, opened_going}
use Rattle.large_session.proofs.mode_handler.LargeHandlerModeHandlerLargeHeap.open.Goals as goal

pub returns-clause-going : goal.returns-clause-going
returns-clause-going g c = opened_going _ c.args.heap.now _ _ c.requires.ids c.in_ok-open_heap.ensures.ok c.in_ok-open_heap.ensures.parts

pub returns-clause-opens : goal.returns-clause-opens
returns-clause-opens g c = record {
  reply = _;
  begins = (opened_begins _ c.args.heap.now _ _ c.requires.ids c.in_ok-open_heap.ensures.ok c.in_ok-open_heap.ensures.parts c.args.settings.now refl, refl);
  written = c.in_ok-put_all.ensures.wrote;
}
