use Rattle.std.proofs.Common.{refl}
use Rattle.cf_base.specs.Settings.{profile_of}
use Rattle.slice_session.proofs.RunInvariant.{begins_going, opened_begins}
use Rattle.slice_session.proofs.mode_handler.SliceHandlerModeHandlerSlicedHeap.open.Goals as goal

pub returns-clause-going : goal.returns-clause-going
returns-clause-going g c = begins_going _ (profile_of c.args.settings.now) _
    (opened_begins _ _ c.args.settings.now _ c.requires.ids c.in_ok-open_heap.ensures.ok c.in_ok-open_heap.ensures.rules)

pub returns-clause-opens : goal.returns-clause-opens
returns-clause-opens g c = record {
  reply = _;
  begins = (opened_begins _ _ c.args.settings.now _ c.requires.ids c.in_ok-open_heap.ensures.ok c.in_ok-open_heap.ensures.rules, refl);
  written = c.in_ok-put_all.ensures.wrote;
}
