use Rattle.std.proofs.Common.{refl}
use Rattle.cf_base.specs.Settings.{profile_of}
use Rattle.quota_session.proofs.RunInvariant.{opened_begins, opened_going}
use Rattle.quota_session.proofs.mode_handler.QuotaHandlerModeHandlerQuotaHeap.open.Goals as goal

pub returns-clause-going : goal.returns-clause-going
returns-clause-going g c = opened_going _ _ _ c.requires c.in_ok-open_heap.ensures.opened c.in_ok-open_heap.ensures.kept

pub returns-clause-opens : goal.returns-clause-opens
returns-clause-opens g c = record {
  reply = _;
  begins = (opened_begins _ _ _ c.requires c.in_ok-open_heap.ensures.opened c.in_ok-open_heap.ensures.kept (profile_of c.args.settings.now) refl, refl);
  written = c.in_ok-put_all.ensures.wrote;
}
