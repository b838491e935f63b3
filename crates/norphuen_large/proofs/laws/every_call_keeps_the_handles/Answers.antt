use Rattle.std.proofs.Common.{ap, subst, sym}
use Rattle.cf_base.specs.Settings.{Profile}
use Rattle.cf_model.specs.State.{HeapState}
use Rattle.large_objects.specs.Large.{KeepsParts, LargeState}
use Rattle.c_base.proofs.CallerLemmas.{freed_handles, opened_handles, same_handles}
use Rattle.norphuen_large.proofs.laws.every_call_keeps_the_handles.Goals as goal

pub returns-clause-opened : goal.returns-clause-opened
returns-clause-opened c p last new fresh = opened_handles last fresh.rules (ap (λ (s : HeapState). s.profile.proxies) fresh.whole) fresh.handles

pub returns-clause-malloc : goal.returns-clause-malloc
returns-clause-malloc c old new bytes before after code call k =
    same_handles k call.kept.parts (ap (λ (p : Profile). p.proxies) call.kept.stays.inner.profile) call.same

pub returns-clause-free : goal.returns-clause-free
returns-clause-free c old new handle code call k =
    freed_handles handle call.answer k call.kept.parts (ap (λ (p : Profile). p.proxies) call.kept.stays.inner.profile) call.raises

pub returns-clause-write : goal.returns-clause-write
returns-clause-write c old new handle from bytes code call k =
    same_handles k call.kept.parts (ap (λ (p : Profile). p.proxies) call.kept.stays.inner.profile) call.same

pub returns-clause-others : goal.returns-clause-others
returns-clause-others c old new kept same k =
    same_handles k (subst KeepsParts (sym kept) k.rules) (ap (λ (s : LargeState). s.inner.profile.proxies) kept) same
