use Rattle.std.proofs.Common.{ap, subst, sym}
use Rattle.cf_base.specs.Settings.{Profile}
use Rattle.sliced_heap.specs.Shown.{KeepsSlicedRules, SlicedState}
use Rattle.c_base.proofs.CallerLemmas.{freed_handles, opened_handles, same_handles}
use Rattle.norphuen_sliced.proofs.laws.every_call_keeps_the_handles.Goals as goal

pub returns-clause-opened : goal.returns-clause-opened
returns-clause-opened c p quantum last new fresh = opened_handles last fresh.rules (ap (λ (s : SlicedState). s.profile.proxies) fresh.heap) fresh.handles

pub returns-clause-malloc : goal.returns-clause-malloc
returns-clause-malloc c old new bytes before after code call k =
    same_handles k call.call.rules (ap (λ (p : Profile). p.proxies) call.call.same.profile) call.same

pub returns-clause-free : goal.returns-clause-free
returns-clause-free c old new handle code call k =
    freed_handles handle call.answer k call.call.rules (ap (λ (p : Profile). p.proxies) call.call.same.profile) call.raises

pub returns-clause-step : goal.returns-clause-step
returns-clause-step c old new code call k = same_handles k call.call.rules (ap (λ (p : Profile). p.proxies) call.call.same.profile) call.same

pub returns-clause-write : goal.returns-clause-write
returns-clause-write c old new handle from bytes code call k =
    same_handles k call.call.rules (ap (λ (p : Profile). p.proxies) call.call.same.profile) call.same

pub returns-clause-others : goal.returns-clause-others
returns-clause-others c old new kept same k =
    same_handles k (subst KeepsSlicedRules (sym kept) k.rules) (ap (λ (s : SlicedState). s.profile.proxies) kept) same
