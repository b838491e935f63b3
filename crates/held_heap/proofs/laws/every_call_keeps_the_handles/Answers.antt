use Rattle.std.proofs.Common.{ap, subst, sym, ◌∙◌}
use Rattle.cf_base.specs.Settings.{Profile}
use Rattle.cf_base.specs.declared.kind.Kind.{Kind}
use Rattle.cf_model.specs.Rules.{KeepsRules}
use Rattle.cf_model.specs.State.{HeapState}
use Rattle.c_base.specs.Handles.{number_in}
use Rattle.c_base.proofs.CallerLemmas.{freed_handles, opened_handles}
use Rattle.held_heap.specs.Bound.{class_with_bound}
use Rattle.held_heap.specs.HeldState.{HeldState}
use Rattle.held_heap.proofs.HandleLaws.{bound_rules, keeps}
use Rattle.held_heap.proofs.SettingsStay.{bound_settings, free_settings, malloc_settings, resize_settings, settings, write_settings}
use Rattle.held_heap.proofs.laws.every_call_keeps_the_handles.Goals as goal

pub returns-clause-opened : goal.returns-clause-opened
returns-clause-opened c kind p last new fresh = opened_handles last fresh.rules (ap (λ (s : HeapState). s.profile.proxies) fresh.whole) fresh.handles

pub returns-clause-malloc : goal.returns-clause-malloc
returns-clause-malloc c most old new bytes before after code call k =
    keeps old new call.rules (malloc_settings old.heap new.heap bytes call.answer call.step) call.same k

pub returns-clause-free : goal.returns-clause-free
returns-clause-free c most old new handle before after code call k =
    let stay = free_settings old.heap new.heap (number_in old.handles handle) call.answer call.step in
    freed_handles handle call.answer k call.rules (ap (λ (q : Kind × Profile). q.1.proxies) stay) call.raises

pub returns-clause-resize : goal.returns-clause-resize
returns-clause-resize c most old new handle bytes before after code call k =
    keeps old new call.rules (resize_settings old.heap new.heap (record { number = number_in old.handles handle; length = bytes }) call.answer call.step) call.same k

pub returns-clause-write : goal.returns-clause-write
returns-clause-write c most old new handle from bytes code call k =
    keeps old new call.rules (write_settings old.heap new.heap (record { number = number_in old.handles handle; from = from }) bytes call.answer call.step) call.same k

pub returns-clause-bound : goal.returns-clause-bound
returns-clause-bound c old new words n code call k =
    keeps old new (bound_rules old new words n code call k.rules)
    (ap (λ (h : HeldState). settings h.heap) call.whole ∙ bound_settings old.heap (class_with_bound old.heap words n) n) (ap (λ (h : HeldState). h.handles) call.whole) k

pub returns-clause-others : goal.returns-clause-others
returns-clause-others c old new kept same k = keeps old new (subst KeepsRules (sym kept) k.rules) (ap settings kept) same k
