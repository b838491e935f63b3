use Rattle.std.proofs.Common.{refl}
use Rattle.cf_base.specs.Settings.{profile_of}
use Rattle.c_base.proofs.CallerLemmas.{at_some, in_box, ok_value}
use Rattle.norphuen_tasks.specs.Calls.{IsFreshTasksHeap}
use Rattle.norphuen_tasks.proofs.held.HeldTasksOpenable.open.Goals as goal

pub returns : goal.returns
returns c =
    let opened = ok_value c.open_heap.result _ c.open_heap.ensures.opened c.ok.result c.ok.ensures.value c.in_ok-ok.field-0 c.in_ok-ok.was in
    let kept = ok_value c.open_heap.result _ c.open_heap.ensures.kept c.ok.result c.ok.ensures.value c.in_ok-ok.field-0 c.in_ok-ok.was in
    let first = at_some c.new.result _ c.new.ensures c.in_ok-handles.handles c.in_ok-handles.was in
    in_box c.new-2.result (λ b. b.value) _ (IsFreshTasksHeap (profile_of c.args.s.now) c.args.last)
    (record { whole = opened; rules = kept; steps = refl; handles = first }) c.new-2.ensures.ok c.ok-2.result c.ok-2.ensures.value
