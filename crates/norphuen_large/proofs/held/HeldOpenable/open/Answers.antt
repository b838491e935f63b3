use Rattle.std.proofs.Common.{◌∙◌, ap}
use Rattle.cf_base.specs.Settings.{profile_of}
use Rattle.cf_model.specs.State.{HeapState}
use Rattle.c_base.proofs.Opened.{at_ok, at_some, in_box}
use Rattle.norphuen_large.specs.Calls.{IsFreshLargeHeap}
use Rattle.norphuen_large.proofs.Fresh.{fresh}
use Rattle.norphuen_large.proofs.held.HeldOpenable.open.Goals as goal

pub returns : goal.returns
returns c =
    let opened = at_ok c.open_heap.result _ c.open_heap.ensures.ok c.ok.result c.ok.ensures.value c.in_ok-ok.field-0 c.in_ok-ok.was in
    let rules = at_ok c.open_heap.result _ c.open_heap.ensures.parts c.ok.result c.ok.ensures.value c.in_ok-ok.field-0 c.in_ok-ok.was in
    let first = at_some c.new.result _ c.new.ensures c.in_ok-handles.handles c.in_ok-handles.was in
    let kind = ap (λ (s : HeapState). s.kind) (c.new-heap.ensures.inner ∙ c.closed.ensures.state) in
    in_box c.new-2.result (λ b. b.value) _ (IsFreshLargeHeap (profile_of c.args.s.now) c.args.last)
    (fresh c.args.s.now c.args.last _ first _ _ kind opened rules) c.new-2.ensures.ok c.ok-2.result c.ok-2.ensures.value
