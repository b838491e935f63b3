use Rattle.cf_base.specs.Settings.{profile_of}
use Rattle.norphuen_sliced.specs.Calls.{IsFreshSlicedHeap}
use Rattle.c_base.proofs.CallerLemmas.{at_ok, at_some, in_box}
use Rattle.norphuen_sliced.proofs.Fresh.{fresh}
use Rattle.norphuen_sliced.proofs.held.Held.open.Goals as goal

pub returns : goal.returns
returns c =
    let opened = at_ok c.open_heap.result _ c.open_heap.ensures.ok c.ok.result c.ok.ensures.value c.in_ok-ok.field-0 c.in_ok-ok.was in
    let rules = at_ok c.open_heap.result _ c.open_heap.ensures.rules c.ok.result c.ok.ensures.value c.in_ok-ok.field-0 c.in_ok-ok.was in
    let first = at_some c.new.result _ c.new.ensures c.in_ok-handles.handles c.in_ok-handles.was in
    in_box c.new-2.result (λ b. b.value) _ (IsFreshSlicedHeap (profile_of c.args.s.now) c.args.quantum c.args.last)
    (fresh c.args.s.now c.args.quantum c.args.last _ first _ opened rules) c.new-2.ensures.ok c.ok-2.result c.ok-2.ensures.value
