use Rattle.cf_base.specs.Settings.{profile_of}
use Rattle.c_base.proofs.Opened.{in_box}
use Rattle.norphuen_images.specs.Calls.{IsFreshRun}
use Rattle.norphuen_images.proofs.Loading.{fresh}
use Rattle.norphuen_images.proofs.held.HeldImagesOpenable.open.Goals as goal

pub invariant_of-held : goal.invariant_of-held
invariant_of-held c =
    (fresh c.args.s.now _ _ _ c.in-Ok.ensures c.closed-heap.ensures.state c.in-Ok-open_heap.ensures.ok c.in-Ok-open_heap.ensures.rules).named

pub returns : goal.returns
returns c = in_box c.new-2.result (λ b. b.value) _ (IsFreshRun (profile_of c.args.s.now))
    (fresh c.args.s.now _ _ _ c.in-Ok.ensures c.closed-heap.ensures.state c.in-Ok-open_heap.ensures.ok c.in-Ok-open_heap.ensures.rules)
    c.new-2.ensures.ok c.ok.result c.ok.ensures.value
