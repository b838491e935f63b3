use Rattle.std.proofs.Common.{refl, sym, ◌∙◌, ap, subst}
use Rattle.cf_model.specs.State.{HeapState}
use Rattle.cf_model.specs.Steps.{IsResizeFault, IsLeftByRefusal}
use Rattle.tag_heap.specs.Heap.{tag_state_in, tag_state_of}
use Rattle.tag_heap.proofs.ByKind.{of_tiled}
use Rattle.tag_heap.proofs.manager.TagHeapManager.resize.Goals as goal

pub returns-clause-step : goal.returns-clause-step
returns-clause-step g c =
    let kind = g.B.FitPolicy.kind in
    let open_now = tag_state_of kind c.in-Some.open in
    subst (λ (s : HeapState). IsResizeFault s (record { number = c.args.h.0; length = c.args._bytes }) c.resize_fault.result × IsLeftByRefusal s.kind s s)
    (ap (tag_state_in kind) (sym c.in-Some.is) ∙ c.self.view_is)
    (c.resize_fault.ensures.step c.args._bytes, of_tiled (λ k. IsLeftByRefusal k open_now open_now) refl refl kind g.met.B.FitPolicy.tiled)
