use Rattle.std.proofs.Common.{sym, ap, ◌∙◌}
use Rattle.std.specs.Prelude.{is_some}
use Rattle.cf_model.specs.Answers.{class_with, with_bound}
use Rattle.cf_model.specs.State.{HeapState}
use Rattle.paged_heap.specs.Heap.{seen}
use Rattle.paged_heap.specs.Layout.{state_at, state_in}
use Rattle.paged_heap.specs.PagedState.{PagedState}
use Rattle.paged_heap.proofs.Blocks.{class_is}
use Rattle.paged_heap.proofs.LayoutFacts.{rules}
use Rattle.paged_heap.proofs.manager.PagedHeapManager.set_bound.Goals as goal

pub returns-clause-rules : goal.returns-clause-rules
returns-clause-rules g c = rules (seen g.A.Mapping.kind c.set_bound.new.self) c.set_bound.ensures.kept.kept

pub returns-clause-value : goal.returns-clause-value
returns-clause-value g c =
    let kind = g.A.Mapping.kind in let s = state_at kind c.in-Some.open in
    c.set_bound.ensures.value ∙ ap is_some (sym (class_is kind s c.args.slot_words g.met.A.PageKind.paged))
    ∙ ap (λ (t : HeapState). is_some (class_with t.kind t c.args.slot_words))
    (ap (state_in kind) (sym c.in-Some.is) ∙ ap (λ (v : PagedState). v.state) c.self.view_is)

pub returns-clause-bound : goal.returns-clause-bound
returns-clause-bound g c =
    let kind = g.A.Mapping.kind in let s = state_at kind c.in-Some.open in
    c.set_bound.ensures.bound ∙ ap (λ o. with_bound s o c.args.k) (sym (class_is kind s c.args.slot_words g.met.A.PageKind.paged))
    ∙ ap (λ (t : HeapState). with_bound t (class_with t.kind t c.args.slot_words) c.args.k)
    (ap (state_in kind) (sym c.in-Some.is) ∙ ap (λ (v : PagedState). v.state) c.self.view_is)
