use Rattle.std.proofs.Common.{sym, ap, subst, ◌∙◌}
use Rattle.cf_model.specs.Ordered.{IsOrderedMalloc}
use Rattle.cf_model.specs.State.{HeapState}
use Rattle.paged_heap.specs.Heap.{seen}
use Rattle.paged_heap.specs.Layout.{state_at, state_in}
use Rattle.paged_heap.specs.PagedState.{PagedState}
use Rattle.paged_heap.proofs.LayoutFacts.{rules}
use Rattle.paged_heap.proofs.manager.PagedHeapManager.malloc.Goals as goal

pub returns-clause-rules : goal.returns-clause-rules
returns-clause-rules g c = rules (seen g.A.Mapping.kind c.malloc.new.self) c.malloc.ensures.kept.kept

pub returns-clause-ordered : goal.returns-clause-ordered
returns-clause-ordered g c =
    subst (λ (s : HeapState). IsOrderedMalloc s c.args.bytes c.malloc.result (state_at g.A.Mapping.kind c.malloc.new.self))
    (ap (state_in g.A.Mapping.kind) (sym c.in-Some.is) ∙ ap (λ (v : PagedState). v.state) c.self.view_is) c.malloc.ensures.ordered
