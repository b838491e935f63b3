use Rattle.std.proofs.Common.{Some, sym, ap, subst, ◌∙◌}
use Rattle.cf_model.specs.Ordered.{IsOrderedFree}
use Rattle.cf_model.specs.State.{HeapState}
use Rattle.cf_model.specs.Steps.{BlocksStayIn}
use Rattle.paged_heap.specs.Heap.{seen}
use Rattle.paged_heap.specs.Layout.{Holds, IsValidIn, state_at, state_in}
use Rattle.paged_heap.specs.PagedState.{OthersStayIn, PagedState, paged_in}
use Rattle.paged_heap.proofs.Blocks.{free_blocks, others_in_place}
use Rattle.paged_heap.proofs.LayoutFacts.{rules}
use Rattle.paged_heap.proofs.manager.PagedHeapManager.free.Goals as goal

pub returns-clause-rules : goal.returns-clause-rules
returns-clause-rules g c = rules (seen g.A.Mapping.kind c.free.new.self) c.free.ensures.kept.kept

pub returns-clause-blocks : goal.returns-clause-blocks
returns-clause-blocks g c =
    let kind = g.A.Mapping.kind in
    let was : Holds kind c.in-Some.open = subst (IsValidIn kind) c.in-Some.is c.self.invariant in
    subst (λ (s : HeapState). BlocksStayIn s.kind s c.args.h.0 (state_at kind c.free.new.self))
    (ap (state_in kind) (sym c.in-Some.is) ∙ ap (λ (v : PagedState). v.state) c.self.view_is)
    (free_blocks kind c.in-Some.open c.free.new.self c.args.h.0 _ was c.free.ensures.kept c.free.ensures.step)

pub returns-clause-others : goal.returns-clause-others
returns-clause-others g c =
    let kind = g.A.Mapping.kind in let is = c.free.ensures.kept in
    let was : Holds kind c.in-Some.open = subst (IsValidIn kind) c.in-Some.is c.self.invariant in
    subst (λ (v : PagedState). OthersStayIn kind v c.args.h.0 (paged_in kind (Some c.free.new.self))) (ap (paged_in kind) (sym c.in-Some.is) ∙ c.self.view_is)
    (others_in_place kind c.in-Some.open c.free.new.self c.args.h.0 was is
    (free_blocks kind c.in-Some.open c.free.new.self c.args.h.0 _ was is c.free.ensures.step))

pub returns-clause-ordered : goal.returns-clause-ordered
returns-clause-ordered g c =
    subst (λ (s : HeapState). IsOrderedFree s c.args.h.0 c.free.result (state_at g.A.Mapping.kind c.free.new.self))
    (ap (state_in g.A.Mapping.kind) (sym c.in-Some.is) ∙ ap (λ (v : PagedState). v.state) c.self.view_is) c.free.ensures.ordered
