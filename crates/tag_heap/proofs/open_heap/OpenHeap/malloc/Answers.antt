use Rattle.std.proofs.Common.{◌-◌, arith, sym, ◌∙◌, subst}
use Rattle.cf_model.specs.Ordered.{IsOrderedMalloc}
use Rattle.cf_model.specs.Rules.{KeepsRules}
use Rattle.tag_heap.specs.Heap.{Heap, tag_state_of}
use Rattle.tag_heap.proofs.ByKind.{malloc_by}
use Rattle.tag_heap.proofs.CostLemmas.{cost_is, malloc_choice_kept, malloc_cost_kept, malloc_few}
use Rattle.step_ledger.proofs.CallerLemmas.{rose_is}
use Rattle.tag_heap.proofs.Preserved.{cost_rules}
use Rattle.tag_heap.proofs.open_heap.OpenHeap.malloc.Goals as goal

pub returns-clause-rules : goal.returns-clause-rules
returns-clause-rules g c =
    subst (λ (h : Heap). KeepsRules (tag_state_of g.B.FitPolicy.kind (record h { cost = c.count.result - c.count-before.result }))) (sym c.self.view_is)
    (cost_rules g.B.FitPolicy.kind g.met.B.FitPolicy.tiled c.malloc_inner-result.new.self (c.count.result - c.count-before.result)
    c.malloc_inner-result.ensures.rules)

pub returns-clause-ordered : goal.returns-clause-ordered
returns-clause-ordered g c =
    let kind = g.B.FitPolicy.kind in
    let old = c.args.self.now in
    let new = c.malloc_inner-result.new.self in
    let answer = c.malloc_inner-result.result in
    let cost = c.count.result - c.count-before.result in
    let few = malloc_few answer in
    let rose = rose_is _ _ _ _ c.requires (omega arith) c.malloc_inner-result.ensures.steps c.malloc_inner-result.ensures.bound in
    subst (λ (h : Heap). IsOrderedMalloc (tag_state_of kind old) c.args.bytes answer (tag_state_of kind (record h { cost = cost }))) (sym c.self.view_is)
    (malloc_by kind g.met.B.FitPolicy.tiled old (record new { cost = cost }) c.args.bytes answer (record {
      choice = malloc_choice_kept kind old new cost c.args.bytes answer c.malloc_inner-result.ensures.choice;
      cost = cost_is _ _ _ _ _ rose c.count-before.ensures c.count.ensures ∙ malloc_cost_kept (tag_state_of kind old) (tag_state_of kind new) cost c.args.bytes answer;
    }))
