use Rattle.std.proofs.Common.{arith}
use Rattle.paged_heap.specs.Heap.{seen}
use Rattle.paged_heap.specs.Layout.{state_of}
use Rattle.paged_heap.proofs.ByKind.{malloc_by_order}
use Rattle.paged_heap.proofs.Preserved.{cost_kept}
use Rattle.paged_heap.proofs.LayoutFacts.{paged_kind}
use Rattle.paged_heap.proofs.MallocLemmas.{malloc_with_cost}
use Rattle.page_model.proofs.CallerLemmas.{word_few}
use Rattle.step_ledger.proofs.CallerLemmas.{rose_is}
use Rattle.paged_heap.proofs.open_heap.OpenHeap.malloc.Goals as goal

pub returns-clause-step : goal.returns-clause-step
returns-clause-step g c =
    malloc_with_cost (seen g.A.Mapping.kind c.args.self.now) (paged_kind (seen g.A.Mapping.kind c.args.self.now) c.requires.kept.kept) c.args.bytes _
    (seen g.A.Mapping.kind c.malloc_inner-result.new.self) _ c.malloc_inner-result.ensures.step

pub returns-clause-kept : goal.returns-clause-kept
returns-clause-kept g c =
    record {
      laid = c.malloc_inner-result.ensures.kept.laid;
      kept = cost_kept (seen g.A.Mapping.kind c.malloc_inner-result.new.self) _ c.malloc_inner-result.ensures.kept.kept;
    }

pub returns-clause-ordered : goal.returns-clause-ordered
returns-clause-ordered g c =
    let old = seen g.A.Mapping.kind c.args.self.now in
    malloc_by_order (state_of old) (paged_kind old c.requires.kept.kept) c.args.bytes _ _ _ _ (record {
      choice = c.malloc_inner-result.ensures.choice;
      cost = (
          let is = rose_is _ _ _ _ c.requires.room (let l = word_few g.A.Mapping.kind in omega arith) c.malloc_inner-result.ensures.cost
          c.malloc_inner-result.ensures.steps in
          let a = c.count-before.ensures in let b = c.count.ensures in
          omega arith);
    })

pub returns-clause-bound : goal.returns-clause-bound
returns-clause-bound g c =
    let a = c.malloc_inner-result.ensures.steps in let l = word_few g.A.Mapping.kind in
    record { kept = a.kept; bound = omega (arith, a.bound, l) }
