use Rattle.std.proofs.Common.{arith}
use Rattle.paged_heap.specs.Heap.{seen}
use Rattle.paged_heap.specs.Layout.{state_of}
use Rattle.paged_heap.proofs.ByKind.{free_by_order}
use Rattle.paged_heap.proofs.Preserved.{cost_kept}
use Rattle.paged_heap.proofs.FreeLemmas.{few_free, free_with_cost}
use Rattle.paged_heap.proofs.LayoutFacts.{paged_kind}
use Rattle.paged_heap.proofs.StepLemmas.{free_low}
use Rattle.step_ledger.proofs.CallerLemmas.{rose_is}
use Rattle.paged_heap.proofs.open_heap.OpenHeap.free.Goals as goal

pub returns-clause-step : goal.returns-clause-step
returns-clause-step g c =
    free_with_cost (seen g.A.Mapping.kind c.args.self.now) c.args.h.0 _ (seen g.A.Mapping.kind c.free_inner-result.new.self) _ c.free_inner-result.ensures.step

pub returns-clause-kept : goal.returns-clause-kept
returns-clause-kept g c =
    record {
      laid = c.free_inner-result.ensures.kept.laid;
      kept = cost_kept (seen g.A.Mapping.kind c.free_inner-result.new.self) _ c.free_inner-result.ensures.kept.kept;
    }

pub returns-clause-ordered : goal.returns-clause-ordered
returns-clause-ordered g c =
    let old = seen g.A.Mapping.kind c.args.self.now in
    free_by_order (state_of old) (paged_kind old c.requires.kept.kept) c.args.h.0 _ _ _ _ (record {
      choice = c.free_inner-result.ensures.choice;
      cost = (
          let is = rose_is _ _ _ _ c.requires.room
          (few_free (seen g.A.Mapping.kind c.args.self.now) c.requires.kept.kept c.args.h.0 _ _ c.free_inner-result.ensures.step)
          c.free_inner-result.ensures.cost
          (record { kept = c.free_inner-result.ensures.steps.kept; bound = (let a = c.free_inner-result.ensures.steps.bound in let l = free_low g.A.Mapping.kind c.free_inner-result.result in omega arith) }) in
          let a = c.count-before.ensures in let b = c.count.ensures in
          omega arith);
    })

pub returns-clause-bound : goal.returns-clause-bound
returns-clause-bound g c =
    let a = c.free_inner-result.ensures.steps in let l = free_low g.A.Mapping.kind c.free_inner-result.result in
    record { kept = a.kept; bound = omega (arith, a.bound, l) }
