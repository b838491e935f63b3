use Rattle.std.proofs.Common.{◌∙◌, ap}
use Rattle.cf_model.specs.Answers.{with_bound}
use Rattle.paged_heap.specs.Layout.{state_of}
use Rattle.paged_heap.proofs.BoundLemmas.{rebound_kept, rebound_state}
use Rattle.paged_heap.specs.Heap.{seen}
use Rattle.paged_heap.proofs.open_heap.OpenHeap.set_bound.Goals as goal

pub returns-clause-bound : goal.returns-clause-bound
returns-clause-bound g c =
    rebound_state (seen g.A.Mapping.kind c.args.self.now) c.requires.kept.kept c.requires.empty c.in-Some.c c.args.k c.in-Some.ensures.within
    c.requires.least c.requires.most
    ∙ ap (λ o. with_bound (state_of (seen g.A.Mapping.kind c.args.self.now)) o c.args.k) c.in-Some.ensures.found

pub returns-clause-kept : goal.returns-clause-kept
returns-clause-kept g c =
    record {
      laid = c.requires.kept.laid;
      kept = rebound_kept (seen g.A.Mapping.kind c.args.self.now) c.requires.kept.kept c.requires.empty c.in-Some.c c.args.k c.in-Some.ensures.within
          c.requires.least c.requires.most;
    }
