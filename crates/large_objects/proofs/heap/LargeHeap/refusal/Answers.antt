use Rattle.std.proofs.Common.{ap, arith, refl}
use Rattle.cf_base.specs.declared.results.Totals.{Totals}
use Rattle.large_objects.proofs.CostLemmas.{totals_cost}
use Rattle.large_objects.proofs.Kept.{count_small, not_refused, refused_pages, refused_proxies, same_kept}
use Rattle.large_objects.proofs.heap.LargeHeap.refusal.Goals as goal

pub overflow_add-live : goal.overflow_add-live
overflow_add-live g c =
    let live = ap (λ (t : Totals). t.live) c.totals-live.ensures.value in
    let small = count_small c.self.inside.is_open c.self.inside.pages c.self.inside.part_bytes c.self.inside.lengths.items (g.H.Manager.state c.self.inside.inner)
    c.args.self.now c.self.view_is
    c.requires c.self.invariant c.args.bytes c.totals-live.result.live c.count_inner_objects.result live c.count_inner_objects.ensures (omega arith) in omega arith

pub returns-then-len-live-clause-cause : goal.returns-then-len-live-clause-cause
returns-then-len-live-clause-cause g c =
    let live = ap (λ (t : Totals). t.live) c.totals-live.ensures.value in
    refused_proxies c.self.inside.is_open c.self.inside.pages c.self.inside.part_bytes c.self.inside.lengths.items (g.H.Manager.state c.self.inside.inner)
    c.args.self.now c.self.view_is
    c.requires c.self.invariant c.args.bytes c.totals-live.result.live c.count_inner_objects.result (c.if-not-has_spine_that_fits.ensures.0 refl) live
    c.count_inner_objects.ensures (omega arith)

pub returns-then-self-pages_with-clause-cause : goal.returns-then-self-pages_with-clause-cause
returns-then-self-pages_with-clause-cause g c =
    let live = ap (λ (t : Totals). t.live) c.totals-live.ensures.value in
    refused_pages c.self.inside.is_open c.self.inside.pages c.self.inside.part_bytes c.self.inside.lengths.items (g.H.Manager.state c.self.inside.inner)
    c.args.self.now c.self.view_is
    c.requires c.self.invariant c.args.bytes c.totals-live.result.live c.count_inner_objects.result c.pages_with.result (c.if-not-has_spine_that_fits.ensures.0 refl)
    live
    c.count_inner_objects.ensures (omega arith) c.pages_with.ensures (omega arith)

pub returns-clause-cause : goal.returns-clause-cause
returns-clause-cause g c =
    let live = ap (λ (t : Totals). t.live) c.totals-live.ensures.value in
    not_refused c.self.inside.is_open c.self.inside.pages c.self.inside.part_bytes c.self.inside.lengths.items (g.H.Manager.state c.self.inside.inner)
    c.args.self.now c.self.view_is
    c.requires c.self.invariant c.args.bytes c.totals-live.result.live c.count_inner_objects.result c.pages_with.result (c.if-not-has_spine_that_fits.ensures.0 refl)
    live
    c.count_inner_objects.ensures (omega arith) c.pages_with.ensures (omega arith)

pub returns-then-not-has_spine_that_fits-clause-kept : goal.returns-then-not-has_spine_that_fits-clause-kept
returns-then-not-has_spine_that_fits-clause-kept g c = same_kept c.self.inside.is_open c.self.inside.pages c.self.inside.part_bytes c.self.inside.lengths.items
    (g.H.Manager.state c.self.inside.inner) c.args.self.now c.self.view_is
    c.requires c.self.invariant

pub returns-then-len-live-clause-kept : goal.returns-then-len-live-clause-kept
returns-then-len-live-clause-kept g c = same_kept c.self.inside.is_open c.self.inside.pages c.self.inside.part_bytes c.self.inside.lengths.items
    (g.H.Manager.state c.self.inside.inner) c.args.self.now c.self.view_is
    c.requires c.self.invariant

pub returns-then-self-pages_with-clause-kept : goal.returns-then-self-pages_with-clause-kept
returns-then-self-pages_with-clause-kept g c = same_kept c.self.inside.is_open c.self.inside.pages c.self.inside.part_bytes c.self.inside.lengths.items
    (g.H.Manager.state c.self.inside.inner) c.args.self.now c.self.view_is
    c.requires c.self.invariant

pub returns-clause-kept : goal.returns-clause-kept
returns-clause-kept g c = same_kept c.self.inside.is_open c.self.inside.pages c.self.inside.part_bytes c.self.inside.lengths.items
    (g.H.Manager.state c.self.inside.inner) c.args.self.now c.self.view_is
    c.requires c.self.invariant

pub returns-then-len-live-clause-steps : goal.returns-then-len-live-clause-steps
returns-then-len-live-clause-steps g c = totals_cost g.H.StepBounds.most (g.H.Manager.state c.self.inside.inner) c.args.self.now.inner
    c.args.steps.now c.totals-live.new.steps
    c.totals-live.ensures.exact

pub returns-then-self-pages_with-clause-steps : goal.returns-then-self-pages_with-clause-steps
returns-then-self-pages_with-clause-steps g c = totals_cost g.H.StepBounds.most (g.H.Manager.state c.self.inside.inner) c.args.self.now.inner
    c.args.steps.now c.totals-live.new.steps
    c.totals-live.ensures.exact

pub returns-clause-steps : goal.returns-clause-steps
returns-clause-steps g c = totals_cost g.H.StepBounds.most (g.H.Manager.state c.self.inside.inner) c.args.self.now.inner
    c.args.steps.now c.totals-live.new.steps
    c.totals-live.ensures.exact
