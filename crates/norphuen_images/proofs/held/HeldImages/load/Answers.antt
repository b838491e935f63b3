use Rattle.std.proofs.Common.{ap, refl, sym, subst}
use Rattle.paged_heap.specs.PagedState.{PagedState}
use Rattle.norphuen_images.specs.Calls.{HoldsImage}
use Rattle.norphuen_images.specs.Slices.{slice_source_seen}
use Rattle.norphuen_images.proofs.Loading.{fault_is, few, holds, named, open_now}
use Rattle.norphuen_images.proofs.held.HeldImages.load.Goals as goal

pub returns-in-Err-clause-err : goal.returns-in-Err-clause-err
returns-in-Err-clause-err c = fault_is _ _ (slice_source_seen (record { bytes = c.args.bytes; given = 0; calls = 0 })) (slice_source_seen c.load.new.source) c.args.bytes.now refl
    c.in-Err.fault c.in-Err.ensures.loads c.in-Err.ensures.source refl

pub set_bounds-requires-clause-open : goal.set_bounds-requires-clause-open
set_bounds-requires-clause-open c = open_now _ _ (slice_source_seen (record { bytes = c.args.bytes; given = 0; calls = 0 })) (slice_source_seen c.load.new.source) c.args.bytes.now refl
    c.in-Ok-load.settings c.in-Ok-load.ensures.loads

pub set_bounds-requires-clause-few : goal.set_bounds-requires-clause-few
set_bounds-requires-clause-few c = few _ _ (slice_source_seen (record { bytes = c.args.bytes; given = 0; calls = 0 })) (slice_source_seen c.load.new.source) c.args.bytes.now refl
    c.in-Ok-load.settings c.in-Ok-load.ensures.loads c.args.k c.requires.least

pub invariant_of-held : goal.invariant_of-held
invariant_of-held c = named _ _ (slice_source_seen (record { bytes = c.args.bytes; given = 0; calls = 0 })) (slice_source_seen c.load.new.source) c.args.bytes.now refl
    c.in-Ok-load.settings c.in-Ok-load.ensures.loads c.handle-first.ensures.within c.args.k _
    (ap (λ (s : PagedState). s.state) c.set_bounds.ensures.bounds) c.set_bounds.ensures.rules

pub returns-in-Ok-new-clause-ok : goal.returns-in-Ok-new-clause-ok
returns-in-Ok-new-clause-ok c = subst (HoldsImage c.args.bytes.now c.args.k) (sym c.in-Ok-new.ensures.ok)
    (holds _ _ (slice_source_seen (record { bytes = c.args.bytes; given = 0; calls = 0 })) (slice_source_seen c.load.new.source) c.args.bytes.now refl
    c.in-Ok-load.settings c.in-Ok-load.ensures.loads c.handle-first.ensures.within c.args.k _
    (ap (λ (s : PagedState). s.state) c.set_bounds.ensures.bounds) c.set_bounds.ensures.rules)
