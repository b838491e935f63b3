use Rattle.std.proofs.Common.{arith, refl, rules, slice_index, sym}
use Rattle.std.proofs.lemmas.Bool.{false≢true}
use Rattle.std.proofs.lemmas.Grind.{common_steps}
use Rattle.sizing.specs.Certificates.{kept_count, mode_count}
use Rattle.sizing.specs.Checks.{needs_of, paging_with}
use Rattle.sizing.proofs.CheckedPoints.{after_is, allows_same, before_is, kept_is, leads_same}
use Rattle.sizing.proofs.points.follows.Goals as goal

pub returns-then-not-leads_into : goal.returns-then-not-leads_into
returns-then-not-leads_into c = (
  λ no. absurd (false≢true no),
  λ f. c.if-not-leads_into.ensures.1 (leads_same (paging_with c.args.pages c.args.heap.now) c.args.points.now
      (kept_count (paging_with c.args.pages c.args.heap.now) (needs_of c.args.modes.now) c.args.x.now.mode c.args.j) (slice_index c.two_modes-counts.result.kept)
      c.args.x.now c.args.j
      (λ e lt. sym (kept_is c.args.pages c.args.heap.now c.args.modes.now c.args.x.now.mode c.args.j _ _ c.requires.known c.requires.mode c.two_modes-counts.result
      c.two_modes-counts.ensures e lt)) f.next),
)

pub returns-then-not-resizes : goal.returns-then-not-resizes
returns-then-not-resizes c = (
  λ _. record {
    next = leads_same (paging_with c.args.pages c.args.heap.now) c.args.points.now (slice_index c.two_modes-counts.result.kept)
        (kept_count (paging_with c.args.pages c.args.heap.now) (needs_of c.args.modes.now) c.args.x.now.mode c.args.j) c.args.x.now c.args.j
        (kept_is c.args.pages c.args.heap.now c.args.modes.now c.args.x.now.mode c.args.j _ _ c.requires.known c.requires.mode c.two_modes-counts.result
        c.two_modes-counts.ensures) (c.if-not-leads_into.ensures.0 refl);
    resized = λ yes. absurd (false≢true (first_of (search rules, grind (arith, common_steps))));
  },
  λ _. refl,
)

pub returns : goal.returns
returns c = (
  λ yes. record {
    next = leads_same (paging_with c.args.pages c.args.heap.now) c.args.points.now (slice_index c.two_modes-counts.result.kept)
        (kept_count (paging_with c.args.pages c.args.heap.now) (needs_of c.args.modes.now) c.args.x.now.mode c.args.j) c.args.x.now c.args.j
        (kept_is c.args.pages c.args.heap.now c.args.modes.now c.args.x.now.mode c.args.j _ _ c.requires.known c.requires.mode c.two_modes-counts.result
        c.two_modes-counts.ensures) (c.if-not-leads_into.ensures.0 refl);
    resized = λ _. allows_same (paging_with c.args.pages c.args.heap.now) c.args.points.now (slice_index c.two_modes-counts.result.kept)
        (slice_index c.two_modes-counts.result.before) (slice_index c.two_modes-counts.result.after)
        (kept_count (paging_with c.args.pages c.args.heap.now) (needs_of c.args.modes.now) c.args.x.now.mode c.args.j)
        (mode_count (paging_with c.args.pages c.args.heap.now) (needs_of c.args.modes.now) c.args.x.now.mode)
        (mode_count (paging_with c.args.pages c.args.heap.now) (needs_of c.args.modes.now) c.args.j) c.args.x.now c.args.j
        (kept_is c.args.pages c.args.heap.now c.args.modes.now c.args.x.now.mode c.args.j _ _ c.requires.known c.requires.mode c.two_modes-counts.result c.two_modes-counts.ensures)
        (before_is c.args.pages c.args.heap.now c.args.modes.now c.args.x.now.mode c.args.j _ _ c.requires.known c.requires.mode c.two_modes-counts.result c.two_modes-counts.ensures)
        (after_is c.args.pages c.args.heap.now c.args.modes.now c.args.x.now.mode c.args.j _ _ c.requires.known c.requires.mode c.two_modes-counts.result c.two_modes-counts.ensures)
        (c.allows_resizes.ensures.0 yes);
  },
  λ f. c.allows_resizes.ensures.1 (allows_same (paging_with c.args.pages c.args.heap.now) c.args.points.now
      (kept_count (paging_with c.args.pages c.args.heap.now) (needs_of c.args.modes.now) c.args.x.now.mode c.args.j)
      (mode_count (paging_with c.args.pages c.args.heap.now) (needs_of c.args.modes.now) c.args.x.now.mode)
      (mode_count (paging_with c.args.pages c.args.heap.now) (needs_of c.args.modes.now) c.args.j)
      (slice_index c.two_modes-counts.result.kept) (slice_index c.two_modes-counts.result.before) (slice_index c.two_modes-counts.result.after) c.args.x.now c.args.j
      (λ e lt. sym (kept_is c.args.pages c.args.heap.now c.args.modes.now c.args.x.now.mode c.args.j _ _ c.requires.known c.requires.mode c.two_modes-counts.result
      c.two_modes-counts.ensures e lt))
      (λ e lt. sym (before_is c.args.pages c.args.heap.now c.args.modes.now c.args.x.now.mode c.args.j _ _ c.requires.known c.requires.mode c.two_modes-counts.result
      c.two_modes-counts.ensures e lt))
      (λ e lt. sym (after_is c.args.pages c.args.heap.now c.args.modes.now c.args.x.now.mode c.args.j _ _ c.requires.known c.requires.mode c.two_modes-counts.result
      c.two_modes-counts.ensures e lt))
      (f.resized (first_of (search rules, grind (arith, common_steps))))),
)
