-- The figures count the live objects: if there are none the class gets its bound, else the call is refused.
use Rattle.std.proofs.Common.{◌∙◌, ap, arith, pos, subst, sym}
use Rattle.std.specs.FinMap.{empty_of_len}
use Rattle.cf_base.specs.declared.results.Totals.{Totals}
use Rattle.cf_model.specs.Families.{family_of}
use Rattle.held_heap.specs.Bound.{IsBoundCall}
use Rattle.held_heap.specs.HeldState.{HeldState}
use Rattle.held_heap.proofs.BoundLaws.{done, live_is, refused, unknown}
use Rattle.held_heap.proofs.class_bound.Held+PagedHeap+A.set_bound.Goals as goal

pub returns-then-totals-ne0 : goal.returns-then-totals-ne0
returns-then-totals-ne0 g c =
    let paged = ap family_of c.self.invariant.kind ∙ g.met.A.PageKind.paged in
    let live = ap (λ (t : Totals). t.live) c.totals.ensures.value ∙ live_is c.self.inside.heap.state paged in
    subst (λ (h : HeldState). IsBoundCall h c.args.slot_words c.args.k (pos 20) h) c.self.view_is
    (refused _ c.args.slot_words c.args.k (let f = c.if-k-lt1.false in omega arith) (let f = c.if-k-gt64.false in omega arith) (λ e. c.if-totals-ne0.true (live ∙ e)))

pub set_bound-requires-clause-empty : goal.set_bound-requires-clause-empty
set_bound-requires-clause-empty g c =
    let paged = ap family_of c.self.invariant.kind ∙ g.met.A.PageKind.paged in
    let live = ap (λ (t : Totals). t.live) c.totals.ensures.value ∙ live_is c.self.inside.heap.state paged in
    empty_of_len c.self.inside.heap.state.held (sym live ∙ c.if-totals-ne0.false)

pub returns-then-set_bound : goal.returns-then-set_bound
returns-then-set_bound g c =
    let new : HeldState = record { heap = c.set_bound.new.self.state; steps = c.self.inside.steps; handles = c.self.inside.handles; counts = c.self.inside.counts } in
    let paged = ap family_of c.self.invariant.kind ∙ g.met.A.PageKind.paged in
    let live = ap (λ (t : Totals). t.live) c.totals.ensures.value ∙ live_is c.self.inside.heap.state paged in
    subst (λ (h : HeldState). IsBoundCall h c.args.slot_words c.args.k (pos 0) new) c.self.view_is
    (done _ c.args.slot_words c.args.k (let f = c.if-k-lt1.false in omega arith) (let f = c.if-k-gt64.false in omega arith) (sym live ∙ c.if-totals-ne0.false) _
    c.set_bound.ensures.bound c.set_bound.ensures.rules (sym c.if-set_bound.ensures.value))

pub returns : goal.returns
returns g c =
    let new : HeldState = record { heap = c.set_bound.new.self.state; steps = c.self.inside.steps; handles = c.self.inside.handles; counts = c.self.inside.counts } in
    let paged = ap family_of c.self.invariant.kind ∙ g.met.A.PageKind.paged in
    let live = ap (λ (t : Totals). t.live) c.totals.ensures.value ∙ live_is c.self.inside.heap.state paged in
    subst (λ (h : HeldState). IsBoundCall h c.args.slot_words c.args.k (pos 4) new) c.self.view_is
    (unknown _ c.args.slot_words c.args.k (let f = c.if-k-lt1.false in omega arith) (let f = c.if-k-gt64.false in omega arith) (sym live ∙ c.if-totals-ne0.false) _
    c.set_bound.ensures.bound c.set_bound.ensures.rules (sym c.if-set_bound.ensures.value))
