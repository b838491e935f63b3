use Rattle.std.proofs.Common.{◌∷◌, arith, refl, sym, ap, ◌∙◌, subst}
use Rattle.std.proofs.lemmas.Result.{err_from_is_err_and}
use Rattle.step_ledger.proofs.CallerLemmas.{rose_both}
use Rattle.tag_blocks.proofs.CallerLemmas.{by_same}
use Rattle.proxy_table.specs.Proxies.{AreBelowLimit, Proxies}
use Rattle.tag_heap.proofs.ByKind.{lists_of_kind}
use Rattle.tag_heap.proofs.CostLemmas.{malloc_cost_is}
use Rattle.tag_heap.proofs.Preserved.{rules}
use Rattle.tag_heap.proofs.FigureLemmas.{asked_few}
use Rattle.tag_heap.proofs.MallocLemmas.{chooses, given_rules, given_valid, gives, used_small}
use Rattle.tag_heap.proofs.ReadLemmas.{place_described}
use Rattle.tag_heap.proofs.open_heap.OpenHeap.malloc_inner.Goals as goal

pub returns-in_err-place-clause-step : goal.returns-in_err-place-clause-step
returns-in_err-place-clause-step g c =
    let p = err_from_is_err_and c.from_residual.result c.from_residual.ensures.1 in
    let cause = c.in_err-place.ensures.room in
    rw (p.1, p.2) (cause, refl)

pub returns-in_err-place-clause-rules : goal.returns-in_err-place-clause-rules
returns-in_err-place-clause-rules g c = rw (← c.self.view_is) (rules _ c.self.invariant g.met.B.FitPolicy.tiled)

pub unreachable-requires : goal.unreachable-requires
unreachable-requires g c =
    let r = rw (← c.self.view_is) at c.in_ok-place.ensures.room in
    r.few (c.in_default.ensures.none.0 refl)

pub overflow_add-self : goal.overflow_add-self
overflow_add-self g c =
    let r = rw (← c.self.view_is) at c.in_ok-place.ensures.room in
    (let u = used_small _ _ c.self.invariant c.in-Some.handle.0 c.args.bytes c.in_ok-place.place
    r.fits c.in-Some.ensures.fresh c.in-Some.ensures.within
    r.few _ c.need_of-words.result c.pack.result c.need_of-words.ensures c.pack.ensures
    c.carve_at.ensures.carved c.carve_at.ensures.len c.carve_at.ensures.kept
    (lists_of_kind _ _ _ _ g.met.B.FitPolicy.lists g.met.B.FitPolicy.count c.carve_at.ensures.listed)
    (subst AreBelowLimit c.in-Some.ensures.places c.in-Some.ensures.kept) c.carve_at.result c.carve_at.ensures.size in omega arith)

pub overflow_add-self-2 : goal.overflow_add-self-2
overflow_add-self-2 g c = (let a = asked_few _ c.self.invariant in let e = c.from.ensures in omega arith)

pub invariant_of-self : goal.invariant_of-self
invariant_of-self g c =
    let r = rw (← c.self.view_is) at c.in_ok-place.ensures.room in
    rw (c.in-Some.ensures.places, c.from.ensures) (given_valid _ _ c.self.invariant
    c.in-Some.handle.0 c.args.bytes c.in_ok-place.place
    r.fits c.in-Some.ensures.fresh c.in-Some.ensures.within
    r.few _ c.need_of-words.result c.pack.result c.need_of-words.ensures c.pack.ensures
    c.carve_at.ensures.carved c.carve_at.ensures.len c.carve_at.ensures.kept
    (lists_of_kind _ _ _ _ g.met.B.FitPolicy.lists g.met.B.FitPolicy.count c.carve_at.ensures.listed)
    (subst AreBelowLimit c.in-Some.ensures.places c.in-Some.ensures.kept) c.carve_at.result c.carve_at.ensures.size)

pub returns-clause-step : goal.returns-clause-step
returns-clause-step g c =
    let r = rw (← c.self.view_is) at c.in_ok-place.ensures.room in
    rw (← c.self.view_is, c.in-Some.ensures.places) (gives _ _ c.self.invariant
    c.in-Some.handle.0 c.args.bytes c.in_ok-place.place
    r.fits c.in-Some.ensures.fresh c.in-Some.ensures.within
    r.few _ c.need_of-words.result c.pack.result c.need_of-words.ensures c.pack.ensures
    c.carve_at.ensures.carved c.carve_at.ensures.len c.carve_at.ensures.kept
    (lists_of_kind _ _ _ _ g.met.B.FitPolicy.lists g.met.B.FitPolicy.count c.carve_at.ensures.listed)
    (subst AreBelowLimit c.in-Some.ensures.places c.in-Some.ensures.kept) c.carve_at.result c.carve_at.ensures.size
    g.met.B.FitPolicy.tiled g.met.B.FitPolicy.lists)

pub returns-clause-rules : goal.returns-clause-rules
returns-clause-rules g c =
    let r = rw (← c.self.view_is) at c.in_ok-place.ensures.room in
    rw c.in-Some.ensures.places (given_rules _ _ c.self.invariant
    c.in-Some.handle.0 c.args.bytes c.in_ok-place.place
    r.fits c.in-Some.ensures.fresh c.in-Some.ensures.within
    r.few _ c.need_of-words.result c.pack.result c.need_of-words.ensures c.pack.ensures
    c.carve_at.ensures.carved c.carve_at.ensures.len c.carve_at.ensures.kept
    (lists_of_kind _ _ _ _ g.met.B.FitPolicy.lists g.met.B.FitPolicy.count c.carve_at.ensures.listed)
    (subst AreBelowLimit c.in-Some.ensures.places c.in-Some.ensures.kept) c.carve_at.result c.carve_at.ensures.size
    g.met.B.FitPolicy.tiled)

pub carve_at-requires-clause-found : goal.carve_at-requires-clause-found
carve_at-requires-clause-found g c =
    let r = rw (← c.self.view_is) at c.in_ok-place.ensures.room in rw c.need_of-words.ensures r.found

pub carve_at-requires-clause-tags : goal.carve_at-requires-clause-tags
carve_at-requires-clause-tags g c = c.self.invariant.tags

pub returns-in_err-place-clause-steps : goal.returns-in_err-place-clause-steps
returns-in_err-place-clause-steps g c =
    let p = err_from_is_err_and c.from_residual.result c.from_residual.ensures.1 in
    let took = c.in_err-place.ensures.steps in
    rw (p.1, p.2) took

pub returns-clause-steps : goal.returns-clause-steps
returns-clause-steps g c =
    let took = rw (← c.self.view_is) at c.in_ok-place.ensures.steps in
    let there = sym (place_described c.carve_at.new.self.words _ c.in-Some.handle.0) ∙ c.in-Some.ensures.live in
    rw (← c.self.view_is, there) (by_same _ _ _ _ (rose_both _ _ _ _ _ took (rose_both _ _ _ _ _ c.in-Some.ensures.steps c.carve_at.ensures.steps)) (
    malloc_cost_is g.B.FitPolicy.kind _ _ g.met.B.FitPolicy.lists g.met.B.FitPolicy.count c.args.bytes c.need_of-words.result c.need_of-words.ensures
    _ _ _ c.in_ok-place.place))

pub returns-in_err-place-clause-choice : goal.returns-in_err-place-clause-choice
returns-in_err-place-clause-choice g c =
    let p = err_from_is_err_and c.from_residual.result c.from_residual.ensures.1 in
    rw p.1 tt

pub returns-clause-choice : goal.returns-clause-choice
returns-clause-choice g c =
    let r = rw (← c.self.view_is) at c.in_ok-place.ensures.room in
    let there = sym (place_described c.carve_at.new.self.words _ c.in-Some.handle.0) ∙ c.in-Some.ensures.live in
    rw (← c.self.view_is, there, c.in-Some.ensures.places) (chooses _ _ c.self.invariant
    c.in-Some.handle.0 c.args.bytes c.in_ok-place.place
    r.fits c.in-Some.ensures.fresh c.in-Some.ensures.within
    r.few _ c.need_of-words.result c.pack.result c.need_of-words.ensures c.pack.ensures
    c.carve_at.ensures.carved c.carve_at.ensures.len c.carve_at.ensures.kept
    (lists_of_kind _ _ _ _ g.met.B.FitPolicy.lists g.met.B.FitPolicy.count c.carve_at.ensures.listed)
    (subst AreBelowLimit c.in-Some.ensures.places c.in-Some.ensures.kept) c.carve_at.result c.carve_at.ensures.size
    g.met.B.FitPolicy.lists (c.in-Some.ensures.first ∙ ap (λ (p : Proxies). c.in-Some.handle.0 ∷ p.free) c.in-Some.ensures.places)
    r.next c.carve_at.ensures.lists)
