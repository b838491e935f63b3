use Rattle.std.proofs.Common.{◌/◌, ◌^◌, refl, sym, ◌∙◌, ap, subst}
use Rattle.step_ledger.proofs.CallerLemmas.{rose_both}
use Rattle.tag_blocks.proofs.CallerLemmas.{by_same}
use Rattle.block_model.specs.FreeOrder.{lists_released}
use Rattle.tag_blocks.specs.Blocks.{listed}
use Rattle.proxy_table.specs.Proxies.{AreBelowLimit}
use Rattle.cf_model.specs.ExactCosts.{block_free_cost}
use Rattle.tag_heap.proofs.ByKind.{lists_of_kind}
use Rattle.tag_heap.proofs.CostLemmas.{free_cost_is}
use Rattle.tag_heap.proofs.Preserved.{no_place, rules, used_at}
use Rattle.tag_heap.proofs.ReadLemmas.{place_described}
use Rattle.tag_heap.proofs.FreeLemmas.{asked_enough, freed_rules, freed_valid, frees, leaves_order, used_enough}
use Rattle.tag_heap.proofs.open_heap.OpenHeap.free_inner.Goals as goal

pub returns-in_default-clause-step : goal.returns-in_default-clause-step
returns-in_default-clause-step g c = rw (← c.self.view_is) (no_place _ c.self.invariant c.args.h.0 (sym c.in_default.ensures.found), refl)

pub returns-in_default-clause-rules : goal.returns-in_default-clause-rules
returns-in_default-clause-rules g c = rw (← c.self.view_is) (rules _ c.self.invariant g.met.B.FitPolicy.tiled)

pub tag_of-requires : goal.tag_of-requires
tag_of-requires g c = record { used = used_at _ c.self.invariant c.args.h.0 c.in-Some.place (sym c.in-Some.ensures.found) }

pub release-slot_words-requires : goal.release-slot_words-requires
release-slot_words-requires g c = record { used = used_at _ c.self.invariant c.args.h.0 c.in-Some.place (sym c.in-Some.ensures.found) }

pub overflow_sub-self : goal.overflow_sub-self
overflow_sub-self g c = used_enough _ c.self.invariant c.args.h.0 c.in-Some.place (sym c.in-Some.ensures.found) _ c.release-slot_words.ensures.released
    c.release-slot_words.ensures.len c.release-slot_words.ensures.kept
    (lists_of_kind _ _ _ _ g.met.B.FitPolicy.lists g.met.B.FitPolicy.count c.release-slot_words.ensures.listed) (subst AreBelowLimit c.release.ensures.places c.release.ensures.kept)
    c.release-slot_words.result _ c.release-slot_words.ensures.size
    (c.unpack-length.ensures.length ∙ ap (λ w. w / 2 ^ 32) c.tag_of.ensures.value)

pub overflow_sub-self-2 : goal.overflow_sub-self-2
overflow_sub-self-2 g c = asked_enough _ c.self.invariant c.args.h.0 c.in-Some.place (sym c.in-Some.ensures.found) _ c.release-slot_words.ensures.released
    c.release-slot_words.ensures.len c.release-slot_words.ensures.kept
    (lists_of_kind _ _ _ _ g.met.B.FitPolicy.lists g.met.B.FitPolicy.count c.release-slot_words.ensures.listed) (subst AreBelowLimit c.release.ensures.places c.release.ensures.kept)
    c.release-slot_words.result c.from.result c.release-slot_words.ensures.size
    (c.from.ensures ∙ c.unpack-length.ensures.length ∙ ap (λ w. w / 2 ^ 32) c.tag_of.ensures.value)

pub invariant_of-self : goal.invariant_of-self
invariant_of-self g c = rw c.release.ensures.places (freed_valid _ c.self.invariant c.args.h.0 c.in-Some.place
    (sym c.in-Some.ensures.found) _ c.release-slot_words.ensures.released
    c.release-slot_words.ensures.len c.release-slot_words.ensures.kept
    (lists_of_kind _ _ _ _ g.met.B.FitPolicy.lists g.met.B.FitPolicy.count c.release-slot_words.ensures.listed) (subst AreBelowLimit c.release.ensures.places c.release.ensures.kept)
    c.release-slot_words.result c.from.result c.release-slot_words.ensures.size
    (c.from.ensures ∙ c.unpack-length.ensures.length ∙ ap (λ w. w / 2 ^ 32) c.tag_of.ensures.value))

pub returns-clause-step : goal.returns-clause-step
returns-clause-step g c = rw (← c.self.view_is, c.release.ensures.places) (frees _ c.self.invariant c.args.h.0 c.in-Some.place
    (sym c.in-Some.ensures.found) _ c.release-slot_words.ensures.released
    c.release-slot_words.ensures.len c.release-slot_words.ensures.kept
    (lists_of_kind _ _ _ _ g.met.B.FitPolicy.lists g.met.B.FitPolicy.count c.release-slot_words.ensures.listed) (subst AreBelowLimit c.release.ensures.places c.release.ensures.kept)
    c.release-slot_words.result c.from.result c.release-slot_words.ensures.size
    (c.from.ensures ∙ c.unpack-length.ensures.length ∙ ap (λ w. w / 2 ^ 32) c.tag_of.ensures.value)
    g.met.B.FitPolicy.tiled)

pub returns-clause-rules : goal.returns-clause-rules
returns-clause-rules g c = rw c.release.ensures.places (freed_rules _ c.self.invariant c.args.h.0 c.in-Some.place
    (sym c.in-Some.ensures.found) _ c.release-slot_words.ensures.released
    c.release-slot_words.ensures.len c.release-slot_words.ensures.kept
    (lists_of_kind _ _ _ _ g.met.B.FitPolicy.lists g.met.B.FitPolicy.count c.release-slot_words.ensures.listed) (subst AreBelowLimit c.release.ensures.places c.release.ensures.kept)
    c.release-slot_words.result c.from.result c.release-slot_words.ensures.size
    (c.from.ensures ∙ c.unpack-length.ensures.length ∙ ap (λ w. w / 2 ^ 32) c.tag_of.ensures.value)
    g.met.B.FitPolicy.tiled)

pub returns-clause-steps : goal.returns-clause-steps
returns-clause-steps g c =
    let there = sym (place_described c.self.inside.blocks.words c.self.inside.proxies.places c.args.h.0) ∙ sym c.in-Some.ensures.found in
    rw (← c.self.view_is, there, block_free_cost) (rw (← c.self.view_is) (by_same _ _ _ _ (rose_both _ _ _ _ _ c.in-Some.ensures.steps (rose_both _ _ _ _ _ c.tag_of.ensures.steps
    (rose_both _ _ _ _ _ c.release.ensures.steps c.release-slot_words.ensures.steps)))
    (free_cost_is g.B.FitPolicy.kind _ g.met.B.FitPolicy.lists _ _ _ c.in-Some.place)))

pub returns-clause-choice : goal.returns-clause-choice
returns-clause-choice g c =
    let there = sym (place_described c.self.inside.blocks.words c.self.inside.proxies.places c.args.h.0) ∙ sym c.in-Some.ensures.found in
    rw (← c.self.view_is, there, c.release.ensures.places) (leaves_order _ c.self.invariant c.args.h.0 c.in-Some.place
    (sym c.in-Some.ensures.found) _ c.release-slot_words.ensures.released
    c.release-slot_words.ensures.len c.release-slot_words.ensures.kept
    (lists_of_kind _ _ _ _ g.met.B.FitPolicy.lists g.met.B.FitPolicy.count c.release-slot_words.ensures.listed)
    (subst AreBelowLimit c.release.ensures.places c.release.ensures.kept)
    c.release-slot_words.result c.from.result c.release-slot_words.ensures.size
    (c.from.ensures ∙ c.unpack-length.ensures.length ∙ ap (λ w. w / 2 ^ 32) c.tag_of.ensures.value)
    (c.release-slot_words.ensures.lists ∙ ap (λ r. lists_released r (listed c.self.inside.blocks) c.in-Some.place) g.met.B.FitPolicy.lists))
