-- For `image_length`: the length of a heap's image, by its objects and their bytes; it fits 64 bits.
use Rattle.std.proofs.Common.{◌≡◌, ◌∙◌, ◌+◌, ◌*◌, ◌≤◌, ◌<◌, ◌^◌, ℕ, List, [], ◌∷◌, Some, length, map, length-append, refl, ap, arith, inl, inr}
use Rattle.std.specs.Prelude.{sum_by}
use Rattle.std.specs.FinMap.{entries, get, len, len-entries, values}
use Rattle.std.proofs.lemmas.Bool.{cases_eq}
use Rattle.std.proofs.lemmas.List.Sums.{sum_by-cons}
use Rattle.cf_base.specs.declared.kind.Kind.{Kind}
use Rattle.cf_base.specs.declared.kind.Kind.TheVariants.{Moving}
use Rattle.cf_base.specs.Settings.{at_bound_one}
use Rattle.cf_base.specs.declared.results.Totals.{Totals}
use Rattle.cf_base.proofs.Induction.{map_induction}
use Rattle.cf_base.proofs.Maps.{get_inserted, get_insert_other, len_fresh}
use Rattle.cf_base.proofs.Sums.{sum_by-inserted}
use Rattle.cf_base.proofs.Values.{no_values}
use Rattle.cf_model.specs.Answers.{totals_in}
use Rattle.page_model.specs.Figures.{asked_bytes}
use Rattle.page_model.specs.Held.{Objects, objects}
use Rattle.page_model.proofs.CallerLemmas.{len-objects}
use Rattle.id_table.specs.Sessions.{AreTied, RunState}
use Rattle.id_table.proofs.CallerLemmas.{by_id_counts, clash, names_of_objects}
use Rattle.heap_image.specs.Heaps.{HaveImage, heap_image, live_objects}
use Rattle.heap_image.specs.Image.{entries_of, entry_of, header_of}
use Rattle.heap_image.proofs.CallerLemmas.{length-entry, length-header, page_small}

entries_length : (es : List (ℕ × List ℕ)) → length (entries_of es) ≡ 6 * length es + sum_by length (map (λ e. e.1) es)
entries_length [] = refl
entries_length (e ∷ es) =
    let rest = entries_length es in
    let a = length-append (entry_of e.0 e.1) (entries_of es) in
    let b = length-entry e.0 e.1 in
    let c = sum_by-cons (length {A = ℕ}) e.1 (map (λ e. e.1) es) in
    omega (arith, rest, a, b, c)

-- if no object is longer than 2^26 bytes, all have at most as many bytes for each
few_bytes : (m : Objects) → ((q : ℕ) (v : List ℕ) → get m q ≡ Some v → length v ≤ 67108864) → sum_by length (values m) ≤ 67108864 * len m
few_bytes = map_induction (λ m. ((q : ℕ) (v : List ℕ) → get m q ≡ Some v → length v ≤ 67108864) → sum_by length (values m) ≤ 67108864 * len m)
    (λ all. (let a = ap (sum_by (length {A = ℕ})) no_values in omega (arith, a)))
    (λ m h x none before all.
    let a = sum_by-inserted length m h x none in
    let b = len_fresh m h x none in
    let c = all h x (get_inserted m h x) in
    let d = before (λ q v is. elim (cases_eq q h) [
      | inl e ↦ clash (get m q) v is (rw e none)
      | inr ne ↦ all q v (get_insert_other m h x q ne ∙ is)
    ]) in
    omega (arith, a, b, c, d))

module _ (s : RunState) (tied : AreTied s.session s.heap) (moving : s.heap.kind ≡ Moving) (t : Totals) (shown : t ≡ totals_in s.heap.kind s.heap) where
  live : t.live ≡ len s.heap.held
  live = ap (λ (f : Totals). f.live) (shown ∙ ap (λ (k : Kind). totals_in k s.heap) moving) ∙ len-objects s.heap.held

  asked : t.asked ≡ sum_by length (values (objects s.heap.held))
  unfolding asked_bytes
  asked = ap (λ (f : Totals). f.asked) (shown ∙ ap (λ (k : Kind). totals_in k s.heap) moving)

  pub image_is : 20 + 6 * t.live + t.asked ≡ length (heap_image s)
  image_is =
      let alike = by_id_counts s.session.ids (objects s.heap.held) (names_of_objects s.session.ids s.heap.held tied.ids) in
      let a = alike.count in
      let b = alike.sums length in
      let c = len-objects s.heap.held in
      let d = length-header s.heap.profile.pages (8 * s.heap.profile.page_words) s.heap.profile.proxies (len (live_objects s)) in
      let e = entries_length (entries (live_objects s)) in
      let f = length-append (header_of s.heap.profile.pages (8 * s.heap.profile.page_words) s.heap.profile.proxies (len (live_objects s))) (entries_of (entries (live_objects s))) in
      let g = len-entries (live_objects s) in
      let h = live in
      let i = asked in
      omega (arith, a, b, c, d, e, f, g, h, i)

  pub image_fits : HaveImage (at_bound_one s.heap.profile) (live_objects s) → 20 + 6 * t.live + t.asked < 2 ^ 64
  image_fits have =
      let alike = by_id_counts s.session.ids (objects s.heap.held) (names_of_objects s.session.ids s.heap.held tied.ids) in
      let a = alike.count in
      let b = alike.sums length in
      let c = len-objects s.heap.held in
      let small = page_small (at_bound_one s.heap.profile) have.settings in
      let few = have.few in
      let proxies = have.settings.few_proxies in
      let d = few_bytes (live_objects s) (λ id v is. (let fit = have.fit id v is in omega (arith, fit, small))) in
      let h = live in
      let i = asked in
      omega (arith, a, b, c, d, few, proxies, h, i)
