-- For `totals` and `usage`: the counts that an open heap with blocks keeps (proxies in use, bytes asked, used words, used and free blocks) are the figures of
-- its state. For `malloc`: the bytes asked are few enough to be counted.
use Rattle.std.proofs.Common.{◌≡◌, ℕ, ◌+◌, ◌*◌, ◌^◌, ◌≤◌, List, Option, Some, None, length, arith, refl, sym, ◌∙◌, ap}
use Rattle.std.specs.Prelude.{option_map}
use Rattle.std.specs.FinMap.{get, len}
use Rattle.cf_base.proofs.MapValues.{get-map_values}
use Rattle.cf_base.proofs.Values.{sum_at_most}
use Rattle.cf_base.specs.declared.results.Totals.{Totals}
use Rattle.cf_base.specs.declared.kind.Kind.{Kind}
use Rattle.page_model.specs.Held.{Placed, objects}
use Rattle.page_model.specs.Bytes.{bytes_at}
use Rattle.page_model.specs.Figures.{asked_bytes}
use Rattle.page_model.proofs.CallerLemmas.{len-objects}
use Rattle.block_model.specs.Tiling.{free_blocks, largest_free, used_blocks}
use Rattle.cf_model.specs.Answers.{block_totals}
use Rattle.tag_heap.specs.Heap.{Heap, IsValid, tag_held_in, tag_state_of}
use Rattle.tag_heap.proofs.Preserved.{held_many, read_is}
use Rattle.tag_heap.proofs.ReadLemmas.{bytes_few}

-- the counts that a heap keeps are its figures
pub totals_described : (k : Kind) (h : Heap) → IsValid k h → ◌≡◌ {A = Totals} (record {
  live = len h.proxies.places;
  asked = h.asked;
  taken = 8 * h.used_words;
  held = 8 * (h.settings.pages * h.settings.page_words);
  used = used_blocks h.tagged.blocks;
  free = free_blocks h.tagged.blocks;
  largest = largest_free h.tagged.blocks;
}) (block_totals (tag_state_of k h))
totals_described k h v = λ i. record {
  live = sym (held_many h v) i;
  asked = v.asked_all i;
  taken = 8 * v.used_all i;
  held = 8 * (h.settings.pages * h.settings.page_words);
  used = used_blocks h.tagged.blocks;
  free = free_blocks h.tagged.blocks;
  largest = largest_free h.tagged.blocks;
}

module _ {k : Kind} (h : Heap) (v : IsValid k h) where
  object_few : (q : ℕ) (bytes : List ℕ) → get (objects (tag_held_in h)) q ≡ Some bytes → length bytes ≤ 2 ^ 26
  object_few q bytes e = go (get (tag_held_in h) q) refl
    where
      go : (o : Option Placed) → get (tag_held_in h) q ≡ o → length bytes ≤ 2 ^ 26
      go None f = absurd (let z : None ≡ Some bytes = sym (get-map_values (λ (x : Placed). x.bytes) (tag_held_in h) q
          ∙ ap (option_map (λ (x : Placed). x.bytes)) f) ∙ e in cc)
      go (Some x) f =
          let z : Some x.bytes ≡ Some bytes = sym (get-map_values (λ (x : Placed). x.bytes) (tag_held_in h) q ∙ ap (option_map (λ (x : Placed). x.bytes)) f) ∙ e in
          let is : x.bytes ≡ bytes = cc in
          let r = read_is h.tagged.words h.proxies.places q x f in
          let few = bytes_few h v q x.place r.place in
          let same : length (bytes_at h.tagged.words (x.place + 1)) ≡ length bytes = ap length (sym r.bytes ∙ is) in
          omega arith

  -- the bytes of all objects are few enough to count
  pub asked_few : h.asked ≤ 2 ^ 26 * 65536
  unfolding asked_bytes
  asked_few =
      let a = sum_at_most length (2 ^ 26) (objects (tag_held_in h)) object_few in
      let l = len-objects (tag_held_in h) in
      let m = held_many h v in
      let b = v.handles.few in
      let e = v.numbers in
      let few = h.settings.few_proxies in
      let s = v.asked_all in
      omega arith
