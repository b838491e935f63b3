-- If a range of bytes is within an object (`HoldsTagBytes`), the object's number has the address given, the words of the range are within the object's block,
-- and the bytes that `read` reads from these words are those of the object.
use Rattle.std.proofs.Common.{◌≡◌, ℕ, ◌+◌, ◌/◌, ◌%◌, ◌<◌, ◌≤◌, List, length, get_or, take, drop, Some, arith, sym, ◌∙◌, ap}
use Rattle.std.specs.Prelude.{option_map}
use Rattle.std.proofs.lemmas.Grind.{same_number_lists}
use Rattle.std.proofs.lemmas.List.{get_or-take, get_or-drop, length-take, length-drop}
use Rattle.std.specs.FinMap.{get}
use Rattle.cf_base.proofs.MapValues.{get-map_values}
use Rattle.cf_base.specs.declared.kind.Kind.{Kind}
use Rattle.page_model.specs.Held.{Placed}
use Rattle.page_model.specs.Bytes.{byte_of, bytes_at}
use Rattle.block_model.specs.Tiling.{size_at}
use Rattle.region.specs.Overwriting.{byte_from, words_with}
use Rattle.cf_model.specs.Steps.{ReadsBytes}
use Rattle.tag_heap.specs.Access.{HoldsTagBytes}
use Rattle.tag_heap.specs.Heap.{Heap, IsValid, tag_held_in, tag_state_of}
use Rattle.tag_heap.proofs.Preserved.{places-read}
use Rattle.tag_heap.proofs.ReadLemmas.{room}
use Rattle.page_model.proofs.CallerLemmas.{byte_is}

-- the words that hold the bytes read or written are in the object's block
module _ {k : Kind} (h : Heap) (v : IsValid k h) (q at count a : ℕ) (l : HoldsTagBytes h (record { number = q; from = at }) count a) where
  pub lies_place : get h.proxies.places q ≡ Some a
  lies_place = ap (λ m. get m q) (sym (places-read h.tagged.words h.proxies.places)) ∙ get-map_values (λ (x : Placed). x.place) (tag_held_in h) q
      ∙ ap (option_map (λ (x : Placed). x.place)) l.found

  pub part_within : 2 + words_with at count ≤ size_at h.tagged.blocks a
  part_within = (let r = room h v q a lies_place in let w = l.within in omega arith)

  -- the bytes that were read
  pub read_part : (k : Kind) (out : List ℕ) → length out ≡ count
      → ((j : ℕ) → j < length out → get_or out j 0 ≡ byte_from h.tagged.words (a + 2) (at + j))
      → ReadsBytes (tag_state_of k h) (record { number = q; from = at }) count out
  read_part k out long each = record {
    object = record { place = a; bytes = bytes_at h.tagged.words (a + 1) };
    found = l.found;
    within = l.within;
    value =
        let w = l.within in
        let lt = length-take count (drop at (bytes_at h.tagged.words (a + 1))) in
        let ld = length-drop at (bytes_at h.tagged.words (a + 1)) in
        same_number_lists out (take count (drop at (bytes_at h.tagged.words (a + 1)))) (omega arith) (λ j less.
        let same : a + 2 + (at + j) / 8 ≡ a + 1 + 1 + (at + j) / 8 = omega arith in
        each j less ∙ ap (λ i. byte_of ((at + j) % 8) (get_or h.tagged.words i 0)) same
        ∙ sym (byte_is h.tagged.words (a + 1) (at + j) (omega arith)) ∙ sym (get_or-drop at (bytes_at h.tagged.words (a + 1)) j 0)
        ∙ sym (get_or-take count (drop at (bytes_at h.tagged.words (a + 1))) j 0 (omega arith)));
  }
