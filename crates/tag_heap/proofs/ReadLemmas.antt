-- For calls that look an object up by its number: its address is that of the proxy; a number with an address has an object, of at most 2^26 bytes; the
-- object's block lies in the region, and has room for the bytes; how many words the block has; and whether a range of bytes passes the object's end.
use Rattle.std.proofs.Common.{◌≡◌, ℕ, ◌+◌, ◌/◌, ◌^◌, ◌<◌, ◌≤◌, List, length, Option, Some, None, arith, sym, ◌∙◌, ap}
use Rattle.std.specs.Prelude.{option_map}
use Rattle.std.specs.Ordering.{nat_cmp}
use Rattle.std.specs.FinMap.{FinMap, get}
use Rattle.cf_base.proofs.MapValues.{get-map_values}
use Rattle.cf_base.specs.declared.kind.Kind.{Kind}
use Rattle.page_model.specs.Held.{Placed}
use Rattle.page_model.specs.Bytes.{bytes_at}
use Rattle.block_model.specs.Tiling.{size_at, size_of}
use Rattle.block_model.proofs.CallerLemmas.{lies}
use Rattle.cf_model.specs.Families.{IsTiled}
use Rattle.cf_model.specs.ReadObjects.{read_objects}
use Rattle.cf_model.specs.Steps.{PassesEnd, slot_in}
use Rattle.tag_heap.specs.Access.{HoldsTagBytes}
use Rattle.tag_heap.specs.Heap.{Heap, IsValid, tag_held_in, tag_state_of}
use Rattle.tag_heap.proofs.ByKind.{slot_is}
use Rattle.tag_heap.proofs.Preserved.{has_place, no_place, places-read}

-- the address of a handle is that of its proxy
pub place_described : (words : List ℕ) (at : FinMap nat_cmp ℕ) (q : ℕ) → get at q ≡ option_map (λ (x : Placed). x.place) (get (read_objects words at) q)
place_described words at q = ap (λ m. get m q) (sym (places-read words at)) ∙ get-map_values (λ (x : Placed). x.place) (read_objects words at) q

-- the words of the block of a number; none if the number has no address
module _ {k : Kind} (h : Heap) (v : IsValid k h) (is : IsTiled k) (q : ℕ) where
  abbrev words_at : Option Placed → Option ℕ
  words_at = option_map (slot_in k (tag_state_of k h))

  pub block_words_are : (a n : ℕ) → get h.proxies.places q ≡ Some a → n ≡ size_at h.tagged.blocks a → Some n ≡ words_at (get (tag_held_in h) q)
  block_words_are a n some size =
      ap Some (size ∙ sym (slot_is k is (tag_state_of k h) (record { place = a; bytes = bytes_at h.tagged.words (a + 1) }))) ∙ sym (ap words_at (has_place h v q a some))

  pub no_block_words : get h.proxies.places q ≡ None → None ≡ words_at (get (tag_held_in h) q)
  no_block_words none = sym (ap words_at (no_place h v q none))

module _ {k : Kind} (h : Heap) (v : IsValid k h) (q a : ℕ) (some : get h.proxies.places q ≡ Some a) where
  abbrev pub bytes : List ℕ
  bytes = bytes_at h.tagged.words (a + 1)

  abbrev pub object : Placed
  object = record { place = a; bytes = bytes }

  pub held : get (tag_held_in h) q ≡ Some object
  held = has_place h v q a some

  -- the object's block has room for two words, its header and its tag, and for the object's bytes
  pub room : 2 + (length bytes + 7) / 8 ≤ size_at h.tagged.blocks a
  room =
      let own = v.owned.placed q object held in
      let size : size_at h.tagged.blocks a ≡ own.0.size = ap size_of own.1 in
      let least = own.2.least in
      omega arith

  -- the object's block lies in the region
  pub inside : a + size_at h.tagged.blocks a ≤ length h.tagged.words
  inside =
      let own = v.owned.placed q object held in
      let size : size_at h.tagged.blocks a ≡ own.0.size = ap size_of own.1 in
      let l = lies h.tagged.blocks 0 (length h.tagged.words) a own.0 v.tags.tiling.fill own.1 in
      let high = l.high in
      omega arith

  pub bytes_few : length bytes ≤ 2 ^ 26
  bytes_few = (let r = room in let i = inside in let m = v.tags.most in omega arith)

  -- bytes that pass the end of the object (`passes`), and bytes that don't (`lies_there`)
  pub passes : (k : Kind) (at count : ℕ) → length bytes < at + count → PassesEnd (tag_state_of k h) (record { number = q; from = at }) count
  passes k at count more = record { object = object; found = held; past = more }

  pub lies_there : (at count : ℕ) → at + count ≤ length bytes → HoldsTagBytes h (record { number = q; from = at }) count a
  lies_there at count fits = record { found = held; within = fits }
