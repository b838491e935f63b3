-- After bytes are written into the block of an object, by `write` or by C during a loan, the object has these bytes, nothing else changes, and a heap with
-- blocks satisfies its invariant.
use Rattle.std.proofs.Common.{◌≡◌, ◌≢◌, ℕ, suc, ◌+◌, ◌-◌, ◌/◌, ◌%◌, ◌^◌, ◌<◌, ◌≤◌, List, [], length, get_or, Some, ◌∷◌, arith, refl, sym, ◌∙◌, ap, subst, inl, inr}
use Rattle.std.specs.Prelude.{option_map}
use Rattle.std.proofs.lemmas.Bool.{cases_lt}
use Rattle.std.proofs.lemmas.Option.{same_Some as some_placed}
use Rattle.std.specs.FinMap.{get, insert, remove}
use Rattle.cf_base.proofs.Maps.{get_inserted, get_insert_other, get_removed, some_inserted}
use Rattle.cf_base.proofs.MapValues.{get-map_values, map_values-insert}
use Rattle.cf_base.proofs.Sums.{insert_again}
use Rattle.cf_base.specs.declared.kind.Kind.{Kind}
use Rattle.page_model.specs.Held.{Held, Placed, objects}
use Rattle.page_model.specs.Bytes.{AreBytes, byte_of, bytes_at, written}
use Rattle.page_model.specs.Figures.{asked_bytes}
use Rattle.page_model.specs.Image.{IsOutside, header_word, object_word}
use Rattle.page_model.proofs.CallerLemmas.{asked_added, asked_taken, byte_of_object, inserted_there, length-written, object_word_small, rewritten_places}
use Rattle.page_model.proofs.CallerLemmas.{written_are_bytes, written_before, written_behind, written_inside, written_nothing}
use Rattle.block_model.specs.FreeOrder.{AreListsOf}
use Rattle.block_model.specs.Tiling.{size_at, size_of, used_words}
use Rattle.block_model.specs.Words.{AreTilingWords}
use Rattle.region.specs.Cells.{overwritten}
use Rattle.region.specs.Overwriting.{Overwrites, words_with}
use Rattle.region.proofs.CallerLemmas.{overwritten_before, overwritten_behind, overwritten_inside}
use Rattle.tag_blocks.specs.Blocks.{Tagged, AreTags, IsUsedAt, listed}
use Rattle.tag_blocks.proofs.CallerLemmas.{bytes_words, content_byte}
use Rattle.cf_model.specs.Families.{IsTiled, free_lists_of, list_count_of}
use Rattle.cf_model.specs.Rules.{AreOwned, KeepsRules, content_word}
use Rattle.cf_model.specs.Steps.{StaysOutside, WritesBytes}
use Rattle.cf_model.proofs.CallerLemmas.{owned_replaced}
use Rattle.tag_heap.specs.Access.{HoldsTagBytes}
use Rattle.tag_heap.specs.Heap.{Heap, IsValid, tag_held_in, tag_order_of, tag_state_of}
use Rattle.tag_heap.proofs.ByKind.{of_tiled}
use Rattle.tag_heap.proofs.Preserved.{MeetsInvariantWith, are_bytes, becomes_rules, becomes_state, becomes_valid, places_are}
use Rattle.tag_heap.proofs.ReadLemmas.{bytes_few, room}
use Rattle.tag_heap.proofs.PartLemmas.{lies_place}

module _ {k : Kind} (h : Heap) (v : IsValid k h) (q at a : ℕ) (part : List ℕ) (l : HoldsTagBytes h (record { number = q; from = at }) (length part) a) (each : AreBytes part)
    (t : Tagged) (blocks : t.blocks ≡ h.tagged.blocks) (same_lists : t.lists ≡ h.tagged.lists) (tags : AreTags t)
    (o : Overwrites h.tagged.words t.words (record { from = a + 2 + at / 8; count = words_with (at % 8) (length part) }) (at % 8) part) where
  abbrev old : List ℕ
  old = bytes_at h.tagged.words (a + 1)

  abbrev new : List ℕ
  new = written old at part

  abbrev was : Placed
  was = record { place = a; bytes = old }

  abbrev now : Placed
  now = record { place = a; bytes = new }

  abbrev changed : Held
  changed = insert (tag_held_in h) q now

  -- the heap with the bytes written
  abbrev pub wrote : Heap
  wrote = record h { tagged = t }

  here : get h.proxies.places q ≡ Some a
  here = lies_place h v q at (length part) a l

  small : q < 2 ^ 32
  small = (let b = v.handles.below q a here in let e = v.numbers in let f = h.settings.few_proxies in omega arith)

  size : length new ≡ length old
  size = length-written old at part l.within

  short : length old < 2 ^ 32
  short = (let f = bytes_few h v q a here in omega arith)

  old_are : AreBytes old
  old_are = are_bytes h v q was l.found

  new_are : AreBytes new
  new_are = written_are_bytes old at part l.within old_are each

  there : get changed q ≡ Some now
  there = get_inserted (tag_held_in h) q now

  -- the words of the object, before and after
  old_word : (i : ℕ) → content_word (tag_held_in h) q i ≡ object_word q old i
  old_word i = (let e = l.found in rw e refl)

  new_word : (i : ℕ) → content_word changed q i ≡ object_word q new i
  new_word i = (let e = there in rw e refl)

  old_small : (i : ℕ) → content_word (tag_held_in h) q i < 2 ^ 64
  old_small i = subst (λ w. w < 2 ^ 64) (sym (old_word i)) (object_word_small q old i small short old_are)

  new_small : (i : ℕ) → content_word changed q i < 2 ^ 64
  new_small i = subst (λ w. w < 2 ^ 64) (sym (new_word i)) (object_word_small q new i small (subst (λ n. n < 2 ^ 32) (sym size) short) new_are)

  same_header : content_word changed q 0 ≡ content_word (tag_held_in h) q 0
  same_header = new_word 0 ∙ ap (header_word q) size ∙ sym (old_word 0)

  old_byte : (k : ℕ) → content_byte (content_word (tag_held_in h)) q k ≡ get_or old k 0
  old_byte k = ap (byte_of (k % 8)) (old_word (suc (k / 8))) ∙ byte_of_object q old k old_are

  new_byte : (k : ℕ) → content_byte (content_word changed) q k ≡ overwritten (content_byte (content_word (tag_held_in h)) q) at part k
  new_byte k = ap (byte_of (k % 8)) (new_word (suc (k / 8))) ∙ byte_of_object q new k new_are ∙ elim (cases_lt k at) [
    | inl before ↦ written_before old at part l.within k before ∙ sym (old_byte k)
        ∙ sym (overwritten_before (content_byte (content_word (tag_held_in h)) q) at part k before)
    | inr from ↦ elim (cases_lt k (at + length part)) [
      | inl inside ↦ (
          let e : at + (k - at) ≡ k = omega arith in
          ap (λ i. get_or new i 0) (sym e) ∙ written_inside old at part l.within (k - at) (omega arith)
          ∙ sym (overwritten_inside (content_byte (content_word (tag_held_in h)) q) at part k from inside))
      | inr behind ↦ written_behind old at part l.within k behind ∙ sym (old_byte k)
          ∙ sym (overwritten_behind (content_byte (content_word (tag_held_in h)) q) at part k behind)
    ]
  ]

  abbrev user : IsUsedAt h.tagged.blocks a
  user = record {
    block = (v.owned.placed q was l.found).0;
    owner = q;
    there = (v.owned.placed q was l.found).1;
    used = (v.owned.placed q was l.found).2.owner;
  }

  within_block : 2 + words_with at (length part) ≤ user.block.size
  within_block =
      let r = room h v q a here in
      let e : size_at h.tagged.blocks a ≡ user.block.size = ap size_of user.there in
      let w = l.within in
      omega arith

  contents_now : AreTilingWords (content_word changed) t.blocks t.words
  contents_now = bytes_words (content_word (tag_held_in h)) (content_word changed) h.tagged t a at part user v.tags tags blocks within_block o v.contents
      old_small new_small same_header (λ k lt. new_byte k) (λ b c p away at used i.
      let own = v.owned.live b c p at used in
      let other : p ≢ q = λ is. away (sym own.2 ∙ ap (λ (x : Placed). x.place) (some_placed own.0 was (sym own.1 ∙ ap (get (tag_held_in h)) is ∙ l.found))) in
      rw (get_insert_other (tag_held_in h) q now p other) refl)

  same_asked : asked_bytes (objects changed) ≡ asked_bytes (objects (tag_held_in h))
  same_asked =
      let b : get (objects (tag_held_in h)) q ≡ Some old = get-map_values (λ (x : Placed). x.bytes) (tag_held_in h) q
      ∙ ap (option_map (λ (x : Placed). x.bytes)) l.found in
      let c = asked_taken (objects (tag_held_in h)) q old b in
      let d = asked_added (remove (objects (tag_held_in h)) q) q new (get_removed (objects (tag_held_in h)) q) in
      let e : asked_bytes (insert (remove (objects (tag_held_in h)) q) q new) ≡ asked_bytes (insert (objects (tag_held_in h)) q new) =
      ap asked_bytes (insert_again (objects (tag_held_in h)) q new) in
      let f : asked_bytes (objects changed) ≡ asked_bytes (insert (objects (tag_held_in h)) q new) =
      ap asked_bytes (map_values-insert (λ (x : Placed). x.bytes) (tag_held_in h) q now) in
      let s = size in
      omega arith

  bytes_now : (p : ℕ) (x : Placed) → get changed p ≡ Some x → AreBytes x.bytes
  bytes_now p x e = elim (some_inserted (tag_held_in h) q now p x e) [
    | inl (is, same) ↦ subst (λ (y : Placed). AreBytes y.bytes) same new_are
    | inr (other, still) ↦ are_bytes h v p x still
  ]

  lists_now : AreListsOf (free_lists_of k) (list_count_of k) (listed t)
  lists_now = subst (λ bs. AreListsOf (free_lists_of k) (list_count_of k) (record { blocks = bs; lists = t.lists })) (sym blocks)
      (subst (λ ls. AreListsOf (free_lists_of k) (list_count_of k) (record { blocks = h.tagged.blocks; lists = ls })) (sym same_lists) v.lists)

  becomes : MeetsInvariantWith k wrote changed
  becomes = record {
    tags = tags;
    lists = lists_now;
    words_long = o.long ∙ v.words_long;
    places = places_are h v ∙ sym (rewritten_places (tag_held_in h) q was now l.found refl);
    bytes = bytes_now;
    owned = subst (AreOwned changed) (sym blocks) (owned_replaced (tag_held_in h) h.tagged.blocks q was now v.owned l.found refl size);
    contents = contents_now;
    numbers = v.numbers;
    handles = v.handles;
    asked_all = v.asked_all ∙ sym same_asked;
    used_all = v.used_all ∙ ap used_words (sym blocks);
  }

  pub wrote_valid : IsValid k wrote
  wrote_valid = becomes_valid wrote changed becomes

  pub wrote_rules : IsTiled k → KeepsRules (tag_state_of k wrote)
  wrote_rules = becomes_rules wrote changed becomes

  stays_outside : (w : ℕ) → IsOutside a (size_at h.tagged.blocks a) w → get_or t.words w 0 ≡ get_or h.tagged.words w 0
  stays_outside w out =
      let e : size_at h.tagged.blocks a ≡ user.block.size = ap size_of user.there in
      let b = within_block in
      o.others w (elim out [ inl before ↦ inl (omega arith) | inr behind ↦ inr (omega arith) ])

  pub writes : IsTiled k → WritesBytes (tag_state_of k h) (record { number = q; from = at }) part (tag_state_of k wrote)
  writes is = record {
    object = was;
    found = l.found;
    within = l.within;
    outside = of_tiled (λ j. StaysOutside j (tag_state_of k h) was (tag_state_of k wrote)) stays_outside stays_outside k is;
    whole = becomes_state wrote changed becomes k
        ∙ ap (λ bs. record (tag_state_of k h) { held = changed; words = t.words; tiling = bs; order = Some (tag_order_of wrote) }) blocks
        ∙ ap (λ ls. record (tag_state_of k h) {
          held = changed;
          words = t.words;
          order = Some (record { pool = []; not_full = ls; spare = h.proxies.free });
        }) same_lists;
  }

-- to write no bytes changes nothing
pub wrote_nothing : (k : Kind) → IsTiled k → (h : Heap) (q at a : ℕ) (part : List ℕ) → length part ≡ 0
    → HoldsTagBytes h (record { number = q; from = at }) (length part) a → WritesBytes (tag_state_of k h) (record { number = q; from = at }) part (tag_state_of k h)
wrote_nothing k is h q at a [] none l = record {
  object = was;
  found = l.found;
  within = l.within;
  outside = of_tiled (λ j. StaysOutside j (tag_state_of k h) was (tag_state_of k h)) (λ w out. refl) (λ w out. refl) k is;
  whole =
      let fits = l.within in
      ap (λ m. record (tag_state_of k h) { held = m }) (sym (ap (λ bytes. insert (tag_held_in h) q (record was { bytes = bytes }))
      (written_nothing was.bytes at (omega arith)) ∙ inserted_there (tag_held_in h) q was l.found));
}
  where
    was : Placed
    was = record { place = a; bytes = bytes_at h.tagged.words (a + 1) }
wrote_nothing k is h q at a (x ∷ xs) none l = absurd (omega arith)
