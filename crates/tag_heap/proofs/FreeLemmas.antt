-- For `free`: after an object is removed and its block becomes free, a heap with blocks satisfies its invariant, and the order lists the free block and the
-- number first; and the counts of bytes and used words are no less than what the free subtracts.
use Rattle.std.proofs.Common.{◌≡◌, ◌≢◌, ℕ, ◌+◌, ◌-◌, ◌/◌, ◌^◌, ◌≤◌, [], ◌∷◌, Some, None, length, get_or, arith, refl, sym, ◌∙◌, ap, subst}
use Rattle.std.proofs.lemmas.Option.{same_Some as some_placed}
use Rattle.std.specs.FinMap.{get, remove}
use Rattle.std.specs.Prelude.{option_map}
use Rattle.cf_base.proofs.Maps.{get_remove_other, some_removed}
use Rattle.cf_base.proofs.MapValues.{get-map_values, map_values-remove}
use Rattle.cf_base.specs.declared.kind.Kind.{Kind}
use Rattle.page_model.specs.Held.{Held, Placed, objects}
use Rattle.page_model.specs.Figures.{asked_bytes}
use Rattle.page_model.proofs.CallerLemmas.{asked_taken}
use Rattle.block_model.specs.FreeOrder.{AreListsOf, lists_released}
use Rattle.block_model.specs.Tiling.{released, size_at, used_words}
use Rattle.block_model.specs.Words.{AreTilingWords}
use Rattle.block_model.proofs.CallerLemmas.{used_after_free}
use Rattle.proxy_table.specs.Proxies.{AreBelowLimit, without_place}
use Rattle.tag_blocks.specs.Blocks.{Tagged, AreTags, Releases, listed}
use Rattle.tag_blocks.proofs.CallerLemmas.{release_words}
use Rattle.cf_model.specs.Families.{IsTiled, free_lists_of, list_count_of}
use Rattle.cf_model.specs.Rules.{AreOwned, KeepsRules, content_word}
use Rattle.cf_model.specs.Steps.{FreesObject, MovesIn, slot_in, tiling_left, call_result}
use Rattle.cf_model.proofs.CallerLemmas.{owned_free}
use Rattle.tag_heap.specs.Heap.{Heap, IsValid, tag_held_in, tag_order_of, tag_state_of}
use Rattle.tag_heap.proofs.ByKind.{frames_stay, of_tiled}
use Rattle.tag_heap.proofs.Preserved.{MeetsInvariantWith, are_bytes, becomes_rules, becomes_valid, held_is, places_are}
use Rattle.tag_heap.proofs.ReadLemmas.{held, object}
use Rattle.page_model.proofs.CallerLemmas.{bytes_long}

module _ {k : Kind} (h : Heap) (v : IsValid k h) (q a : ℕ) (some : get h.proxies.places q ≡ Some a) (t : Tagged) (r : Releases h.tagged a t)
    (long : length t.words ≡ length h.tagged.words) (tags : AreTags t) (lists : AreListsOf (free_lists_of k) (list_count_of k) (listed t))
    (below : AreBelowLimit (without_place h.proxies q))
    (size len : ℕ) (size_is : size ≡ size_at h.tagged.blocks a) (len_is : len ≡ get_or h.tagged.words (a + 1) 0 / 2 ^ 32) where
  abbrev old : Placed
  old = object h v q a some

  abbrev left : Held
  left = remove (tag_held_in h) q

  -- the heap without the object
  abbrev pub freed : Heap
  freed = record h {
    tagged = t;
    proxies = without_place h.proxies q;
    asked = h.asked - len;
    used_words =
        h.used_words - size;
  }

  -- the length in its header
  length_is : len ≡ length old.bytes
  length_is = len_is ∙ sym (bytes_long h.tagged.words (a + 1))

  found : get (tag_held_in h) q ≡ Some old
  found = held h v q a some

  objects_left : objects left ≡ remove (objects (tag_held_in h)) q
  objects_left = map_values-remove (λ (x : Placed). x.bytes) (tag_held_in h) q

  asked_left : asked_bytes (objects left) + length old.bytes ≡ asked_bytes (objects (tag_held_in h))
  asked_left = ap (λ o. asked_bytes o + length old.bytes) objects_left
      ∙ asked_taken (objects (tag_held_in h)) q old.bytes (get-map_values (λ (x : Placed). x.bytes) (tag_held_in h) q ∙ ap (option_map (λ (x : Placed). x.bytes)) found)

  used_left : used_words t.blocks + size_at h.tagged.blocks a ≡ used_words h.tagged.blocks
  used_left =
      let own = v.owned.placed q old found in
      ap (λ bs. used_words bs + size_at h.tagged.blocks a) r.blocks ∙ used_after_free h.tagged.blocks a own.0 q own.1 own.2.owner

  -- the counts contain the object, so they can be lowered by it
  pub asked_enough : len ≤ h.asked
  asked_enough = (let e = asked_left in let l = length_is in let f = v.asked_all in omega arith)

  pub used_enough : size ≤ h.used_words
  used_enough = (let e = used_left in let s = size_is in let f = v.used_all in omega arith)

  contents_left : AreTilingWords (content_word left) t.blocks t.words
  contents_left = release_words (content_word (tag_held_in h)) (content_word left) h.tagged t a v.tags tags r v.contents (λ b c p away there used i.
      let own = v.owned.live b c p there used in
      let other : p ≢ q = λ is. away (sym own.2 ∙ ap (λ (x : Placed). x.place) (some_placed own.0 old (sym own.1 ∙ ap (get (tag_held_in h)) is ∙ found))) in
      rw (get_remove_other (tag_held_in h) q p other) refl)

  becomes : MeetsInvariantWith k freed left
  becomes = record {
    tags = tags;
    lists = lists;
    words_long = long ∙ v.words_long;
    places = ap (λ m. remove m q) (places_are h v) ∙ sym (map_values-remove (λ (x : Placed). x.place) (tag_held_in h) q);
    bytes = λ p x e. are_bytes h v p x (some_removed (tag_held_in h) q p x e).1;
    owned = subst (AreOwned left) (sym r.blocks) (owned_free (length h.tagged.words) (tag_held_in h) h.tagged.blocks q old v.tags.tiling v.owned found);
    contents = contents_left;
    numbers = v.numbers;
    handles = below;
    asked_all = (let e = asked_left in let l = length_is in let f = v.asked_all in omega arith);
    used_all = (let e = used_left in let s = size_is in let f = v.used_all in omega arith);
  }

  pub freed_valid : IsValid k freed
  freed_valid = becomes_valid freed left becomes

  pub freed_rules : IsTiled k → KeepsRules (tag_state_of k freed)
  freed_rules = becomes_rules freed left becomes

  pub frees : IsTiled k → FreesObject (tag_state_of k h) q (record { slot_words = size; moved = None }) (tag_state_of k freed)
  frees is = record {
    object = old;
    found = found;
    slot = size_is ∙ of_tiled (λ j. size_at h.tagged.blocks a ≡ slot_in j (tag_state_of k h) old) refl refl k is;
    moves = of_tiled (λ j. MovesIn j (tag_state_of k h) old None) refl refl k is;
    held = held_is freed left becomes;
    left = ap objects (held_is freed left becomes) ∙ objects_left;
    frames = sym (frames_stay k is (tag_state_of k h) (call_result (tag_state_of k h) q old None));
    tiling = r.blocks ∙ of_tiled (λ j. released h.tagged.blocks a ≡ tiling_left j (tag_state_of k h) a) refl refl k is;
    rest = record { kind = refl; opened = refl; profile = refl; bounds = refl };
  }

  -- the block that the free leaves becomes the first of its list, and its number the first free one
  pub leaves_order : t.lists ≡ lists_released (free_lists_of k) (listed h.tagged) a → tag_order_of freed ≡ record (tag_order_of h) {
    not_full = lists_released (free_lists_of k) (listed h.tagged) a;
    spare = q ∷ h.proxies.free;
  }
  leaves_order left = ap (λ ls. record { pool = []; not_full = ls; spare = q ∷ h.proxies.free }) left
