-- For `malloc` and `has_room`: after an object of zeros is added in the next block of the order, a heap with blocks satisfies its invariant, and at most 2^23
-- words are used; and the cause of each refusal, no proxy or no block, and that there is none if there is room.
use Rattle.std.proofs.Common.{◌≡◌, ◌≢◌, ℕ, zero, suc, ◌+◌, ◌^◌, ◌<◌, ◌≤◌, ◌∷◌, Some, None, length, replicate, arith, refl, sym, ◌∙◌, ap, subst, inl, inr}
use Rattle.std.proofs.lemmas.List.{length-replicate}
use Rattle.std.specs.FinMap.{get, insert, len}
use Rattle.std.specs.Prelude.{option_map}
use Rattle.cf_base.proofs.Maps.{get_inserted, get_insert_other, some_inserted}
use Rattle.cf_base.proofs.MapValues.{get-map_values}
use Rattle.cf_base.specs.Classes.{need}
use Rattle.cf_base.specs.declared.results.Refusal.{Refusal}
use Rattle.cf_base.specs.declared.results.Refusal.TheVariants as refusal
use Rattle.cf_base.specs.declared.kind.Kind.{Kind}
use Rattle.page_model.specs.Held.{Held, Placed, objects}
use Rattle.page_model.specs.Bytes.{AreBytes}
use Rattle.page_model.specs.Figures.{asked_bytes}
use Rattle.page_model.specs.Image.{header_word}
use Rattle.page_model.specs.Steps.{zeros_at}
use Rattle.page_model.proofs.CallerLemmas.{asked_added, malloc_objects, malloc_places, zeros_are_bytes}
use Rattle.block_model.specs.Buckets.{FreeLists}
use Rattle.block_model.specs.FreeOrder.{AreListsOf, CarvesNext, lists_carved, next_block}
use Rattle.block_model.specs.Tiling.{Carves, IsCarvedTo, LacksBlock, block_need, size_at, used_words}
use Rattle.block_model.specs.Words.{AreTilingWords}
use Rattle.block_model.proofs.CallerLemmas.{used_after_malloc, used_within}
use Rattle.proxy_table.specs.Proxies.{AreBelowLimit, with_place}
use Rattle.tag_blocks.specs.Blocks.{Tagged, AreTags, CarvesAt, demand, listed, owner_of}
use Rattle.tag_blocks.proofs.CallerLemmas.{carve_words}
use Rattle.cf_model.specs.Families.{IsTiled, free_lists_of, list_count_of}
use Rattle.cf_model.specs.Ordered.{CarvesInOrder}
use Rattle.cf_model.specs.Rules.{KeepsRules, content_word}
use Rattle.cf_model.specs.Steps.{AddsObject, IsPlacedBy, IsRefusedBy, LacksRoomIn, LacksProxy, LacksSpace}
use Rattle.cf_model.proofs.CallerLemmas.{fresh_word, no_one, owned_malloc}
use Rattle.tag_heap.specs.Heap.{Heap, IsValid, tag_held_in, tag_order_of, tag_state_of}
use Rattle.tag_heap.specs.Room.{HasTagRoom}
use Rattle.tag_heap.proofs.ByKind.{of_tiled}
use Rattle.tag_heap.proofs.Preserved.{MeetsInvariantWith, are_bytes, becomes_rules, becomes_state, becomes_valid, held_many, no_place, places_are}

-- the demand of an object's bytes under its header
pub asked_for : (q n : ℕ) → q < 2 ^ 32 → demand (need n + 1) (header_word q n) ≡ record { need = block_need n; owner = q }
asked_for q n few =
    let size : need n + 1 ≡ block_need n = omega arith in
    let owner : owner_of (header_word q n) ≡ q = omega arith in
    ap (λ x. record { need = x; owner = owner_of (header_word q n) }) size ∙ ap (λ x. record { need = block_need n; owner = x }) owner

module _ {k : Kind} (rule : FreeLists) (h : Heap) (v : IsValid k h) (q n a : ℕ) (fits : need n ≤ h.settings.page_words)
    (unused : get h.proxies.places q ≡ None)
    (few : q < h.proxies.limit) (some : len h.proxies.places ≢ h.proxies.limit) (t : Tagged)
    (needed tag : ℕ) (needed_is : needed ≡ need n) (tag_is : tag ≡ header_word q n) (carve : CarvesAt rule h.tagged (needed + 1) tag a t)
    (long : length t.words ≡ length h.tagged.words) (tags : AreTags t) (lists : AreListsOf (free_lists_of k) (list_count_of k) (listed t))
    (below : AreBelowLimit (with_place h.proxies q a))
    (size : ℕ) (size_is : size ≡ size_at t.blocks a) where
  abbrev grown : Held
  grown = insert (tag_held_in h) q (zeros_at a n)

  -- the heap with the new object
  abbrev pub given : Heap
  given = record h {
    tagged = t;
    proxies = with_place h.proxies q a;
    asked = h.asked + n;
    used_words =
        h.used_words + size;
  }

  c : CarvesAt rule h.tagged (need n + 1) (header_word q n) a t
  c = subst (λ x. CarvesAt rule h.tagged (x + 1) (header_word q n) a t) needed_is (subst (λ w. CarvesAt rule h.tagged (needed + 1) w a t) tag_is carve)

  none : get (tag_held_in h) q ≡ None
  none = no_place h v q unused

  small : q < 2 ^ 32
  small = (let e = v.numbers in let f = h.settings.few_proxies in omega arith)

  carves : Carves rule h.tagged.blocks (record { need = block_need n; owner = q }) a t.blocks
  carves = subst (λ d. Carves rule h.tagged.blocks d a t.blocks) (asked_for q n small) c.carves

  carved_to : IsCarvedTo t.blocks a (record { need = block_need n; owner = q })
  carved_to = subst (λ d. IsCarvedTo t.blocks a d) (asked_for q n small) c.given

  long_zeros : length (replicate {A = ℕ} n 0) ≡ n
  long_zeros = length-replicate {A = ℕ} n 0

  there : get grown q ≡ Some (zeros_at a n)
  there = get_inserted (tag_held_in h) q (zeros_at a n)

  first_word : content_word grown (owner_of (header_word q n)) 0 ≡ header_word q n
  first_word = (let e : owner_of (header_word q n) ≡ q = omega arith in rw (e, there) (ap (header_word q) long_zeros))

  rest_words : (i : ℕ) → 1 ≤ i → content_word grown (owner_of (header_word q n)) i ≡ 0
  rest_words zero low = absurd (omega arith)
  rest_words (suc i) low = (let e : owner_of (header_word q n) ≡ q = omega arith in rw (e, there) (fresh_word q n i))

  contents_now : AreTilingWords (content_word grown) t.blocks t.words
  contents_now = carve_words (content_word (tag_held_in h)) (content_word grown) rule h.tagged t (need n + 1) (header_word q n) a v.tags tags c v.contents
      first_word rest_words (λ b x p at used i.
      let own = v.owned.live b x p at used in
      let other : p ≢ q = λ is. no_one (get (tag_held_in h) q) own.0 none (ap (get (tag_held_in h)) (sym is) ∙ own.1) in
      rw (get_insert_other (tag_held_in h) q (zeros_at a n) p other) refl)

  asked_now : asked_bytes (objects grown) ≡ asked_bytes (objects (tag_held_in h)) + n
  asked_now = ap asked_bytes (malloc_objects (tag_held_in h) q a n)
      ∙ asked_added (objects (tag_held_in h)) q (replicate n 0)
      (get-map_values (λ (x : Placed). x.bytes) (tag_held_in h) q ∙ ap (option_map (λ (x : Placed). x.bytes)) none)
      ∙ ap (λ l. asked_bytes (objects (tag_held_in h)) + l) long_zeros

  used_now : used_words t.blocks ≡ used_words h.tagged.blocks + size_at t.blocks a
  used_now = ap used_words carves.carved
      ∙ used_after_malloc h.tagged.blocks a (record { need = block_need n; owner = q }) carves.found carves.there carves.serves.free
      ∙ ap (λ bs. used_words h.tagged.blocks + size_at bs a) (sym carves.carved)

  -- the words of all used blocks, with those of the new one, are at most 2^23
  pub used_small : h.used_words + size ≤ 2 ^ 23
  used_small =
      let s = size_is in
      let e = used_now in
      let f = v.used_all in
      let w = used_within t.blocks 0 (length t.words) tags.tiling.fill in
      let m = tags.most in
      omega arith

  are_bytes_now : (p : ℕ) (x : Placed) → get grown p ≡ Some x → AreBytes x.bytes
  are_bytes_now p x e = elim (some_inserted (tag_held_in h) q (zeros_at a n) p x e) [
    | inl (is, same) ↦ subst (λ (y : Placed). AreBytes y.bytes) same (zeros_are_bytes n)
    | inr (other, was) ↦ are_bytes h v p x was
  ]

  becomes : MeetsInvariantWith k given grown
  becomes = record {
    tags = tags;
    lists = lists;
    words_long = long ∙ v.words_long;
    places = ap (λ m. insert m q a) (places_are h v) ∙ sym (malloc_places (tag_held_in h) q a n);
    bytes = are_bytes_now;
    owned = owned_malloc rule (length h.tagged.words) (tag_held_in h) h.tagged.blocks t.blocks q n a v.tags.tiling v.owned none carves carved_to;
    contents = contents_now;
    numbers = v.numbers;
    handles = below;
    asked_all = (let e = asked_now in let f = v.asked_all in omega arith);
    used_all = (let e = used_now in let s = size_is in let f = v.used_all in omega arith);
  }

  pub given_valid : IsValid k given
  given_valid = becomes_valid given grown becomes

  pub given_rules : IsTiled k → KeepsRules (tag_state_of k given)
  given_rules = becomes_rules given grown becomes

  pub gives : IsTiled k → rule ≡ free_lists_of k → AddsObject (tag_state_of k h) (record { number = q; length = n }) (tag_state_of k given)
  gives is rule_is = record {
    fits = fits;
    few = (let m = held_many h v in let b = v.handles.few in let e = v.numbers in omega arith);
    in_range = (let e = v.numbers in omega arith);
    unused = none;
    place = a;
    placed = of_tiled (λ j. Carves (free_lists_of j) h.tagged.blocks (record { need = block_need n; owner = q }) a t.blocks
        → IsPlacedBy j (tag_state_of k h) (record { number = q; length = n }) a (tag_state_of k given))
        (λ x. x) (λ x. x) k is (subst (λ r. Carves r h.tagged.blocks (record { need = block_need n; owner = q }) a t.blocks) rule_is carves);
    whole = becomes_state given grown becomes k;
  }

  -- the number and the block are those that were next in the order
  pub chooses : rule ≡ free_lists_of k → h.proxies.free ≡ q ∷ (with_place h.proxies q a).free → next_block rule h.tagged.lists (need n + 1) ≡ Some a
      → t.lists ≡ lists_carved rule (listed h.tagged) (needed + 1) a
      → CarvesInOrder (tag_state_of k h) (record { number = q; length = n }) a (tag_state_of k given) (tag_order_of h) (tag_order_of given)
  chooses rule_is first next left =
      let size : need n + 1 ≡ block_need n = omega arith in
      let same : needed + 1 ≡ block_need n = (let e = needed_is in omega arith) in
      record {
        rest = (with_place h.proxies q a).free;
        number = first;
        carves = subst (λ r. CarvesNext r (listed h.tagged) (record { need = block_need n; owner = q }) a (listed t)) rule_is (record {
          next = subst (λ m. next_block rule h.tagged.lists m ≡ Some a) size next;
          blocks = carves.carved;
          lists = left ∙ ap (λ m. lists_carved rule (listed h.tagged) m a) same;
        });
        left = refl;
      }

module _ (k : Kind) (is : IsTiled k) (h : Heap) (v : IsValid k h) (n : ℕ) (fits : need n ≤ h.settings.page_words) where
  -- no proxy is left
  pub lacks_proxy : len h.proxies.places ≡ h.proxies.limit → LacksProxy (tag_state_of k h) n
  lacks_proxy all = record { fits = fits; all = held_many h v ∙ all ∙ v.numbers }

  -- no free block may serve the need
  pub lacks_space : (rule : FreeLists) → rule ≡ free_lists_of k → len h.proxies.places ≢ h.proxies.limit → (needed : ℕ) → needed ≡ need n
      → LacksBlock rule h.tagged.blocks (needed + 1) → LacksSpace (tag_state_of k h) n
  lacks_space rule lists some needed needed_is lacking = record {
    fits = fits;
    few = (let m = held_many h v in let b = v.handles.few in let e = v.numbers in omega arith);
    lacking = of_tiled (λ j. LacksBlock (free_lists_of j) h.tagged.blocks (block_need n) → LacksRoomIn j (tag_state_of k h) n) (λ x. x) (λ x. x) k is
        (subst (λ r. LacksBlock r h.tagged.blocks (block_need n)) lists
        (subst (LacksBlock rule h.tagged.blocks) (let e : needed + 1 ≡ block_need n = omega arith in e) lacking));
  }

-- if there is room, there is no cause of a refusal
pub has_no_cause : (k : Kind) → IsTiled k → (h : Heap) (rule : FreeLists) → rule ≡ free_lists_of k → (n a : ℕ) → HasTagRoom rule h n a → IsValid k h
    → (e : Refusal) → ¬ IsRefusedBy (tag_state_of k h) n e
has_no_cause k is h rule lists n a r v refusal.Size cause = (let f = r.fits in absurd (omega arith))
has_no_cause k is h rule lists n a r v refusal.Proxy cause = r.few (sym (held_many h v) ∙ cause.all ∙ sym v.numbers)
has_no_cause k is h rule lists n a r v refusal.Space cause =
    let lacking : LacksBlock (free_lists_of k) h.tagged.blocks (block_need n) =
    of_tiled (λ j. LacksRoomIn j (tag_state_of k h) n → LacksBlock (free_lists_of j) h.tagged.blocks (block_need n)) (λ x. x) (λ x. x) k is cause.lacking in
    let e : block_need n ≡ need n + 1 = omega arith in
    subst (LacksBlock rule h.tagged.blocks) e (subst (λ r. LacksBlock r h.tagged.blocks (block_need n)) (sym lists) lacking)
    a (record { address = a; size = r.found.size; owner = None }) r.found.there (record { free = refl; reached = r.found.reached })
