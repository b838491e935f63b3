-- If the words, blocks, proxies and counts of an open heap with blocks agree with a map of objects (`MeetsInvariantWith`), the heap has these objects and
-- satisfies its invariant and the rules; what holds of each heap that satisfies its invariant; and the address and the bytes of an object read from words.
-- Also: all settings are in range, and the rules don't depend on the cost.
use Rattle.std.proofs.Common.{◌≡◌, ℕ, ◌+◌, ◌*◌, ◌<◌, List, Option, Some, None, length, arith, refl, sym, ◌∙◌, ap, subst}
use Rattle.std.specs.Prelude.{option_map}
use Rattle.std.specs.List.{Contains}
use Rattle.std.specs.Ordering.{nat_cmp}
use Rattle.std.specs.FinMap.{FinMap, get, len}
use Rattle.cf_base.proofs.Maps.{equal_maps}
use Rattle.cf_base.proofs.MapValues.{get-map_values}
use Rattle.cf_base.proofs.Values.{len-map_values}
use Rattle.cf_base.specs.Settings.{profile_of}
use Rattle.cf_base.specs.declared.kind.Kind.{Kind}
use Rattle.cf_base.specs.declared.settings.Settings.{Settings}
use Rattle.page_model.specs.Held.{Held, Placed, objects, places}
use Rattle.page_model.specs.Bytes.{AreBytes, bytes_at}
use Rattle.page_model.specs.Figures.{asked_bytes}
use Rattle.page_model.proofs.CallerLemmas.{bytes_at-AreBytes}
use Rattle.block_model.specs.FreeOrder.{AreListsOf}
use Rattle.block_model.specs.Tiling.{IsTiling, used_words}
use Rattle.block_model.specs.Words.{AreTilingWords}
use Rattle.proxy_table.specs.Proxies.{AreBelowLimit}
use Rattle.tag_blocks.specs.Blocks.{AreTags, IsUsedAt, listed}
use Rattle.cf_model.specs.Families.{IsTiled, free_lists_of, list_count_of}
use Rattle.cf_model.specs.ReadObjects.{read_objects}
use Rattle.cf_model.specs.Rules.{AreInRange, AreObjects, AreOwned, IsBlockOrder, KeepsRules, KeepsRulesOf, KeepsTiling, content_word}
use Rattle.cf_model.specs.State.{HeapState}
use Rattle.cf_model.proofs.CallerLemmas.{objects_shown}
use Rattle.tag_heap.specs.Heap.{Heap, IsValid, tag_held_in, tag_order_of, tag_state_of}
use Rattle.tag_heap.proofs.ByKind.{of_tiled}

-- the heap h meets each fact of the invariant with the objects m, and its proxies hold their addresses
pub record MeetsInvariantWith (k : Kind) (h : Heap) (m : Held) : Type 0 where
  pub tags : AreTags h.tagged
  pub lists : AreListsOf (free_lists_of k) (list_count_of k) (listed h.tagged)
  pub words_long : length h.tagged.words ≡ h.settings.pages * h.settings.page_words
  pub places : h.proxies.places ≡ places m
  pub bytes : (q : ℕ) (x : Placed) → get m q ≡ Some x → AreBytes x.bytes
  pub owned : AreOwned m h.tagged.blocks
  pub contents : AreTilingWords (content_word m) h.tagged.blocks h.tagged.words
  pub numbers : h.proxies.limit ≡ h.settings.proxies
  pub handles : AreBelowLimit h.proxies
  pub asked_all : h.asked ≡ asked_bytes (objects m)
  pub used_all : h.used_words ≡ used_words h.tagged.blocks

pub in_range : (s : Settings) → AreInRange (profile_of s)
in_range s = record {
  some_pages = s.some_pages;
  few_pages = s.few_pages;
  page_size = s.page_size;
  some_bound = s.some_bound;
  low_bound = s.low_bound;
  some_proxies = s.some_proxies;
  few_proxies = s.few_proxies;
  small_region = s.small_region;
}

-- the state of the heap h, with m as its live objects
abbrev seen_with : Kind → Heap → Held → HeapState
seen_with k h m = record (tag_state_of k h) { held = m }

-- a number without an address has no object
unplaced : (m : Held) (q : ℕ) (o : Option Placed) → get m q ≡ o → option_map (λ (x : Placed). x.place) o ≡ None → get m q ≡ None
unplaced m q None is e = is
unplaced m q (Some x) is e = absurd (let e' : ◌≡◌ {A = Option ℕ} (Some x.place) None = e in cc)

module _ {k : Kind} (h : Heap) (m : Held) (b : MeetsInvariantWith k h m) where
  proxy_of : (q : ℕ) (x : Placed) → get m q ≡ Some x → get h.proxies.places q ≡ Some x.place
  proxy_of q x e = ap (λ p. get p q) b.places ∙ get-map_values (λ (x : Placed). x.place) m q ∙ ap (option_map (λ (x : Placed). x.place)) e

  as_many : len h.proxies.places ≡ len m
  as_many = ap (λ p. len p) b.places ∙ len-map_values (λ (x : Placed). x.place) m

  are_objects : AreObjects (seen_with k h m)
  are_objects = record {
    handles = λ q x e. subst (λ n. q < n) b.numbers (b.handles.below q x.place (proxy_of q x e));
    bytes = b.bytes;
    few = (let n = b.numbers in let l = b.handles.few in let e = as_many in omega arith);
  }

  spare_is : (q : ℕ) → Contains h.proxies.free q → (q < h.settings.proxies) × (get m q ≡ None)
  spare_is q has = (
    subst (λ n. q < n) b.numbers (b.handles.free_below q has),
    unplaced m q (get m q) refl (sym (get-map_values (λ (x : Placed). x.place) m q) ∙ sym (ap (λ p. get p q) b.places) ∙ b.handles.not_live q has),
  )

  keeps_order : IsBlockOrder (seen_with k h m) (tag_order_of h)
  keeps_order = record {
    no_pool = refl;
    lists = b.lists;
    links = b.tags.links;
    spare = spare_is;
    spare_once = b.handles.once;
    spare_all = (let c = b.handles.counted in let n = b.numbers in let e = as_many in omega arith);
  }

  keeps : KeepsTiling (seen_with k h m)
  keeps = record {
    tiling = subst (λ n. IsTiling n h.tagged.blocks) b.words_long b.tags.tiling;
    owned = b.owned;
    words = b.contents;
    no_frames = refl;
    no_bounds = refl;
    order = keeps_order;
  }

  pub held_is : tag_held_in h ≡ m
  held_is = ap (read_objects h.tagged.words) b.places ∙ objects_shown (seen_with k h m) (in_range h.settings) are_objects keeps

  pub becomes_valid : IsValid k h
  becomes_valid = record {
    tags = b.tags;
    lists = b.lists;
    words_long = b.words_long;
    owned = subst (λ m. AreOwned m h.tagged.blocks) (sym held_is) b.owned;
    contents = subst (λ m. AreTilingWords (content_word m) h.tagged.blocks h.tagged.words) (sym held_is) b.contents;
    numbers = b.numbers;
    handles = b.handles;
    asked_all = b.asked_all ∙ ap (λ m. asked_bytes (objects m)) (sym held_is);
    used_all = b.used_all;
  }

  pub becomes_state : (j : Kind) → tag_state_of j h ≡ seen_with j h m
  becomes_state j = ap (λ m. seen_with j h m) held_is

  pub becomes_rules : IsTiled k → KeepsRules (tag_state_of k h)
  becomes_rules is = subst KeepsRules (sym (becomes_state k)) (record {
    settings = in_range h.settings;
    region = b.words_long;
    numbers = are_objects;
    of_kind = of_tiled (λ j. KeepsRulesOf j (seen_with k h m)) keeps keeps k is;
  })

-- the objects that are read from words have the addresses that were given
pub places-read : (words : List ℕ) (at : FinMap nat_cmp ℕ) → places (read_objects words at) ≡ at
places-read words at = equal_maps _ _ (λ q. get-map_values (λ (x : Placed). x.place) (read_objects words at) q
    ∙ ap (option_map (λ (x : Placed). x.place)) (get-map_values (λ a. record { place = a; bytes = bytes_at words (a + 1) }) at q) ∙ go (get at q))
  where
    go : (o : Option ℕ) → option_map (λ (x : Placed). x.place) (option_map (λ a. record { place = a; bytes = bytes_at words (a + 1) }) o) ≡ o
    go None = refl
    go (Some a) = refl

-- x is the object of number q: its address is that in `at`, and its bytes are those that the words hold there
pub record ReadsAs (words : List ℕ) (at : FinMap nat_cmp ℕ) (q : ℕ) (x : Placed) : Type 0 where
  pub place : get at q ≡ Some x.place
  pub bytes : x.bytes ≡ bytes_at words (x.place + 1)

pub read_is : (words : List ℕ) (at : FinMap nat_cmp ℕ) (q : ℕ) (x : Placed) → get (read_objects words at) q ≡ Some x → ReadsAs words at q x
read_is words at q x e = go (get at q) refl (sym (get-map_values (λ a. record { place = a; bytes = bytes_at words (a + 1) }) at q) ∙ e)
  where
    go : (o : Option ℕ) → get at q ≡ o → option_map (λ a. record { place = a; bytes = bytes_at words (a + 1) }) o ≡ Some x → ReadsAs words at q x
    go None e f = absurd (let f' : ◌≡◌ {A = Option Placed} None (Some x) = f in cc)
    go (Some a) e f = (let same : ◌≡◌ {A = Placed} (record { place = a; bytes = bytes_at words (a + 1) }) x = cc in
        subst (ReadsAs words at q) same (record { place = e; bytes = refl }))

-- what holds of a valid heap
module _ {k : Kind} (h : Heap) (v : IsValid k h) where
  pub places_are : h.proxies.places ≡ places (tag_held_in h)
  places_are = sym (places-read h.tagged.words h.proxies.places)

  pub are_bytes : (q : ℕ) (x : Placed) → get (tag_held_in h) q ≡ Some x → AreBytes x.bytes
  are_bytes q x e = subst AreBytes (sym (read_is h.tagged.words h.proxies.places q x e).bytes) (bytes_at-AreBytes h.tagged.words (x.place + 1))

  pub stays : MeetsInvariantWith k h (tag_held_in h)
  stays = record {
    tags = v.tags;
    lists = v.lists;
    words_long = v.words_long;
    places = places_are;
    bytes = are_bytes;
    owned = v.owned;
    contents = v.contents;
    numbers = v.numbers;
    handles = v.handles;
    asked_all = v.asked_all;
    used_all = v.used_all;
  }

  pub rules : IsTiled k → KeepsRules (tag_state_of k h)
  rules = becomes_rules h (tag_held_in h) stays

  -- a number without an address has no object in the heap
  pub no_place : (q : ℕ) → get h.proxies.places q ≡ None → get (tag_held_in h) q ≡ None
  no_place q e = get-map_values (λ a. record { place = a; bytes = bytes_at h.tagged.words (a + 1) }) h.proxies.places q
      ∙ ap (option_map (λ a. record { place = a; bytes = bytes_at h.tagged.words (a + 1) })) e

  -- a number with an address has its object there
  pub has_place : (q a : ℕ) → get h.proxies.places q ≡ Some a
      → get (tag_held_in h) q ≡ Some (record { place = a; bytes = bytes_at h.tagged.words (a + 1) })
  has_place q a e = get-map_values (λ a. record { place = a; bytes = bytes_at h.tagged.words (a + 1) }) h.proxies.places q
      ∙ ap (option_map (λ a. record { place = a; bytes = bytes_at h.tagged.words (a + 1) })) e

  pub held_many : len (tag_held_in h) ≡ len h.proxies.places
  held_many = len-map_values (λ a. record { place = a; bytes = bytes_at h.tagged.words (a + 1) }) h.proxies.places

  -- a number with an address has a used block there
  pub used_at : (q a : ℕ) → get h.proxies.places q ≡ Some a → IsUsedAt h.tagged.blocks a
  used_at q a e = (let own = v.owned.placed q _ (has_place q a e) in record { block = own.0; owner = q; there = own.1; used = own.2.owner })

-- the rules don't depend on the cost
pub cost_rules : (k : Kind) → IsTiled k → (h : Heap) (cost : ℕ) → KeepsRules (tag_state_of k h) → KeepsRules (tag_state_of k (record h { cost = cost }))
cost_rules k is h cost r = record {
  settings = r.settings;
  region = r.region;
  numbers = record { handles = r.numbers.handles; bytes = r.numbers.bytes; few = r.numbers.few };
  of_kind = of_tiled (λ j. KeepsTiling (tag_state_of k (record h { cost = cost })) → KeepsRulesOf j (tag_state_of k (record h { cost = cost }))) (λ t. t) (λ t. t) k is
      (again (of_tiled (λ j. KeepsRulesOf j (tag_state_of k h) → KeepsTiling (tag_state_of k h)) (λ t. t) (λ t. t) k is r.of_kind));
}
  where
    again : KeepsTiling (tag_state_of k h) → KeepsTiling (tag_state_of k (record h { cost = cost }))
    again t = record {
      tiling = t.tiling;
      owned = t.owned;
      words = t.words;
      no_frames = t.no_frames;
      no_bounds = t.no_bounds;
      order = record {
        no_pool = t.order.no_pool;
        lists = t.order.lists;
        links = t.order.links;
        spare = t.order.spare;
        spare_once = t.order.spare_once;
        spare_all = t.order.spare_all;
      };
    }
