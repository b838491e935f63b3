-- For `malloc_inner`: with a new object in a free slot (`IsAdded`) the heap keeps its invariant, its state has that object too, all zeros, and the number and
-- the slot are the next ones of the order.
use Rattle.std.proofs.Common.{◌≡◌, ℕ, ◌+◌, ◌*◌, ◌^◌, ◌<◌, ◌≤◌, ◌∷◌, length, get_or, set, replicate, Option, Some, None, arith, refl, sym, ◌∙◌, ap, subst}
use Rattle.std.specs.Prelude.{IfSome, nat_eq, option_map}
use Rattle.std.proofs.lemmas.List.{length-set, length-replicate}
use Rattle.std.specs.FinMap.{get, insert, len}
use Rattle.cf_base.specs.Classes.{need}
use Rattle.cf_base.proofs.Maps.{get_inserted}
use Rattle.cf_base.proofs.MapValues.{get-map_values}
use Rattle.cf_base.proofs.Ranges.{one}
use Rattle.page_model.specs.Held.{Held, Placed, objects}
use Rattle.page_model.specs.Paging.{class_for, classes, slot_words}
use Rattle.page_model.specs.Arrangement.{class_at, live}
use Rattle.page_model.specs.Image.{header_word, IsSlotImage}
use Rattle.page_model.specs.Figures.{asked_bytes, taken_bytes}
use Rattle.page_model.specs.Order.{MallocFollows, TakesNext}
use Rattle.page_model.specs.Steps.{IsFreePlace, zeros_at}
use Rattle.page_model.proofs.CallerLemmas.{live_added, asked_added, taken_added, malloc_objects, malloc_places, sound_malloc, image_after_malloc}
use Rattle.page_model.proofs.CallerLemmas.{storable_added, zeros_are_bytes}
use Rattle.proxy_table.specs.Proxies.{Proxies, AreBelowLimit, with_place}
use Rattle.page_slots.specs.Tables.{AreTables}
use Rattle.page_slots.specs.Take.{TakesAt}
use Rattle.page_slots.specs.Occupying.{class_table}
use Rattle.page_slots.specs.Orders.{order_of}
use Rattle.page_slots.proofs.CallerLemmas.{taken_is_free, taken_next, taken_occupied, taken_serve, held_len, no_place, as_many, places_are}
use Rattle.cf_model.specs.Answers.{place_of}
use Rattle.cf_model.specs.Steps.{AddsObject}
use Rattle.paged_heap.specs.Heap.{Heap}
use Rattle.paged_heap.specs.Layout.{IsValid, held_in, order_in, paging_at, state_of, tables_in, owner_in}
use Rattle.cf_base.proofs.Tallies.{counted_in}
use Rattle.paged_heap.proofs.ByKind.{framed_kept, placed_in}
use Rattle.paged_heap.proofs.LayoutFacts.{few_classes, paged_kind, paging_ok, table_is}
use Rattle.paged_heap.proofs.Preserved.{Becomes, becomes_kept, becomes_state, held_is, stored, with_parts}

-- the heap n is h with a new object of `bytes` bytes in the free slot of class c at the address a, under number q
pub record IsAdded (h n : Heap) (c a bytes q : ℕ) : Type 0 where
  pub rest : n ≡ with_parts h n
  pub fits : need bytes ≤ h.settings.page_words
  pub class : class_for (paging_at h) bytes ≡ c
  pub in_range : c < classes (paging_at h)
  pub few : len h.proxies.places < h.settings.proxies
  pub taken : TakesAt (class_table (paging_at h)) (tables_in h) c a (tables_in n)
  pub tables : AreTables (class_table (paging_at h)) (tables_in n)
  pub unused : get h.proxies.places q ≡ None
  pub below : q < h.proxies.limit
  pub proxies : n.proxies ≡ with_place h.proxies q a
  pub first : h.proxies.free ≡ q ∷ n.proxies.free
  pub handles : AreBelowLimit n.proxies
  pub words : n.words ≡ set h.words a (header_word q bytes)
  pub frames : n.frames ≡ h.frames
  pub live : n.live ≡ set h.live c (get_or h.live c 0 + 1)
  pub asked : n.asked ≡ h.asked + bytes
  pub all_taken : n.taken ≡ h.taken + 8 * slot_words (paging_at h) c

module _ (h n : Heap) (k : IsValid h) (c a bytes q : ℕ) (co : IsAdded h n c a bytes q) where
  abbrev after : Held
  after = insert (held_in h) q (zeros_at a bytes)

  none : get (held_in h) q ≡ None
  none = no_place (owner_in h) q co.unused

  size : length (replicate {A = ℕ} bytes 0) ≡ bytes
  size = length-replicate {A = ℕ} bytes 0

  free : IsFreePlace (paging_at h) (held_in h) bytes a
  free = taken_is_free (paging_ok h k) k.serve.part k.occupied co.tables co.in_range co.taken bytes co.class

  small : q < 2 ^ 32
  small = (let lt = co.below in let e = k.numbers in let few = h.settings.few_proxies in omega arith)

  class_of_zeros : class_at (paging_at h) (zeros_at a bytes) ≡ c
  class_of_zeros = ap (class_for (paging_at h)) size ∙ co.class

  objects_are : objects after ≡ insert (objects (held_in h)) q (replicate bytes 0)
  objects_are = malloc_objects (held_in h) q a bytes

  no_bytes : get (objects (held_in h)) q ≡ None
  no_bytes = get-map_values (λ (x : Placed). x.bytes) (held_in h) q ∙ ap (option_map (λ (x : Placed). x.bytes)) none

  counts : (d : ℕ) → d < classes (paging_at h) → get_or n.live d 0 ≡ live (paging_at h) (objects after) d
  counts d lt =
      let add = live_added (paging_at h) (objects (held_in h)) q (replicate bytes 0) d no_bytes in
      let was = k.counted d lt in
      let all : live (paging_at h) (objects after) d ≡ live (paging_at h) (insert (objects (held_in h)) q (replicate bytes 0)) d =
      ap (λ o. live (paging_at h) o d) objects_are in
      let now : get_or n.live d 0 ≡ get_or (set h.live c (get_or h.live c 0 + 1)) d 0 = ap (λ l. get_or l d 0) co.live in
      let inside : c < length h.live = (let few = few_classes h k in let lt' = co.in_range in let long = k.live_long in omega arith) in
      let more = counted_in h.live c d inside in
      let same : one (nat_eq (class_for (paging_at h) (length (replicate {A = ℕ} bytes 0))) d) ≡ one (nat_eq c d) = ap (λ e. one (nat_eq e d)) class_of_zeros in
      omega arith

  becomes : Becomes h n after
  becomes = record {
    rest = co.rest;
    framed = framed_kept h.kind h n co.frames (ap length co.words ∙ length-set h.words a (header_word q bytes)) k.framed;
    places = ap (λ (x : Proxies). x.places) co.proxies ∙ ap (λ m. insert m q a) (places_are (owner_in h)) ∙ sym (malloc_places (held_in h) q a bytes);
    storable = storable_added (held_in h) q (zeros_at a bytes) (stored h k) small (zeros_are_bytes bytes);
    long = ap length co.words ∙ length-set h.words a (header_word q bytes);
    image = subst (λ w. IsSlotImage (paging_at h) after w) (sym co.words)
        (image_after_malloc (paging_at h) (paging_ok h k) (held_in h) k.sound h.words k.image q bytes a none k.words_long free);
    sound = sound_malloc (paging_at h) (held_in h) (record { number = q; length = bytes }) after (paging_ok h k) k.sound
        (record { place = a; unused = none; free = free; placed = refl });
    serve = taken_serve (paging_ok h k) k.serve.part k.occupied co.tables co.in_range co.taken k.serve.whole;
    occupied = taken_occupied (paging_ok h k) k.serve.part k.occupied co.tables co.in_range co.taken q (zeros_at a bytes) none refl class_of_zeros;
    limit = ap (λ (x : Proxies). x.limit) co.proxies;
    handles = co.handles;
    live_long = ap length co.live ∙ length-set h.live c (get_or h.live c 0 + 1) ∙ k.live_long;
    counted = counts;
    asked_all = (
        let add = asked_added (objects (held_in h)) q (replicate bytes 0) no_bytes in
        let all = ap asked_bytes objects_are in let was = k.asked_all in let now = co.asked in let s = size in
        omega arith);
    taken_all = (
        let add = taken_added (paging_at h) (objects (held_in h)) q (replicate bytes 0) no_bytes in
        let all = ap (taken_bytes (paging_at h)) objects_are in let was = k.taken_all in let now = co.all_taken in
        let s : slot_words (paging_at h) (class_for (paging_at h) (length (replicate {A = ℕ} bytes 0))) ≡ slot_words (paging_at h) c =
        ap (slot_words (paging_at h)) class_of_zeros in
        omega arith);
  }

  pub comes_kept : IsValid n
  comes_kept = becomes_kept h n k after becomes

  -- the number and the slot are the next ones
  follows : MallocFollows (paging_at h) (held_in h) (record { number = q; length = bytes }) a (order_in h) (order_in n)
  follows = record {
    rest = n.proxies.free;
    number = co.first;
    taken =
        let next = taken_next (paging_ok h k) k.serve.part k.occupied co.tables co.in_range n.proxies.free co.taken in
        let of_class = subst (λ d. TakesNext (paging_at h) (held_in h) (order_of (classes (paging_at h)) (tables_in h) n.proxies.free) d a
        (order_of (classes (paging_at h)) (tables_in n) n.proxies.free)) (sym co.class) next in
        let old = subst (λ s. TakesNext (paging_at h) (held_in h) (order_of s (tables_in h) n.proxies.free) (class_for (paging_at h) bytes) a
        (order_of s (tables_in n) n.proxies.free)) (sym (as_many (paging_at h) (table_is h k))) of_class in
        subst (λ s. TakesNext (paging_at h) (held_in h) (order_of (length h.classes.sizes) (tables_in h) n.proxies.free) (class_for (paging_at h) bytes) a
        (order_of s (tables_in n) n.proxies.free)) (sym (ap (λ (x : Heap). length x.classes.sizes) co.rest)) old;
  }

  pub comes_chosen : IfSome (place_of (state_of n) q)
      (λ b. MallocFollows (paging_at h) (held_in h) (record { number = q; length = bytes }) b (order_in h) (order_in n))
  comes_chosen =
      let there : place_of (state_of n) q ≡ Some a =
      ap (λ (m : Held). option_map (λ (x : Placed). x.place) (get m q)) (held_is h n k after becomes)
      ∙ ap (option_map (λ (x : Placed). x.place)) (get_inserted (held_in h) q (zeros_at a bytes)) in
      subst (λ (o : Option ℕ). IfSome o (λ b. MallocFollows (paging_at h) (held_in h) (record { number = q; length = bytes }) b (order_in h) (order_in n)))
      (sym there) follows

  pub comes_given : AddsObject (state_of h) (record { number = q; length = bytes }) (state_of n)
  comes_given = record {
    fits = co.fits;
    few = (let e = held_len (owner_in h) in let f = co.few in omega arith);
    in_range = (let lt = co.below in let e = k.numbers in omega arith);
    unused = none;
    place = a;
    placed = placed_in h.kind (paged_kind h k) (state_of h) (record { number = q; length = bytes }) a (state_of n) free;
    whole = becomes_state h n k after becomes
        ∙ ap (λ fs. record (state_of h) { held = after; words = n.words; frames = fs; order = (state_of n).order; cost = n.cost }) co.frames;
  }
