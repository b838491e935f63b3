-- For `malloc` and `has_room`: after a slot is taken and an object is bound to it and counted, the heap is valid and has the new object, as its order
-- determines; each test for a refusal means its cause in the model; the steps are those of the model; and the slot's address and the counts are in range.
use Rattle.std.proofs.Common.{◌≡◌, ◌≢◌, ℕ, ◌+◌, ◌*◌, ◌<◌, ◌≤◌, List, length, get_or, set, replicate, ◌∷◌, Some, None, Ok, arith, refl, sym, ◌∙◌, ap}
use Rattle.std.proofs.Common.{subst, inl, inr}
use Rattle.std.specs.Prelude.{◌↔◌, Bool, IsTrue, false, nat_eq, option_map}
use Rattle.std.proofs.lemmas.Bool.{cases_lt, false≢true}
use Rattle.std.proofs.lemmas.List.{get_or-set_same, get_or-set_other, length-replicate, length-set, nil_from_length}
use Rattle.std.specs.FinMap.{get, insert, len}
use Rattle.cf_base.specs.Classes.{class_of, need, slots}
use Rattle.cf_base.specs.declared.results.Handle.{Handle}
use Rattle.cf_base.proofs.Maps.{some_inserted}
use Rattle.cf_base.proofs.MapValues.{get-map_values}
use Rattle.cf_base.proofs.Ranges.{one}
use Rattle.cf_base.proofs.Tallies.{counted_in}
use Rattle.class_lists.specs.PageLists.{pages_in}
use Rattle.class_lists.specs.declared.Which.TheVariants.{NotFull}
use Rattle.page_model.specs.Arrangement.{LacksRoom, live, pages_needed, pages_needed_with}
use Rattle.page_model.specs.Bytes.{AreBytes}
use Rattle.page_model.specs.Figures.{asked_bytes, taken_bytes}
use Rattle.page_model.specs.Held.{Held, Placed, objects}
use Rattle.page_model.specs.Image.{IsOutside, Rewrites, header_word}
use Rattle.page_model.specs.Order.{MallocFollows, TakesNext, steps_to_take}
use Rattle.page_model.specs.Paging.{class_for, classes, slot_words, slots_of}
use Rattle.page_model.specs.Steps.{IsFreePlace, zeros_at}
use Rattle.page_model.proofs.CallerLemmas.{asked_added, live_added, malloc_objects, malloc_places, slot_inside, taken_added, zeros_are_bytes, live_few}
use Rattle.page_model.proofs.CallerLemmas.{class_of_zeros}
use Rattle.page_slots.specs.Tables.{AreTables, Tables}
use Rattle.page_slots.specs.Take.{TakesAt, TakesSlot, take_slot_steps as table_take}
use Rattle.page_slots.specs.Occupying.{Occupies, FitPages, class_table}
use Rattle.page_slots.specs.Orders.{order_of}
use Rattle.page_pool.proofs.CallerLemmas.{some_free}
use Rattle.page_slots.proofs.CallerLemmas.{class_is, free_bare, free_page, not_full_pages_are, refused_lacks_room, steps_same, taken_is_free, taken_next, taken_occupied, taken_serve}
use Rattle.proxy_table.specs.Proxies.{AreBelowLimit, with_place}
use Rattle.size_classes.specs.Table.{ClassTable}
use Rattle.slice_model.specs.State.{IsPlaceFor, Sliced, job_slot, occupied}
use Rattle.slice_model.specs.Steps.{AddsSlicedObject, IsSlicedRefusedBy, LacksSlicedProxy, LacksSlicedSpace, LacksUsableSlot}
use Rattle.slice_model.specs.declared.refusals.SliceRefusal.{SliceRefusal}
use Rattle.slice_model.specs.declared.refusals.SliceRefusal.TheVariants as refusal
use Rattle.slice_model.specs.Ordered.{MallocsInOrder}
use Rattle.slice_model.proofs.CallerLemmas.{free_is_place, get_beside, inserted_beside, kept_malloc, lacking_is_no_place, no_place_is_lacking, words_given}
use Rattle.step_ledger.specs.Counting.{RoseBy}
use Rattle.step_ledger.proofs.CallerLemmas.{rose_both, rose_by}
use Rattle.sliced_heap.specs.Costs.{sliced_malloc_cost}
use Rattle.sliced_heap.specs.Heap.{Heap}
use Rattle.sliced_heap.specs.Layout.{IsValid, opens, plan_of, sliced_order_in, sliced_paging, sliced_state_of, sliced_tables_in, working_of}
use Rattle.sliced_heap.proofs.Counts.{needed_added, needed_more}
use Rattle.sliced_heap.proofs.Facts.{few_classes, held_bytes, held_len, no_place, paging_ok, places_are, plan_ok, table_is}
use Rattle.sliced_heap.proofs.Preserved.{Becomes, becomes_state, becomes_valid}

-- setting one word of the region changes no other word
pub one_word : (words : List ℕ) (a v : ℕ) → a < length words → Rewrites words (set words a v) (record { from = a; count = 1 }) (λ _. v)
one_word words a v lt = record {
  within = λ i low. (let e : a ≡ a + i = omega arith in subst (λ w. get_or (set words a v) w 0 ≡ v) e (get_or-set_same words a v 0 lt));
  others = λ w out. get_or-set_other words a w v 0 (other w out);
}
  where
    other : (w : ℕ) → IsOutside a 1 w → w ≢ a
    other w (inl l) e = omega arith
    other w (inr r) e = omega arith

-- without a partly full page of class c and without a free page the tables have no slot for it
pub no_slots : (h : Heap) (c : ℕ) → length (pages_in h.lists c NotFull) + length h.pool.free ≡ 0 → TakesSlot h.classes (sliced_tables_in h) c None (sliced_tables_in h)
no_slots h c none = (nil_from_length (pages_in h.lists c NotFull) (omega arith), nil_from_length h.pool.free (omega arith), refl)

-- with one of them there is room beside the job
slot_is_room : (h : Heap) (k : IsValid h) (c : ℕ) → 1 ≤ length (pages_in h.lists c NotFull) + length h.pool.free
    → LacksRoom (sliced_paging h) (occupied (plan_of h) (sliced_state_of h)) c → ⊥
slot_is_room h k c some l = elim (cases_lt 0 (length (pages_in h.lists c NotFull))) [
  | inl lt ↦ (
      let e = not_full_pages_are (sliced_paging h) (paging_ok h k) (occupied (plan_of h) (sliced_state_of h)) (sliced_tables_in h) k.serve.part k.occupied c in
      let z = l.full in
      absurd (omega arith))
  | inr none ↦ (
      let p = sliced_paging h in
      let first = some_free h.pool.free (omega arith) in
      let below = k.serve.part.tables.pool.below first.0 first.1 in
      let free = free_page (class_table p) (sliced_tables_in h) k.serve.part.tables first.0 below first.1 in
      let bare = free_bare p (paging_ok h k) (sliced_tables_in h) k.serve.part (occupied (plan_of h) (sliced_state_of h)) k.occupied first.0 free in
      let stands = l.taken first.0 (let e = k.serve.part.pages in omega arith) in
      absurd (omega arith))
]

module _ (h : Heap) (k : IsValid h) (bytes c : ℕ) (found : Some c ≡ class_of h.classes.sizes bytes) where
  is : (need bytes ≤ h.settings.page_words) × (class_for (sliced_paging h) bytes ≡ c) × (c < classes (sliced_paging h))
  is = class_is (paging_ok h k) (table_is h k) bytes c found

  pub class_counted : c < length h.live
  class_counted = (let few = few_classes h k in let lt = is.2 in let long = k.live_long in omega arith)

  pub live_room : get_or h.live c 0 ≤ 65536
  live_room =
      let e = k.counted c is.2 in
      let l = live_few (sliced_paging h) (sliced_state_of h).held c in
      let n = held_len h k in
      let f = k.handles.few in
      let limit = k.numbers in
      let few = h.settings.few_proxies in
      omega arith

  -- the pages that the objects with the new one need, computed from the heap's counts
  pub needed_is : pages_needed_with (sliced_paging h) (objects (sliced_state_of h).held) bytes
      ≡ h.needed + opens (slots h.classes.page_words h.classes.sizes c) (get_or h.live c 0)
  needed_is =
      let lt : class_for (sliced_paging h) bytes < classes (sliced_paging h) = rw is.1 is.2 in
      needed_more (sliced_paging h) (paging_ok h k) (objects (sliced_state_of h).held) bytes lt
      ∙ ap (λ d. pages_needed (sliced_paging h) (objects (sliced_state_of h).held) + opens (slots_of (sliced_paging h) d)
      (live (sliced_paging h) (objects (sliced_state_of h).held) d)) is.1
      ∙ ap (λ l. pages_needed (sliced_paging h) (objects (sliced_state_of h).held) + opens (slots_of (sliced_paging h) c) l) (sym (k.counted c is.2))
      ∙ ap (λ n. n + opens (slots_of (sliced_paging h) c) (get_or h.live c 0)) (sym k.needed)
      ∙ ap (λ (t : ClassTable). h.needed + opens (slots t.page_words t.sizes c) (get_or h.live c 0)) (sym k.table)

  pub lacks_proxy : len h.proxies.places ≡ h.settings.proxies → LacksSlicedProxy (plan_of h) (sliced_state_of h) bytes
  lacks_proxy all = record { fits = is.0; all = held_len h k ∙ all }

  module _ (ne : len h.proxies.places ≢ h.settings.proxies) where
    pub few : len (sliced_state_of h).held < h.settings.proxies
    few = (let e = held_len h k in let f = k.handles.few in let n = k.numbers in omega arith)

    pub lacks_space : h.settings.pages < h.needed + opens (slots h.classes.page_words h.classes.sizes c) (get_or h.live c 0)
        → LacksSlicedSpace (plan_of h) (sliced_state_of h) bytes
    lacks_space over = record { fits = is.0; few = few; over = (let e = needed_is in omega arith) }

    module _ (within : h.needed + opens (slots h.classes.page_words h.classes.sizes c) (get_or h.live c 0) ≤ h.settings.pages) where
      -- with a slot a malloc has no cause for a refusal
      pub not_refused : 1 ≤ length (pages_in h.lists c NotFull) + length h.pool.free → (e : SliceRefusal) → IsSlicedRefusedBy (plan_of h) (sliced_state_of h) bytes e → ⊥
      not_refused some refusal.Size cause = (let fits = is.0 in absurd (omega arith))
      not_refused some refusal.Proxy cause = ne (sym (held_len h k) ∙ cause.all)
      not_refused some refusal.Space cause = (let e = needed_is in let over = cause.over in absurd (omega arith))
      not_refused some refusal.Busy cause =
          let lt : class_for (sliced_paging h) bytes < classes (sliced_paging h) = rw is.1 is.2 in
          slot_is_room h k c some (subst (LacksRoom (sliced_paging h) (occupied (plan_of h) (sliced_state_of h))) is.1
          (no_place_is_lacking (plan_of h) (plan_ok h k) (sliced_state_of h) k.kept (class_for (sliced_paging h) bytes) lt cause.lacking))

      pub lacks_slot : (new : Tables) → TakesSlot h.classes (sliced_tables_in h) c None new → LacksUsableSlot (plan_of h) (sliced_state_of h) bytes
      lacks_slot new none =
          let t : TakesSlot (class_table (sliced_paging h)) (sliced_tables_in h) c None new =
          subst (λ t. TakesSlot t (sliced_tables_in h) c None new) (sym (table_is h k)) none in
          let lacks = refused_lacks_room (paging_ok h k) k.serve.part k.occupied k.serve.whole c new t in
          record {
            fits = is.0;
            few = few;
            within = (let e = needed_is in omega arith);
            lacking = lacking_is_no_place (plan_of h) (plan_ok h k) (sliced_state_of h) k.kept (class_for (sliced_paging h) bytes)
                (subst (LacksRoom (sliced_paging h) (occupied (plan_of h) (sliced_state_of h))) (sym is.1) lacks);
          }

      -- a malloc that finds no slot looks for one in two steps
      pub lacks_takes : (new : Tables) → TakesSlot h.classes (sliced_tables_in h) c None new → (s t u : ℕ) → RoseBy s t 1
          → RoseBy t u (table_take h.classes (sliced_tables_in h) c) → RoseBy s u 3
      lacks_takes new none s t u one rest =
          let parts = none.0 in
          let pages = none.1 in
          let is : table_take h.classes (sliced_tables_in h) c ≡ 2 = rw (table_take, parts, pages) refl in
          rose_by s u (1 + table_take h.classes (sliced_tables_in h) c) 3 (omega arith) (rose_both s t u 1 _ one rest)

      -- a slot is taken
      module _ (new : Tables) (a : ℕ) (t : TakesAt h.classes (sliced_tables_in h) c a new) (tables : AreTables h.classes new) where
        at_table : TakesAt (class_table (sliced_paging h)) (sliced_tables_in h) c a new
        at_table = subst (λ t. TakesAt t (sliced_tables_in h) c a new) (sym (table_is h k)) t

        of_table : AreTables (class_table (sliced_paging h)) new
        of_table = subst (λ t. AreTables t new) (sym (table_is h k)) tables

        -- the steps of finding the class, of taking the slot and of `bind` sum to those of the malloc
        pub malloc_takes : (q : Handle) (s u v w : ℕ) → RoseBy s u 1 → RoseBy u v (table_take h.classes (sliced_tables_in h) c) → RoseBy v w 3
            → RoseBy s w (sliced_malloc_cost (plan_of h) (sliced_state_of h) (sliced_order_in h) bytes (Ok q))
        malloc_takes q s u v w first slot last =
            let by_order = steps_same k.serve.part k.occupied is.2 h.proxies.free a new at_table in
            let same : table_take h.classes (sliced_tables_in h) c
            ≡ steps_to_take (sliced_paging h) (occupied (plan_of h) (sliced_state_of h)) (sliced_order_in h) (class_for (sliced_paging h) bytes) =
            ap (λ t. table_take t (sliced_tables_in h) c) (sym (table_is h k)) ∙ by_order
            ∙ ap (steps_to_take (sliced_paging h) (occupied (plan_of h) (sliced_state_of h)) (sliced_order_in h)) (sym is.1) in
            rose_by s w (1 + table_take h.classes (sliced_tables_in h) c + 3) (sliced_malloc_cost (plan_of h) (sliced_state_of h) (sliced_order_in h) bytes (Ok q)) (omega arith)
            (rose_both s v w _ 3 (rose_both s u v 1 _ first slot) last)

        free : IsFreePlace (sliced_paging h) (occupied (plan_of h) (sliced_state_of h)) bytes a
        free = taken_is_free (paging_ok h k) k.serve.part k.occupied of_table is.2 at_table bytes is.1

        -- the slot's address is in the region
        pub place_inside : a < length h.words
        place_inside =
            let inside = slot_inside (sliced_paging h) (class_for (sliced_paging h) bytes) a free.slot in
            let least = (paging_ok h k).sized.least (class_for (sliced_paging h) bytes) free.slot.class in
            let long = k.words_long in
            omega arith

        -- the object is bound to the slot and counted
        module _ (n : Heap) (q : ℕ) (unused : get h.proxies.places q ≡ None) (below : q < h.proxies.limit) (handles : AreBelowLimit n.proxies)
            (first : h.proxies.free ≡ q ∷ n.proxies.free)
            (on : sliced_tables_in n ≡ new) (rest : n ≡ record h {
              maps = n.maps;
              lists = n.lists;
              pool = n.pool;
              proxies = with_place h.proxies q a;
              words = set h.words a (header_word q bytes);
              live = set h.live c (get_or h.live c 0 + 1);
              needed = h.needed + opens (slots h.classes.page_words h.classes.sizes c) (get_or h.live c 0);
              asked = h.asked + bytes;
              taken = h.taken + 8 * get_or h.classes.sizes c 0;
            }) where
          abbrev m : Held
          m = (sliced_state_of h).held

          abbrev s : Sliced
          s = record { held = insert m q (zeros_at a bytes); job = h.job }

          none : get m q ≡ None
          none = no_place h k q unused

          in_range : q < h.settings.proxies
          in_range = (let e = k.numbers in omega arith)

          is_place : IsPlaceFor (sliced_paging h) (sliced_state_of h) (class_for (sliced_paging h) bytes) a
          is_place = free_is_place (plan_of h) (plan_ok h k) (sliced_state_of h) k.kept bytes a free

          gives : AddsSlicedObject (plan_of h) (sliced_state_of h) (record { number = q; length = bytes }) s
          gives = record {
            fits = is.0;
            few = few;
            in_range = in_range;
            unused = none;
            place = a;
            free = is_place;
            placed = refl;
          }

          objects_are : objects (insert m q (zeros_at a bytes)) ≡ insert (objects m) q (replicate bytes 0)
          objects_are = malloc_objects m q a bytes

          no_bytes : get (objects m) q ≡ None
          no_bytes = get-map_values (λ (x : Placed). x.bytes) m q ∙ ap (option_map (λ (x : Placed). x.bytes)) none

          writes : Rewrites h.words n.words (record { from = a; count = 1 }) (λ _. header_word q bytes)
          writes = subst (λ w. Rewrites h.words w (record { from = a; count = 1 }) (λ _. header_word q bytes)) (sym (ap (λ (z : Heap). z.words) rest))
              (one_word h.words a (header_word q bytes) place_inside)

          stands : Occupies (sliced_paging h) (occupied (plan_of h) s) new
          stands = subst (λ o. Occupies (sliced_paging h) o new) (inserted_beside (plan_of h) m (job_slot h.job) q (zeros_at a bytes) in_range)
              (taken_occupied (paging_ok h k) k.serve.part k.occupied of_table is.2 at_table q (zeros_at a bytes)
              (get_beside (plan_of h) m (job_slot h.job) q in_range ∙ none) refl (class_of_zeros (sliced_paging h) a bytes c is.1))

          becomes : Becomes h n s
          unfolding gives
          becomes = record {
            settings = ap (λ (z : Heap). z.settings) rest;
            quantum = ap (λ (z : Heap). z.quantum) rest;
            table = ap (λ (z : Heap). z.classes) rest;
            job = ap (λ (z : Heap). z.job) rest;
            long = ap (λ (z : Heap). length z.words) rest ∙ length-set h.words a (header_word q bytes);
            kept = kept_malloc (plan_of h) (plan_ok h k) (sliced_state_of h) k.kept (record { number = q; length = bytes }) s gives;
            words = words_given (plan_of h) (plan_ok h k) (sliced_state_of h) k.kept h.words n.words k.words (record { number = q; length = bytes }) s gives writes;
            bytes = λ r x there. elim (some_inserted m q (zeros_at a bytes) r x there) [
              | inl (_, same) ↦ subst (λ (z : Placed). AreBytes z.bytes) same (zeros_are_bytes bytes)
              | inr (_, was) ↦ held_bytes h k r x was
            ];
            addresses = ap (λ (z : Heap). z.proxies.places) rest ∙ ap (λ n. insert n q a) (places_are h k) ∙ sym (malloc_places m q a bytes);
            limit = ap (λ (z : Heap). z.proxies.limit) rest;
            handles = handles;
            serve = subst (FitPages (sliced_paging h)) (sym on) (taken_serve (paging_ok h k) k.serve.part k.occupied of_table is.2 at_table k.serve.whole);
            occupied = subst (Occupies (sliced_paging h) (occupied (plan_of h) s)) (sym on) stands;
            live_long = ap (λ (z : Heap). length z.live) rest ∙ length-set h.live c (get_or h.live c 0 + 1) ∙ k.live_long;
            counted = λ d lt. (
                let add = live_added (sliced_paging h) (objects m) q (replicate bytes 0) d no_bytes in
                let was = k.counted d lt in
                let all : live (sliced_paging h) (objects (insert m q (zeros_at a bytes))) d ≡ live (sliced_paging h) (insert (objects m) q (replicate bytes 0)) d =
                ap (λ o. live (sliced_paging h) o d) objects_are in
                let now = ap (λ (z : Heap). get_or z.live d 0) rest in
                let more = counted_in h.live c d class_counted in
                let same : one (nat_eq (class_for (sliced_paging h) (length (replicate {A = ℕ} bytes 0))) d) ≡ one (nat_eq c d) =
                ap (λ e. one (nat_eq e d)) (class_of_zeros (sliced_paging h) a bytes c is.1) in
                omega arith);
            needed = ap (λ (z : Heap). z.needed) rest ∙ sym (ap (pages_needed (sliced_paging h)) objects_are
                ∙ needed_added (sliced_paging h) (objects m) q (replicate bytes 0) no_bytes ∙ ap (pages_needed_with (sliced_paging h) (objects m)) (length-replicate {A = ℕ} bytes 0) ∙ needed_is);
            within = (let now = ap (λ (z : Heap). z.needed) rest in omega arith);
            asked = (
                let add = asked_added (objects m) q (replicate bytes 0) no_bytes in
                let all = ap asked_bytes objects_are in
                let now = ap (λ (z : Heap). z.asked) rest in
                let was = k.asked_all in
                let long = length-replicate {A = ℕ} bytes 0 in
                omega arith);
            taken = (
                let add = taken_added (sliced_paging h) (objects m) q (replicate bytes 0) no_bytes in
                let all = ap (taken_bytes (sliced_paging h)) objects_are in
                let now = ap (λ (z : Heap). z.taken) rest in
                let was = k.taken_all in
                let same = ap (slot_words (sliced_paging h)) (class_of_zeros (sliced_paging h) a bytes c is.1) in
                let words : get_or h.classes.sizes c 0 ≡ slot_words (sliced_paging h) c = ap (λ (t : ClassTable). get_or t.sizes c 0) k.table in
                omega arith);
          }

          pub given_valid : IsValid n
          given_valid = becomes_valid h n k s becomes

          state_now : sliced_state_of n ≡ s
          state_now = becomes_state h n k s becomes

          -- the number and the slot are the next ones
          follows : MallocFollows (sliced_paging h) (occupied (plan_of h) (sliced_state_of h)) (record { number = q; length = bytes }) a (sliced_order_in h) (sliced_order_in n)
          follows = record {
            rest = n.proxies.free;
            number = first;
            taken =
                let all = occupied (plan_of h) (sliced_state_of h) in
                let next = taken_next (paging_ok h k) k.serve.part k.occupied of_table is.2 n.proxies.free at_table in
                let of_class = subst (λ d. TakesNext (sliced_paging h) all (order_of (classes (sliced_paging h)) (sliced_tables_in h) n.proxies.free) d a
                (order_of (classes (sliced_paging h)) new n.proxies.free)) (sym is.1) next in
                let in_tables = subst (λ t. TakesNext (sliced_paging h) all (order_of (classes (sliced_paging h)) (sliced_tables_in h) n.proxies.free)
                (class_for (sliced_paging h) bytes) a (order_of (classes (sliced_paging h)) t n.proxies.free)) (sym on) of_class in
                subst (λ s. TakesNext (sliced_paging h) all (order_of (classes (sliced_paging h)) (sliced_tables_in h) n.proxies.free) (class_for (sliced_paging h) bytes) a
                (order_of s (sliced_tables_in n) n.proxies.free)) (sym (ap (λ (z : Heap). classes (sliced_paging z)) rest)) in_tables;
          }

          pub given_next : MallocsInOrder (plan_of h) (working_of h) (record { number = q; length = bytes }) (working_of n) (sliced_order_in h) (sliced_order_in n)
          given_next = record {
            mallocs = record {
              gives = record {
                fits = is.0;
                few = few;
                in_range = in_range;
                unused = none;
                place = a;
                free = is_place;
                placed = state_now;
              };
              words = writes;
            };
            follows = follows;
          }

-- if the test `is_over` fails, the pages are enough
pub within_of : (b : Bool) (x y : ℕ) → (IsTrue b ↔ (y < x)) → b ≡ false → x ≤ y
within_of b x y iff fails = elim (cases_lt y x) [
  | inl lt ↦ absurd (false≢true (sym fails ∙ iff.1 lt))
  | inr le ↦ le
]

-- heap t after the slot is taken, heap b after `bind`, heap n after `count_in`: the fields of n in terms of those of h
module _ (h t b n : Heap) (a q c w size : ℕ) (et : t ≡ record h { maps = t.maps; lists = t.lists; pool = t.pool })
    (eb : b ≡ record t { proxies = with_place t.proxies q a; words = set t.words a w })
    (en : n ≡ record b {
      live = set b.live c (get_or b.live c 0 + 1);
      needed = b.needed + opens (slots b.classes.page_words b.classes.sizes c) (get_or b.live c 0);
      asked = b.asked + size;
      taken = b.taken + 8 * get_or b.classes.sizes c 0;
    }) where
  with_tables : Tables → Heap
  with_tables u = record h {
    maps = u.maps;
    lists = u.lists;
    pool = u.pool;
    proxies = with_place h.proxies q a;
    words = set h.words a w;
    live = set h.live c (get_or h.live c 0 + 1);
    needed = h.needed + opens (slots h.classes.page_words h.classes.sizes c) (get_or h.live c 0);
    asked = h.asked + size;
    taken = h.taken + 8 * get_or h.classes.sizes c 0;
  }

  by_taken : n ≡ with_tables (sliced_tables_in t)
  unfolding with_tables
  by_taken = en ∙ ap (λ (b : Heap). record b {
    live = set b.live c (get_or b.live c 0 + 1);
    needed = b.needed + opens (slots b.classes.page_words b.classes.sizes c) (get_or b.live c 0);
    asked = b.asked + size;
    taken = b.taken + 8 * get_or b.classes.sizes c 0;
  }) (eb ∙ ap (λ (t : Heap). record t { proxies = with_place t.proxies q a; words = set t.words a w }) et)

  pub on_taken : sliced_tables_in n ≡ sliced_tables_in t
  unfolding with_tables
  on_taken = ap sliced_tables_in by_taken

  pub all_changes : n ≡ record h {
    maps = n.maps;
    lists = n.lists;
    pool = n.pool;
    proxies = with_place h.proxies q a;
    words = set h.words a w;
    live = set h.live c (get_or h.live c 0 + 1);
    needed = h.needed + opens (slots h.classes.page_words h.classes.sizes c) (get_or h.live c 0);
    asked = h.asked + size;
    taken = h.taken + 8 * get_or h.classes.sizes c 0;
  }
  unfolding with_tables
  all_changes = by_taken ∙ ap with_tables (sym on_taken)

-- the whole malloc, from the clauses of the functions that it calls
pub given_from : (h : Heap) (k : IsValid h) (bytes c : ℕ) → Some c ≡ class_of h.classes.sizes bytes → len h.proxies.places ≢ h.settings.proxies
    → h.needed + opens (slots h.classes.page_words h.classes.sizes c) (get_or h.live c 0) ≤ h.settings.pages → (t b n : Heap) (a q : ℕ)
    → TakesAt h.classes (sliced_tables_in h) c a (sliced_tables_in t) → AreTables h.classes (sliced_tables_in t) → t ≡ record h { maps = t.maps; lists = t.lists; pool = t.pool }
    → get t.proxies.places q ≡ None → q < t.proxies.limit
    → b ≡ record t { proxies = with_place t.proxies q a; words = set t.words a (header_word q bytes) } → AreBelowLimit b.proxies
    → t.proxies.free ≡ q ∷ b.proxies.free
    → n ≡ record b {
      live = set b.live c (get_or b.live c 0 + 1);
      needed = b.needed + opens (slots b.classes.page_words b.classes.sizes c) (get_or b.live c 0);
      asked = b.asked + bytes;
      taken = b.taken + 8 * get_or b.classes.sizes c 0;
    } → MallocsInOrder (plan_of h) (working_of h) (record { number = q; length = bytes }) (working_of n) (sliced_order_in h) (sliced_order_in n) × IsValid n
given_from h k bytes c found ne within t b n a q taken tables et unused below eb handles front en =
    let none : get h.proxies.places q ≡ None = sym (ap (λ (z : Heap). get z.proxies.places q) et) ∙ unused in
    let low : q < h.proxies.limit = (let e = ap (λ (z : Heap). z.proxies.limit) et in omega arith) in
    let good : AreBelowLimit n.proxies = subst AreBelowLimit (sym (ap (λ (z : Heap). z.proxies) en)) handles in
    let first : h.proxies.free ≡ q ∷ n.proxies.free = sym (ap (λ (z : Heap). z.proxies.free) et) ∙ front
    ∙ ap (λ xs. q ∷ xs) (sym (ap (λ (z : Heap). z.proxies.free) en)) in
    let on = on_taken h t b n a q c (header_word q bytes) bytes et eb en in
    let rest = all_changes h t b n a q c (header_word q bytes) bytes et eb en in (
      given_next h k bytes c found ne within (sliced_tables_in t) a taken tables n q none low good first on rest,
      given_valid h k bytes c found ne within (sliced_tables_in t) a taken tables n q none low good first on rest,
    )
