-- For `resize_to_class`, a resize to another class: the heap while the object is in both slots, as two objects; and the heap after its old slot is freed, which
-- keeps its invariant and follows the order.
use Rattle.std.proofs.Common.{◌≡◌, ◌≢◌, ℕ, ◌+◌, ◌-◌, ◌<◌, ◌≤◌, List, ◌∷◌, length, get_or, set, Option, Some, None, arith, refl, sym, ◌∙◌, ap, subst, inr}
use Rattle.std.specs.Prelude.{if◌then◌else◌, nat_eq, not}
use Rattle.std.specs.List.{filter}
use Rattle.std.proofs.lemmas.List.{get_or-set_other, length-set}
use Rattle.std.specs.FinMap.{get, insert, remove}
use Rattle.cf_base.specs.declared.results.Resized.{Resized}
use Rattle.cf_base.proofs.Maps.{get_inserted}
use Rattle.cf_base.proofs.MapValues.{map_values-insert}
use Rattle.cf_base.proofs.Ranges.{one}
use Rattle.cf_base.proofs.Sums.{insert_again}
use Rattle.page_model.specs.Held.{Held, Placed, objects, places}
use Rattle.page_model.specs.Bytes.{AreStorable}
use Rattle.page_model.specs.Paging.{class_for, classes, page_of, slot_words, slots_of}
use Rattle.page_model.specs.Arrangement.{class_at, IsSound, live, not_full_pages, objects_on}
use Rattle.page_model.specs.Image.{Clears, IsDisjoint, IsSlotImage, MovesWords, Rewrites, object_word, slot_for}
use Rattle.page_model.specs.Figures.{asked_bytes, taken_bytes}
use Rattle.page_model.specs.Order.{IsNextToMove, Order, ResizeFollows, SlotFollows, TakesNext, not_full_in, slot_freed, with_not_full}
use Rattle.page_model.specs.Steps.{ChangesClass, IsFreePlace, RefitsObject as IsResizedBy, Moves, MustMove, Request, resized_at, without}
use Rattle.cf_base.proofs.Values.{still}
use Rattle.page_model.proofs.CallerLemmas.{not_full-same, free_objects, objects_on-elsewhere, sound_placed}
use Rattle.page_model.proofs.CallerLemmas.{change_is, class-resized, length-resized, sound_resize, storable_added, storable_without}
use Rattle.size_classes.specs.Table.{ClassTable}
use Rattle.proxy_table.specs.Proxies.{AreBelowLimit}
use Rattle.page_slots.specs.Tables.{IsUsed, page_at, slot_at}
use Rattle.page_slots.specs.Occupying.{Occupies, FitPages, class_table}
use Rattle.page_slots.specs.Orders.{order_of}
use Rattle.page_slots.proofs.CallerLemmas.{taken_next, taken_occupied, taken_serve, it, it_found, it_class, it_slot, it_bytes, as_many}
use Rattle.cf_model.specs.Steps.{ResizesObject, frames_left, number_of}
use Rattle.paged_heap.specs.Heap.{Heap}
use Rattle.paged_heap.specs.declared.resize_class.Change.{Change}
use Rattle.paged_heap.specs.ResizeClass.{EntersAt, IsChange, old_words}
use Rattle.paged_heap.specs.Layout.{IsFramed, IsValid, held_in, order_in, paging_at, state_of, tables_in}
use Rattle.paged_heap.proofs.LayoutFacts.{few_classes, paged_kind, paging_ok, sizes_are, table_is, owns}
use Rattle.paged_heap.proofs.Preserved.{Becomes, becomes_kept, becomes_state, held_is, rest_from, stored}
use Rattle.cf_base.proofs.Tallies.{counted_in, counted_out}
use Rattle.paged_heap.proofs.TwoWrites.{between, cleared_then, moved_then, written_first}
use Rattle.paged_heap.proofs.ResizeCopy.{are_now, arrived, carried_long, untouched}
use Rattle.paged_heap.proofs.ResizeEnter.{at_table, is_free, new_inside, none_spare, of_table, slots_apart}
use Rattle.paged_heap.proofs.FreedObject.{asked_some, live_some, taken_some}
use Rattle.paged_heap.proofs.ObjectWords.{few}
use Rattle.paged_heap.proofs.WriteLemmas.{asked_changed, live_changed, taken_changed}

module _ {h : Heap} (k : IsValid h) {x : Change} (is : IsChange h x) {b : ℕ} {n : Heap} (en : EntersAt h x b n) where
  abbrev pub object : Placed
  object = it (owns k) is.object

  pub found : get (held_in h) x.handle.0 ≡ Some object
  found = it_found (owns k) is.object

  object_class : class_at (paging_at h) object ≡ x.class
  object_class = it_class (owns k) is.object

  pub place_free : IsFreePlace (paging_at h) (held_in h) x.bytes b
  place_free = is_free k is en.taken en.tables

  -- the object after the resize
  abbrev pub new : Placed
  new = resized_at b object x.bytes

  new_class : class_at (paging_at h) new ≡ x.to
  new_class = class-resized (paging_at h) b x.bytes object ∙ is.class

  pub new_free : IsFreePlace (paging_at h) (held_in h) (length new.bytes) b
  new_free = subst (λ m. IsFreePlace (paging_at h) (held_in h) m b) (sym (length-resized object.bytes x.bytes)) place_free

  -- both copies of the object are in one map; the new one has a number that no object has
  abbrev pub spare : ℕ
  spare = h.settings.proxies

  abbrev pub both : Held
  both = insert (held_in h) spare new

  pub unused : get (held_in h) spare ≡ None
  unused = none_spare h k

  pub spare_is_other : spare ≢ x.handle.0
  spare_is_other e = absurd (let z : Some object ≡ None = sym found ∙ ap (get (held_in h)) (sym e) ∙ unused in cc)

  pub found_still : get both x.handle.0 ≡ Some object
  found_still = (still (held_in h) spare new unused x.handle.0 object found).1

  pub both_sound : IsSound (paging_at h) both
  both_sound = sound_placed (paging_at h) (held_in h) spare new unused (paging_ok h k) k.sound new_free

  pub both_serve : FitPages (paging_at h) (tables_in n)
  both_serve = taken_serve (paging_ok h k) k.serve.part k.occupied (of_table k is en.taken en.tables) is.in_range (at_table k is en.taken en.tables) k.serve.whole

  pub both_occupied : Occupies (paging_at h) both (tables_in n)
  both_occupied =
      taken_occupied (paging_ok h k) k.serve.part k.occupied (of_table k is en.taken en.tables) is.in_range (at_table k is en.taken en.tables)
      spare new unused refl new_class

  -- the object's old class has as many objects on each page as before
  same_on : (g : ℕ) → objects_on (paging_at h) both (class_at (paging_at h) object) g ≡ objects_on (paging_at h) (held_in h) (class_at (paging_at h) object) g
  same_on g = objects_on-elsewhere (paging_at h) (held_in h) spare new unused (class_at (paging_at h) object) g
      (inr (λ e. is.other (sym new_class ∙ e ∙ object_class)))

  same_not_full : not_full_pages (paging_at h) both (class_at (paging_at h) object) ≡ not_full_pages (paging_at h) (held_in h) (class_at (paging_at h) object)
  same_not_full = not_full-same (paging_at h) (held_in h) both (class_at (paging_at h) object) same_on

  pub must_still : MustMove (paging_at h) (held_in h) object → MustMove (paging_at h) both object
  must_still m = record { full = same_on _ ∙ m.full; several = m.several; many = same_not_full ∙ m.many }

  pub must_before : MustMove (paging_at h) both object → MustMove (paging_at h) (held_in h) object
  must_before m = record { full = sym (same_on _) ∙ m.full; several = m.several; many = sym same_not_full ∙ m.many }

  -- the order means the same for the old class with the new object and without it
  pub freed_same : (o : Order) (g : ℕ) → slot_freed (paging_at h) both o (class_at (paging_at h) object) g
      ≡ slot_freed (paging_at h) (held_in h) o (class_at (paging_at h) object) g
  freed_same o g =
      let c = class_at (paging_at h) object in
      ap (λ z. if nat_eq z 1 then record (with_not_full o c (filter (λ other. not (nat_eq other g)) (not_full_in o c))) { pool = g ∷ o.pool }
      else if nat_eq z (slots_of (paging_at h) c) then with_not_full o c (g ∷ not_full_in o c) else o) (same_on g)

  pub next_same : (o : Order) (c q : ℕ) (y : Placed) → get (held_in h) q ≡ Some y → IsNextToMove (paging_at h) both o c y
      → IsNextToMove (paging_at h) (held_in h) o c y
  next_same o c q y there f = record {
    page = f.page;
    slot = f.slot;
    rest = f.rest;
    front = f.front;
    least = record {
      taken = (q, y, there, f.address);
      least = λ s lt (r, z, at, e). f.least.least s lt (r, z, (still (held_in h) spare new unused r z at).1, e);
    };
    address = f.address;
  }

  -- the order while both slots are taken
  abbrev pub order_between : Order
  order_between = order_of (length h.classes.sizes) (tables_in n) h.proxies.free

  takes_next : TakesNext (paging_at h) (held_in h) (order_in h) (class_for (paging_at h) x.bytes) b order_between
  takes_next =
      let next = taken_next (paging_ok h k) k.serve.part k.occupied (of_table k is en.taken en.tables) is.in_range h.proxies.free (at_table k is en.taken en.tables) in
      let of_class = subst (λ d. TakesNext (paging_at h) (held_in h) (order_of (classes (paging_at h)) (tables_in h) h.proxies.free) d b
      (order_of (classes (paging_at h)) (tables_in n) h.proxies.free)) (sym is.class) next in
      subst (λ s. TakesNext (paging_at h) (held_in h) (order_of s (tables_in h) h.proxies.free) (class_for (paging_at h) x.bytes) b
      (order_of s (tables_in n) h.proxies.free)) (sym (as_many (paging_at h) (table_is h k))) of_class

  pub old_used : IsUsed (tables_in n) x.class (page_at n.classes x.place) (slot_at n.classes x.class x.place)
  old_used =
      let u = both_occupied.stands x.handle.0 object found_still in
      let v : IsUsed (tables_in n) x.class (page_of (paging_at h) x.place) (slot_at (class_table (paging_at h)) x.class x.place) =
      subst (λ d. IsUsed (tables_in n) d (page_of (paging_at h) x.place) (slot_at (class_table (paging_at h)) d x.place)) object_class u in
      subst (λ (t : ClassTable). IsUsed (tables_in n) x.class (page_at t x.place) (slot_at t x.class x.place)) (table_is h k ∙ sym en.classes) v

  pub entered_long : length n.words ≡ length h.words
  entered_long = carried_long k is place_free en.words

  pub new_there : b + slot_for (paging_at h) x.bytes ≤ length n.words
  new_there = (let l = entered_long in let i = new_inside k is place_free in omega arith)

  -- the words with the new slot written, and the old one not cleared
  abbrev pub middle : List ℕ
  middle = between h.words n.words b (slot_for (paging_at h) x.bytes) x.place (old_words h x) (new_inside k is place_free) new_there
      (object_word x.handle.0 new.bytes) (slots_apart k is place_free)
      (arrived k is place_free en.words) (untouched k is place_free en.words)

  pub rewritten : Rewrites h.words middle (record { from = b; count = slot_for (paging_at h) (length new.bytes) }) (object_word x.handle.0 new.bytes)
  rewritten = subst (λ l. Rewrites h.words middle (record { from = b; count = slot_for (paging_at h) l }) (object_word x.handle.0 new.bytes))
      (sym (length-resized object.bytes x.bytes))
      (written_first h.words n.words b (slot_for (paging_at h) x.bytes) x.place (old_words h x) (new_inside k is place_free) new_there
      (object_word x.handle.0 new.bytes) (slots_apart k is place_free)
      (arrived k is place_free en.words) (untouched k is place_free en.words))

  pub then_cleared : (last : List ℕ) → Clears n.words last (record { from = x.place; count = old_words h x })
      → Clears middle last (record { from = x.place; count = slot_for (paging_at h) (length object.bytes) })
  then_cleared last c = subst (λ l. Clears middle last (record { from = x.place; count = l })) (it_slot (owns k) is.object)
      (cleared_then h.words n.words b (slot_for (paging_at h) x.bytes) x.place (old_words h x) (new_inside k is place_free) new_there
      (object_word x.handle.0 new.bytes) (slots_apart k is place_free)
      (arrived k is place_free en.words) (untouched k is place_free en.words) last c)

  pub then_moved : (last : List ℕ) (f : ℕ) → IsDisjoint x.place (old_words h x) f (old_words h x)
      → MovesWords n.words last (record { from = f; count = old_words h x }) x.place
      → MovesWords middle last (record { from = f; count = old_words h x }) x.place
  then_moved = moved_then h.words n.words b (slot_for (paging_at h) x.bytes) x.place (old_words h x) (new_inside k is place_free) new_there
      (object_word x.handle.0 new.bytes) (slots_apart k is place_free)
      (arrived k is place_free en.words) (untouched k is place_free en.words)

  -- after the resize, with the other object that moves, if one does
  module _ (moved : Option ℕ) (mv : Moves (paging_at h) both object moved) where
    abbrev pub asked : Request
    asked = record { number = x.handle.0; length = x.bytes }

    abbrev pub left : Held
    left = without both x.handle.0 x.place moved

    abbrev pub after : Held
    after = insert (remove left spare) x.handle.0 new

    step : ChangesClass (paging_at h) (held_in h) asked (record { held = after; moved = moved })
    step = record {
      object = object;
      found = found;
      other = λ e. is.other (sym is.class ∙ e ∙ object_class);
      place = b;
      free = place_free;
      spare = spare;
      unused = unused;
      left = left;
      freed = record { freed = object; found = found_still; moves = mv; left = refl };
      renamed = refl;
    }

    pub moves_before : Moves (paging_at h) (held_in h) object moved
    unfolding step
    moves_before = (change_is (paging_at h) (paging_ok h k) (held_in h) k.sound asked (record { held = after; moved = moved }) step).0

    pub after_is : after ≡ insert (without (held_in h) x.handle.0 x.place moved) x.handle.0 new
    unfolding step
    after_is = (change_is (paging_at h) (paging_ok h k) (held_in h) k.sound asked (record { held = after; moved = moved }) step).1

    after_sound : IsSound (paging_at h) after
    after_sound = sound_resize (paging_at h) (held_in h) asked (record { held = after; moved = moved }) (paging_ok h k) k.sound (inr step)

    objects_are : objects after ≡ insert (objects (held_in h)) x.handle.0 new.bytes
    objects_are =
        ap objects after_is ∙ map_values-insert (λ (y : Placed). y.bytes) (without (held_in h) x.handle.0 x.place moved) x.handle.0 new
        ∙ ap (λ o. insert o x.handle.0 new.bytes) (free_objects (paging_at h) (paging_ok h k) (held_in h) k.sound x.handle.0 object found moved moves_before)
        ∙ insert_again (objects (held_in h)) x.handle.0 new.bytes

    after_storable : AreStorable after
    after_storable = subst AreStorable (sym after_is)
        (storable_added (without (held_in h) x.handle.0 x.place moved) x.handle.0 new (storable_without (held_in h) x.handle.0 x.place moved (stored h k))
        (few k is.object) (are_now k is place_free en.words))

    counts : (d : ℕ) → d < classes (paging_at h) → get_or n.live d 0 ≡ live (paging_at h) (objects after) d
    counts d lt =
        let e = live_changed (paging_at h) (objects (held_in h)) x.handle.0 object.bytes new.bytes (it_bytes (owns k) is.object) d in
        let was = k.counted d lt in
        let all : live (paging_at h) (objects after) d ≡ live (paging_at h) (insert (objects (held_in h)) x.handle.0 new.bytes) d =
        ap (λ o. live (paging_at h) o d) objects_are in
        let now = ap (λ l. get_or l d 0) en.live in
        let long : length h.live ≡ 128 = k.live_long in
        let many = few_classes h k in
        let c_in : x.class < length h.live = (let r = is.object.in_range in omega arith) in
        let long' = length-set h.live x.class (get_or h.live x.class 0 - 1) in
        let d_in : x.to < length (set h.live x.class (get_or h.live x.class 0 - 1)) = (let r = is.in_range in omega arith) in
        let left = set h.live x.class (get_or h.live x.class 0 - 1) in
        let out = counted_out h.live x.class d c_in (live_some k is.object) in
        let same : get_or left x.to 0 ≡ get_or h.live x.to 0 = get_or-set_other h.live x.class x.to (get_or h.live x.class 0 - 1) 0 is.other in
        let more = counted_in left x.to d d_in in
        let at : get_or (set left x.to (get_or left x.to 0 + 1)) d 0 ≡ get_or (set left x.to (get_or h.live x.to 0 + 1)) d 0 =
        ap (λ v. get_or (set left x.to (v + 1)) d 0) same in
        let y : one (nat_eq (class_for (paging_at h) (length new.bytes)) d) ≡ one (nat_eq x.to d) = ap (λ e. one (nat_eq e d)) new_class in
        let z : one (nat_eq (class_for (paging_at h) (length object.bytes)) d) ≡ one (nat_eq x.class d) = ap (λ e. one (nat_eq e d)) object_class in
        omega arith

    -- the heap m is n but for its tables, its words and the addresses of its proxies
    pub record Keeps (m : Heap) : Type 0 where
      pub kind : m.kind ≡ n.kind
      pub settings : m.settings ≡ n.settings
      pub classes : m.classes ≡ n.classes
      pub bounds : m.bounds ≡ n.bounds
      pub live : m.live ≡ n.live
      pub asked : m.asked ≡ n.asked
      pub taken : m.taken ≡ n.taken
      pub limit : m.proxies.limit ≡ n.proxies.limit

    module _ (m : Heap) (same : Keeps m) where
      pub changes : IsFramed h.kind m → m.proxies.places ≡ places after → length m.words ≡ length h.words → IsSlotImage (paging_at h) after m.words
          → FitPages (paging_at h) (tables_in m) → Occupies (paging_at h) after (tables_in m) → AreBelowLimit m.proxies → Becomes h m after
      changes framed at long image serve occupied handles = record {
        framed = framed;
        rest = rest_from h m (same.kind ∙ en.kind) (same.settings ∙ en.settings) (same.classes ∙ en.classes) (same.bounds ∙ en.bounds);
        places = at;
        storable = after_storable;
        long = long;
        image = image;
        sound = after_sound;
        serve = serve;
        occupied = occupied;
        limit = same.limit ∙ ap (λ p. p.limit) en.proxies;
        handles = handles;
        live_long = ap length same.live ∙ ap length en.live
            ∙ length-set (set h.live x.class (get_or h.live x.class 0 - 1)) x.to (get_or h.live x.to 0 + 1)
            ∙ length-set h.live x.class (get_or h.live x.class 0 - 1) ∙ k.live_long;
        counted = λ d lt. ap (λ l. get_or l d 0) same.live ∙ counts d lt;
        asked_all = (
            let e = asked_changed (paging_at h) (objects (held_in h)) x.handle.0 object.bytes new.bytes (it_bytes (owns k) is.object) in
            let all = ap asked_bytes objects_are in let was = k.asked_all in let now = en.asked in let s = same.asked in
            let l = is.object.long in let l' = length-resized object.bytes x.bytes in
            let some = asked_some k is.object in
            omega arith);
        taken_all = (
            let e = taken_changed (paging_at h) (objects (held_in h)) x.handle.0 object.bytes new.bytes (it_bytes (owns k) is.object) in
            let all = ap (taken_bytes (paging_at h)) objects_are in let was = k.taken_all in let now = en.all_taken in let s = same.taken in
            let l = it_slot (owns k) is.object in
            let l' : slot_words (paging_at h) (class_for (paging_at h) (length new.bytes)) ≡ slot_words (paging_at h) x.to =
            ap (slot_words (paging_at h)) new_class in
            let l'' : get_or h.classes.sizes x.to 0 ≡ slot_words (paging_at h) x.to = ap (λ xs. get_or xs x.to 0) (sizes_are h k) in
            let some = taken_some k is.object in
            omega arith);
      }

      module _ (be : Becomes h m after) where
        pub change_kept : IsValid m
        change_kept = becomes_kept h m k after be

        pub change_resized : m.frames ≡ frames_left h.kind (state_of h) (record { held = after; moved = moved }) → (done : Resized)
            → done.old_slot_words ≡ get_or h.classes.sizes x.class 0 → done.slot_words ≡ get_or h.classes.sizes x.to 0 → number_of done.moved ≡ moved
            → ResizesObject (state_of h) asked done (state_of m)
        change_resized frames done was_words words none = record {
          pages = paged_kind h k;
          fits = is.fits;
          object = object;
          found = found;
          old_slot = was_words ∙ it_slot (owns k) is.object;
          slot = words ∙ ap (λ xs. get_or xs x.to 0) (sizes_are h k) ∙ ap (slot_words (paging_at h)) (sym is.class);
          step = subst (λ g. IsResizedBy (paging_at h) (held_in h) asked (record { held = g; moved = number_of done.moved })) (sym (held_is h m k after be))
              (subst (λ v. IsResizedBy (paging_at h) (held_in h) asked (record { held = after; moved = v })) (sym none) (inr step));
          left = ap objects (held_is h m k after be) ∙ objects_are;
          whole = becomes_state h m k after be
              ∙ ap (λ fs. record (state_of h) { held = after; words = m.words; frames = fs; order = (state_of m).order; cost = m.cost })
              (frames ∙ ap (λ v. frames_left h.kind (state_of h) (record { held = after; moved = v })) (sym none))
              ∙ ap (λ g. record (state_of h) {
                held = g;
                words = m.words;
                frames = frames_left h.kind (state_of h) (record { held = g; moved = number_of done.moved });
                order = (state_of m).order;
                cost = m.cost;
              }) (sym (held_is h m k after be));
        }

        -- the resize follows the order: it takes the next slot, then leaves the old one
        pub change_chosen : SlotFollows (paging_at h) (held_in h) object moved order_between (order_of (length h.classes.sizes) (tables_in m) h.proxies.free)
            → m.proxies.free ≡ h.proxies.free → (shown : Option ℕ) → shown ≡ moved
            → ResizeFollows (paging_at h) (held_in h) asked (record { held = held_in m; moved = shown }) (order_in h) (order_in m)
        change_chosen follows free shown none = record {
          object = object;
          found = found;
          stays = λ e. absurd (is.other (sym is.class ∙ e ∙ object_class));
          changes = λ _. (
            b,
            order_between,
            ap (λ g. get g x.handle.0) (held_is h m k after be) ∙ get_inserted (remove left spare) x.handle.0 new,
            takes_next,
            subst (λ v. SlotFollows (paging_at h) (held_in h) object v order_between (order_in m)) (sym none)
                (subst (SlotFollows (paging_at h) (held_in h) object moved order_between)
                (sym (ap (λ (t : ClassTable). order_of (length t.sizes) (tables_in m) m.proxies.free) (same.classes ∙ en.classes)
                ∙ ap (order_of (length h.classes.sizes) (tables_in m)) free)) follows),
          );
        }
