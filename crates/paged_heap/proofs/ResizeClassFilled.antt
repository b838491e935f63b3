-- For `resize_to_class`, a resize to another class that moves another object (the filler) to the old slot: there is a filler, it is the next one of the order,
-- its header holds its number, and its slot is apart from the old one; the heap after `leave_slot`, by its fields; and that this heap keeps its invariant.
use Rattle.std.proofs.Common.{◌≡◌, ◌≢◌, ℕ, ◌+◌, ◌/◌, ◌%◌, ◌^◌, ◌<◌, ◌≤◌, List, length, get_or, Some, None, arith, sym, ◌∙◌, ap, subst, inl, inr}
use Rattle.std.specs.Prelude.{◌⊎◌, IsSome, is_some}
use Rattle.std.proofs.lemmas.Bool.{cases_eq}
use Rattle.std.specs.Ordering.{nat_cmp}
use Rattle.std.specs.FinMap.{FinMap, get, insert, remove}
use Rattle.cf_base.proofs.Maps.{equal_maps, get_insert_other, get_inserted, get_remove_other, get_removed}
use Rattle.cf_base.proofs.MapValues.{map_values-insert}
use Rattle.page_model.specs.Held.{Placed, places}
use Rattle.page_model.specs.Image.{IsDisjoint, IsOutside, IsSlotImage, MovesWords, slot_for}
use Rattle.page_model.specs.Order.{SlotFollows, slot_freed}
use Rattle.page_model.specs.Paging.{classes, page_of, slot_words}
use Rattle.page_model.specs.Arrangement.{class_at}
use Rattle.page_model.specs.Steps.{MayFill, Moves, MustMove, without}
use Rattle.cf_base.proofs.Values.{still}
use Rattle.page_model.proofs.CallerLemmas.{mover_is_other, moved_places, image_after_change_and_move, object_inside, own_words, place_apart, sound_apart_from}
use Rattle.page_model.proofs.CallerLemmas.{header_shown}
use Rattle.cf_base.specs.Exchanges.{exchanged}
use Rattle.cf_model.specs.Steps.{frames_left}
use Rattle.virtual_words.specs.Words.{IsWhole}
use Rattle.proxy_table.specs.Proxies.{AreBelowLimit, Proxies, with_place}
use Rattle.page_slots.specs.Release.{FillsFrom}
use Rattle.size_classes.specs.Table.{ClassTable}
use Rattle.page_slots.specs.Tables.{AreTables, Tables}
use Rattle.page_slots.specs.Occupying.{Occupies, FitPages, class_table}
use Rattle.page_slots.specs.Orders.{order_of}
use Rattle.page_slots.proofs.CallerLemmas.{filled_occupied, filled_serve, filler, filler_in, filler_is, filler_may, filler_next, moves_some, as_many, places_are}
use Rattle.page_slots.proofs.CallerLemmas.{place_known, it_class, it_slot, must}
use Rattle.page_slots.proofs.CallerLemmas.{renumbered_occupied, vacated_order}
use Rattle.class_lists.specs.PageLists.{pages_in}
use Rattle.class_lists.specs.declared.Which.TheVariants.{NotFull}
use Rattle.paged_heap.specs.Heap.{Heap}
use Rattle.paged_heap.specs.declared.resize_class.Change.{Change}
use Rattle.paged_heap.specs.ResizeClass.{EntersAt, IsChange, old_words}
use Rattle.page_slots.specs.Leaving.{MovesSlot}
use Rattle.cf_base.specs.declared.results.Handle.{Handle}
use Rattle.paged_heap.proofs.LeftSlot.{Left, filled_rest, number_in, parts_of}
use Rattle.paged_heap.specs.Layout.{IsFramed, IsValid, held_in, paging_at, state_of, tables_in, owner_in}
use Rattle.paged_heap.proofs.ByKind.{frames_change}
use Rattle.paged_heap.proofs.WholeBlocks.{whole_slot}
use Rattle.paged_heap.proofs.LayoutFacts.{number_small, paging_ok, table_is, owns}
use Rattle.paged_heap.proofs.Preserved.{Becomes}
use Rattle.paged_heap.proofs.ResizeCopy.{untouched}
use Rattle.paged_heap.proofs.ResizeClass.{Keeps, after, after_is, both, both_occupied, both_sound, both_serve, changes, entered_long, found}
use Rattle.paged_heap.proofs.ResizeClass.{found_still, left}
use Rattle.paged_heap.proofs.ResizeClass.{middle, moves_before, must_still, new, new_free, object, place_free, rewritten, spare, spare_is_other, then_moved}
use Rattle.paged_heap.proofs.ResizeClass.{freed_same, next_same, order_between, unused}
use Rattle.page_slots.specs.Owner.{MustMoveInto}

-- two numbers can get their addresses in either order
pub placed_in_turn : (m : FinMap nat_cmp ℕ) (q r a b : ℕ) → r ≢ q → insert (insert m q b) r a ≡ insert (insert (remove m q) r a) q b
placed_in_turn m q r a b ne = equal_maps _ _ (λ t. elim (cases_eq t q) [
  | inl is ↦ rw is (get_insert_other (insert m q b) r a q (λ e. ne (sym e)) ∙ get_inserted m q b ∙ sym (get_inserted (insert (remove m q) r a) q b))
  | inr nq ↦ elim (cases_eq t r) [
    | inl is ↦ rw is (get_inserted (insert m q b) r a ∙ sym (get_insert_other (insert (remove m q) r a) q b r ne ∙ get_inserted (remove m q) r a))
    | inr nr ↦ get_insert_other (insert m q b) r a t nr ∙ get_insert_other m q b t nq
        ∙ sym (get_insert_other (insert (remove m q) r a) q b t nq ∙ get_insert_other (remove m q) r a t nr ∙ get_remove_other m q t nq)
  ]
])

module _ {h : Heap} (k : IsValid h) {x : Change} (is : IsChange h x) {b : ℕ} {n : Heap} (en : EntersAt h x b n)
    (moves : MustMoveInto (owner_in h) x.place x.class) where
  still_due : MustMove (paging_at h) (both k is en) (object k is en)
  still_due = must_still k is en (must (owns k) is.object moves)

  -- the old class has a partly full page, so there is an object that can fill the slot
  pub some_fills : 1 ≤ length (pages_in n.lists x.class NotFull)
  some_fills =
      let e = it_class (owns k) is.object in
      let l = moves_some (paging_ok h k) (both_serve k is en).part (both_occupied k is en) x.handle.0 (found_still k is en) still_due
      (let lt = is.object.in_range in omega arith) in
      subst (λ d. 1 ≤ length (pages_in n.lists d NotFull)) e l

-- The heap h becomes n when the resize x has put the object's copy at address b, in its new class. Another object is found that moves to the old slot (the
-- filler). The slot that the filler leaves, at f, is free in the tables t.
pub record Refills (h : Heap) (x : Change) (b : ℕ) (n : Heap) (f : ℕ) (t : Tables) : Type 0 where
  pub valid : IsValid h
  pub change : IsChange h x
  pub enters : EntersAt h x b n
  pub moves : MustMoveInto (owner_in h) x.place x.class
  pub filled : FillsFrom n.classes (tables_in n) x.class f t
  pub tables : AreTables n.classes t

module _ {h : Heap} {x : Change} {b : ℕ} {n : Heap} {f : ℕ} {t : Tables} (fs : Refills h x b n f t) where
  abbrev k : IsValid h
  k = fs.valid

  abbrev is : IsChange h x
  is = fs.change

  abbrev en : EntersAt h x b n
  en = fs.enters

  due : MustMove (paging_at h) (both k is en) (object k is en)
  due = still_due k is en fs.moves

  abbrev pub words : ℕ
  words = old_words h x

  fills : FillsFrom (class_table (paging_at h)) (tables_in n) (class_at (paging_at h) (object k is en)) f t
  fills = subst (λ d. FillsFrom (class_table (paging_at h)) (tables_in n) d f t) (sym (it_class (owns k) is.object))
      (subst (λ u. FillsFrom u (tables_in n) x.class f t) (en.classes ∙ sym (table_is h k)) fs.filled)

  kept_tables : AreTables (class_table (paging_at h)) t
  kept_tables = subst (λ u. AreTables u t) (en.classes ∙ sym (table_is h k)) fs.tables

  other : (r : ℕ) × (y : Placed) × (get (both k is en) r ≡ Some y) × (y.place ≡ f)
  other = filler (paging_ok h k) (both_serve k is en).part (both_occupied k is en) (filler_in fills)

  pub r : ℕ
  r = other.0

  y : Placed
  y = other.1

  there : get (both k is en) r ≡ Some y
  unfolding r y
  there = other.2

  at : y.place ≡ f
  unfolding y
  at = other.3

  may : MayFill (paging_at h) (both k is en) (object k is en) y
  may = filler_may (paging_ok h k) (both_serve k is en).part (both_occupied k is en) (object k is en) (filler_in fills) (both_sound k is en) r there at

  pub mover : Moves (paging_at h) (both k is en) (object k is en) (Some r)
  mover = (due, (y, there, may))

  -- the filler is the object that must move in the arrangement before the resize, too
  before : Moves (paging_at h) (held_in h) (object k is en) (Some r)
  before = moves_before k is en (Some r) mover

  stood : Placed
  stood = before.1.0

  stood_there : get (held_in h) r ≡ Some stood
  unfolding stood
  stood_there = before.1.1

  may_before : MayFill (paging_at h) (held_in h) (object k is en) stood
  unfolding stood
  may_before = before.1.2

  due_before : MustMove (paging_at h) (held_in h) (object k is en)
  due_before = before.0

  stood_at : stood.place ≡ f
  stood_at =
      let s = (still (held_in h) (spare k is en) (new k is en) (unused k is en) r stood stood_there).1 in
      let e : Some stood ≡ Some y = sym s ∙ there in
      let same : stood ≡ y = cc in
      ap (λ (z : Placed). z.place) same ∙ at

  not_spare : r ≢ spare k is en
  not_spare = (still (held_in h) (spare k is en) (new k is en) (unused k is en) r stood stood_there).0

  is_other : r ≢ x.handle.0
  is_other = mover_is_other (paging_at h) (paging_ok h k) (held_in h) k.sound x.handle.0 (object k is en) (found k is en) r stood stood_there due_before
      may_before

  same_slot : words ≡ slot_for (paging_at h) (length stood.bytes)
  same_slot = it_slot (owns k) is.object ∙ sym (ap (slot_words (paging_at h)) may_before.class)

  -- the words of the filler's slot are in the region, and apart from those of the old slot
  pub source_in : f + words ≤ length n.words
  source_in = (
      let l = object_inside (paging_at h) (held_in h) k.sound r stood stood_there in
      let e = same_slot in let p = stood_at in let long = k.words_long in let long' = entered_long k is en in
      omega arith)

  pub place_in : f < length n.words
  place_in = (
      let s = source_in in
      let e = it_slot (owns k) is.object in
      let least = (paging_ok h k).sized.least (class_at (paging_at h) (object k is en)) (k.sound.slots x.handle.0 (object k is en) (found k is en)).class in
      omega arith)

  pub slots_apart : (f + words ≤ x.place) ⊎ (x.place + words ≤ f)
  slots_apart =
      let d = sound_apart_from (paging_at h) (held_in h) k.sound r stood stood_there x.handle.0 (object k is en) (found k is en) (λ e. is_other (sym e)) in
      let e = same_slot in let g = it_slot (owns k) is.object in let p = stood_at in
      elim d [ inl l ↦ inl (omega arith) | inr l ↦ inr (omega arith) ]

  new_apart : IsDisjoint b (slot_for (paging_at h) x.bytes) f words
  new_apart =
      let d = place_apart (paging_at h) (paging_ok h k) (held_in h) k.sound x.bytes b (place_free k is en) (spare k is en) (unused k is en) r stood
      stood_there in
      let e = same_slot in let p = stood_at in
      elim d [ inl l ↦ inl (omega arith) | inr l ↦ inr (omega arith) ]

  words_some : 0 < words
  words_some = (
      let e = it_slot (owns k) is.object in
      let least = (paging_ok h k).sized.least (class_at (paging_at h) (object k is en)) (k.sound.slots x.handle.0 (object k is en) (found k is en)).class in
      omega arith)

  -- the filler's header holds its number
  pub number_shown : get_or n.words f 0 % 2 ^ 32 ≡ r
  number_shown =
      let small = number_small h k r stood stood_there in
      let few = h.settings.few_proxies in
      let some = words_some in
      let far : IsOutside x.place words f = elim slots_apart [ inl l ↦ inl (omega arith) | inr l ↦ inr l ] in
      let out : IsOutside b (slot_for (paging_at h) x.bytes) f = elim new_apart [ inl l ↦ inr l | inr l ↦ inl (omega arith) ] in
      let u = untouched k is (place_free k is en) en.words f far out in
      let t = header_shown (held_in h) h.words r stood (own_words (paging_at h) (paging_ok h k) (held_in h) k.sound h.words k.image) stood_there (omega arith) in
      ap (λ w. w % 2 ^ 32) u ∙ ap (λ i. get_or h.words i 0 % 2 ^ 32) (sym stood_at) ∙ t.0

  -- the filler is live
  pub live_still : IsSome (get n.proxies.places r)
  live_still = ap is_some (ap (λ (p : Proxies). get p.places r) en.proxies ∙ get_insert_other h.proxies.places x.handle.0 b r is_other
      ∙ place_known (owner_in h) r stood stood_there)

  far_from : IsDisjoint x.place words f words
  far_from = elim slots_apart [ inl l ↦ inr l | inr l ↦ inl l ]

  -- the words after the move
  module _ (last_words : List ℕ) (long : length last_words ≡ length n.words)
      (words_move : MovesWords n.words last_words (record { from = f; count = words }) x.place) where
    moves_words : MovesWords (middle k is en) last_words (record { from = stood.place; count = slot_for (paging_at h) (length stood.bytes) }) x.place
    moves_words =
        subst (λ s. MovesWords (middle k is en) last_words (record { from = stood.place; count = s }) x.place) same_slot
        (subst (λ p. MovesWords (middle k is en) last_words (record { from = p; count = words }) x.place) (sym stood_at)
        (then_moved k is en last_words f far_from words_move))

    image : IsSlotImage (paging_at h) (after k is en (Some r) mover) last_words
    image =
        let i = image_after_change_and_move (paging_at h) (paging_ok h k) (held_in h) k.sound h.words (middle k is en) last_words k.image k.words_long
        (long ∙ entered_long k is en ∙ k.words_long)
        x.handle.0 (object k is en) (found k is en) b ((new k is en).bytes) (new_free k is en) (spare k is en) (unused k is en)
        (rewritten k is en) r stood stood_there due_before may_before moves_words in
        let e : get (held_in h) r ≡ Some stood = stood_there in
        subst (λ g. IsSlotImage (paging_at h) g last_words) (sym (after_is k is en (Some r) mover)) (rw e i)

  -- the filler's slot is that of whole blocks
  pub whole_source : IsWhole h.kind f
  whole_source = subst (IsWhole h.kind) stood_at (whole_slot h k r stood stood_there).0

  after_places : places (after k is en (Some r) mover) ≡ insert (insert h.proxies.places x.handle.0 b) r x.place
  after_places =
      ap places (after_is k is en (Some r) mover)
      ∙ map_values-insert (λ (z : Placed). z.place) (without (held_in h) x.handle.0 x.place (Some r)) x.handle.0 (new k is en)
      ∙ ap (λ g. insert g x.handle.0 b)
      (moved_places (paging_at h) (paging_ok h k) (held_in h) k.sound x.handle.0 (object k is en) (found k is en) r stood stood_there due_before may_before)
      ∙ sym (placed_in_turn (places (held_in h)) x.handle.0 r x.place b is_other)
      ∙ ap (λ g. insert (insert g x.handle.0 b) r x.place) (sym (places_are (owner_in h)))

  refilled : Occupies (paging_at h) (left k is en (Some r) mover) t
  refilled = filled_occupied (paging_ok h k) (both_serve k is en).part (both_occupied k is en) kept_tables x.handle.0 (found_still k is en) fills
      (both_sound k is en) r there at due

  new_stays : get (left k is en (Some r) mover) (spare k is en) ≡ Some (new k is en)
  new_stays =
      let e : get (both k is en) r ≡ Some y = there in
      rw e (get_insert_other (remove (both k is en) x.handle.0) r _ (spare k is en) (λ s. not_spare (sym s))
      ∙ get_remove_other (both k is en) x.handle.0 (spare k is en) (spare_is_other k is en) ∙ get_inserted (held_in h) (spare k is en) (new k is en))

  old_gone : get (left k is en (Some r) mover) x.handle.0 ≡ None
  old_gone =
      let e : get (both k is en) r ≡ Some y = there in
      rw e (get_insert_other (remove (both k is en) x.handle.0) r _ x.handle.0 (λ s. is_other (sym s)) ∙ get_removed (both k is en) x.handle.0)

  occupied : Occupies (paging_at h) (after k is en (Some r) mover) t
  occupied = renumbered_occupied refilled (spare k is en) new_stays x.handle.0
      (get_remove_other (left k is en (Some r) mover) (spare k is en) x.handle.0 (λ e. spare_is_other k is en (sym e)) ∙ old_gone)

  -- the heap m after the move, by its fields: those of n but for the tables, the words and the filler's address
  module _ {m : Heap}
      (whole : m ≡ record n { maps = m.maps; lists = m.lists; pool = m.pool; proxies = with_place n.proxies r x.place; words = m.words; frames = m.frames })
      (free : m.proxies.free ≡ n.proxies.free) (shift : MovesSlot (parts_of n) (parts_of m) f x.place words) (framed : IsFramed h.kind m) (on : tables_in m ≡ t)
      (handles : AreBelowLimit m.proxies) where
    pub keeps : Keeps k is en (Some r) mover m
    keeps = record {
      kind = ap (λ (o : Heap). o.kind) whole;
      settings = ap (λ (o : Heap). o.settings) whole;
      classes = ap (λ (o : Heap). o.classes) whole;
      bounds = ap (λ (o : Heap). o.bounds) whole;
      live = ap (λ (o : Heap). o.live) whole;
      asked = ap (λ (o : Heap). o.asked) whole;
      taken = ap (λ (o : Heap). o.taken) whole;
      limit = ap (λ (o : Heap). o.proxies.limit) whole;
    }

    -- the filler is the object that the order lists next to move, and its slot becomes free
    pub fill_follows : SlotFollows (paging_at h) (held_in h) (object k is en) (Some r) (order_between k is en)
        (order_of (length h.classes.sizes) (tables_in m) h.proxies.free)
    fill_follows =
        let p = paging_at h in let d = class_at p (object k is en) in
        let lt : d < classes p = (k.sound.slots x.handle.0 (object k is en) (found k is en)).class in
        let before = order_of (classes p) (tables_in n) h.proxies.free in
        let first = filler_next (paging_ok h k) (both_serve k is en).part (both_occupied k is en) lt h.proxies.free (filler_in fills) stood stood_at in
        let once = next_same k is en before d r stood stood_there first in
        let both_there = (still (held_in h) (spare k is en) (new k is en) (unused k is en) r stood stood_there).1 in
        let page : page_of p stood.place ≡ fills.page =
        (filler_is (paging_ok h k) (both_serve k is en).part (both_occupied k is en) (filler_in fills) (both_sound k is en) r both_there stood_at).1 in
        let freed_order : order_of (classes p) (tables_in m) h.proxies.free ≡ slot_freed p (held_in h) before d (page_of p stood.place) =
        ap (λ s. order_of (classes p) s h.proxies.free) on
        ∙ vacated_order (paging_ok h k) (both_serve k is en).part (both_occupied k is en) kept_tables lt h.proxies.free fills.vacates
        ∙ ap (slot_freed p (both k is en) before d) (sym page)
        ∙ freed_same k is en before (page_of p stood.place) in
        let slot : SlotFollows p (held_in h) (object k is en) (Some r) before (order_of (classes p) (tables_in m) h.proxies.free) =
        (stood, stood_there, once, freed_order) in
        subst (λ s. SlotFollows p (held_in h) (object k is en) (Some r) (order_of s (tables_in n) h.proxies.free) (order_of s (tables_in m) h.proxies.free))
        (sym (as_many (paging_at h) (table_is h k))) slot

    pub free_same : m.proxies.free ≡ h.proxies.free
    free_same = free ∙ en.free

    -- the frames are those that the model has
    pub frames_are : m.frames ≡ frames_left h.kind (state_of h) (record { held = after k is en (Some r) mover; moved = Some r })
    frames_are =
        let e : get (after k is en (Some r) mover) r ≡ Some (record { place = x.place; bytes = stood.bytes }) =
        ap (λ g. get g r) (after_is k is en (Some r) mover)
        ∙ get_insert_other (without (held_in h) x.handle.0 x.place (Some r)) x.handle.0 (new k is en) r is_other
        ∙ (let g : get (held_in h) r ≡ Some stood = stood_there in
        rw g (get_inserted (remove (held_in h) x.handle.0) r (record { place = x.place; bytes = stood.bytes }))) in
        shift.frames
        ∙ ap (λ fs. exchanged fs (f / 4) (x.place / 4) (words / 4)) en.frames
        ∙ ap (λ s. exchanged h.frames (f / 4) (x.place / 4) (s / 4)) same_slot
        ∙ ap (λ p. exchanged h.frames (p / 4) (x.place / 4) (slot_for (paging_at h) (length stood.bytes) / 4)) (sym stood_at)
        ∙ sym (frames_change h.kind h k.framed (after k is en (Some r) mover) r stood (record { place = x.place; bytes = stood.bytes }) stood_there e)

    pub changed_filled : Becomes h m (after k is en (Some r) mover)
    changed_filled = changes k is en (Some r) mover m keeps
        framed
        (ap (λ (o : Heap). o.proxies.places) whole ∙ ap (λ (p : Proxies). insert p.places r x.place) en.proxies ∙ sym after_places)
        (shift.long ∙ entered_long k is en)
        (image m.words shift.long shift.words)
        (subst (FitPages (paging_at h)) (sym on)
        (filled_serve (paging_ok h k) (both_serve k is en).part (both_occupied k is en) kept_tables x.handle.0 (found_still k is en) fills
        (both_serve k is en).whole))
        (subst (Occupies (paging_at h) (after k is en (Some r) mover)) (sym on) occupied)
        handles

-- The heap m after `leave_slot`, which begins at the heap n. Object i moves.
module _ {h : Heap} (k : IsValid h) {x : Change} (is : IsChange h x) {b : ℕ} {n : Heap} (en : EntersAt h x b n) (due : MustMoveInto (owner_in h) x.place x.class)
    {m : Heap} {i : Handle} (left : Left n x.class x.place (Some i) m) (tables : AreTables n.classes (tables_in m)) where
  abbrev pub refills : Refills h x b n left.done.from (tables_in m)
  refills = record { valid = k; change = is; enters = en; moves = due; filled = left.done.filled; tables = tables }

  pub number_is : i.0 ≡ r refills
  number_is = number_in left ∙ number_shown refills

  pub whole_is : m ≡ record n {
    maps = m.maps;
    lists = m.lists;
    pool = m.pool;
    proxies = with_place n.proxies (r refills) x.place;
    words = m.words;
    frames = m.frames;
  }
  whole_is = filled_rest left ∙ ap (λ j. record n {
    maps = m.maps;
    lists = m.lists;
    pool = m.pool;
    proxies = with_place n.proxies j x.place;
    words = m.words;
    frames = m.frames;
  }) number_is

  pub shift_is : MovesSlot (parts_of n) (parts_of m) left.done.from x.place (old_words h x)
  shift_is = subst (λ (t : ClassTable). MovesSlot (parts_of n) (parts_of m) left.done.from x.place (get_or t.sizes x.class 0)) en.classes left.done.moves
