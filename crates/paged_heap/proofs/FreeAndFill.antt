-- For `free_object`, a free that moves another object to the freed slot: that object is the next one of the order, and its header holds its number; the heap
-- after `leave_slot`, by its fields; and that this heap keeps its invariant.
use Rattle.std.proofs.Common.{◌≡◌, ℕ, ◌/◌, ◌%◌, ◌^◌, ◌<◌, ◌∷◌, List, length, get_or, Some, arith, sym, ◌∙◌, ap, subst}
use Rattle.std.specs.FinMap.{get, insert, remove}
use Rattle.cf_base.proofs.Maps.{get_inserted}
use Rattle.cf_base.specs.Exchanges.{exchanged}
use Rattle.page_model.specs.Held.{Placed}
use Rattle.page_model.specs.Image.{IsSlotImage, MovesWords, slot_for}
use Rattle.page_model.specs.Paging.{classes, page_of}
use Rattle.page_model.specs.Arrangement.{class_at}
use Rattle.page_model.specs.Order.{FreeFollows, IsNextToMove, SlotFollows, slot_freed}
use Rattle.page_model.specs.Steps.{moved_to}
use Rattle.page_model.proofs.CallerLemmas.{moved_places, image_after_move, own_words, header_shown}
use Rattle.proxy_table.specs.Proxies.{AreBelowLimit, with_place, without_place}
use Rattle.cf_model.specs.Steps.{frames_left}
use Rattle.page_slots.specs.Release.{FillsFrom}
use Rattle.page_slots.specs.Tables.{AreTables, Tables}
use Rattle.page_slots.specs.Occupying.{Occupies, FitPages}
use Rattle.page_slots.proofs.CallerLemmas.{filled_occupied, filled_serve, filler_in, filler_is, filler_next, vacated_order, it, it_found, Fills, as_many, places_are}
use Rattle.page_slots.proofs.CallerLemmas.{must_fill, other_fills, kept_tables, other, other_object, other_found, other_at, other_may, mover, same_slot}
use Rattle.page_slots.specs.Orders.{order_of}
use Rattle.virtual_words.specs.Words.{IsWhole}
use Rattle.paged_heap.specs.Heap.{Heap}
use Rattle.paged_heap.specs.Layout.{IsFramed, IsValid, held_in, order_in, paging_at, state_of, tables_in, owner_in}
use Rattle.page_slots.specs.Leaving.{MovesSlot}
use Rattle.cf_base.specs.declared.results.Handle.{Handle}
use Rattle.paged_heap.proofs.ByKind.{frames_change}
use Rattle.paged_heap.proofs.WholeBlocks.{whole_slot}
use Rattle.paged_heap.proofs.LayoutFacts.{number_small, paging_ok, owns, table_is}
use Rattle.paged_heap.proofs.Preserved.{Becomes, rest_from}
use Rattle.paged_heap.proofs.FreedObject.{follows_from, goes, rest_held, taken_out}
use Rattle.paged_heap.proofs.LeftSlot.{Left, filled_rest, number_in, parts_of}
use Rattle.page_slots.specs.Owner.{IsObjectAt, MustMoveInto}

module _ {h : Heap} (k : IsValid h) {q a size c b : ℕ} {new : Tables} (f : Fills (owner_in h) q a size c b new) where
  abbrev o : IsObjectAt (owner_in h) q a size c
  o = f.object

  abbrev r : ℕ
  r = other f

  abbrev y : Placed
  y = other_object f

  abbrev pub words : ℕ
  words = get_or h.classes.sizes c 0

  -- the other object's header holds its number
  pub number_shown : get_or h.words b 0 % 2 ^ 32 ≡ r
  number_shown =
      let small = number_small h k r y (other_found f) in
      let few = h.settings.few_proxies in
      let t = header_shown (held_in h) h.words r y (own_words (paging_at h) (paging_ok h k) (held_in h) k.sound h.words k.image) (other_found f) (omega arith) in
      ap (λ i. get_or h.words i 0 % 2 ^ 32) (sym (other_at f)) ∙ t.0

  -- the words after the move
  module _ (left_words : List ℕ) (words_move : MovesWords h.words left_words (record { from = b; count = words }) a) where
    moves_words : MovesWords h.words left_words (record { from = y.place; count = slot_for (paging_at h) (length y.bytes) }) a
    moves_words =
        subst (λ s. MovesWords h.words left_words (record { from = y.place; count = s }) a) (same_slot f)
        (subst (λ p. MovesWords h.words left_words (record { from = p; count = words }) a) (sym (other_at f)) words_move)

    image : IsSlotImage (paging_at h) (moved_to (remove (held_in h) q) r (get (held_in h) r) a) left_words
    image =
        let i = image_after_move (paging_at h) (paging_ok h k) (held_in h) k.sound h.words k.image q (it (owns k) o) (it_found (owns k) o) left_words r y
        (other_found f) (must_fill f)
        (other_may f) moves_words in
        subst (λ z. IsSlotImage (paging_at h) (moved_to (remove (held_in h) q) r z a) left_words) (sym (other_found f)) i

  -- the other object's slot is that of whole blocks
  pub whole_source : IsWhole h.kind b
  whole_source = subst (IsWhole h.kind) (other_at f) (whole_slot h k r y (other_found f)).0

  -- the heap n after the free, by its fields: those of h, after what the free does, but for the tables
  module _ {n : Heap}
      (whole : n ≡ record (taken_out h q size c) {
        maps = n.maps;
        lists = n.lists;
        pool = n.pool;
        proxies = with_place (without_place h.proxies q) r a;
        words = n.words;
        frames = n.frames;
      })
      (moved : MovesSlot (parts_of h) (parts_of n) b a words) (framed : IsFramed h.kind n) (on : tables_in n ≡ new) (handles : AreBelowLimit n.proxies) where
    pub refilled : Becomes h n (rest_held k o n (Some r) (mover f))
    refilled = goes k o n (Some r) (mover f)
        (record { live = ap (λ (x : Heap). x.live) whole; asked = ap (λ (x : Heap). x.asked) whole; taken = ap (λ (x : Heap). x.taken) whole })
        (rest_from h n (ap (λ (x : Heap). x.kind) whole) (ap (λ (x : Heap). x.settings) whole) (ap (λ (x : Heap). x.classes) whole)
        (ap (λ (x : Heap). x.bounds) whole))
        (ap (λ (x : Heap). x.proxies.places) whole ∙ ap (λ m. insert (remove m q) r a) (places_are (owner_in h))
        ∙ sym (moved_places (paging_at h) (paging_ok h k) (held_in h) k.sound q (it (owns k) o) (it_found (owns k) o) r y (other_found f) (must_fill f)
        (other_may f)))
        moved.long
        (image n.words moved.words)
        framed
        (subst (FitPages (paging_at h)) (sym on) (filled_serve (paging_ok h k) k.serve.part k.occupied (kept_tables f) q (it_found (owns k) o)
        (other_fills f) k.serve.whole))
        (subst (Occupies (paging_at h) (moved_to (remove (held_in h) q) r (get (held_in h) r) a)) (sym on)
        (filled_occupied (paging_ok h k) k.serve.part k.occupied (kept_tables f) q (it_found (owns k) o) (other_fills f) k.sound r (other_found f)
        (other_at f) (must_fill f)))
        (ap (λ (x : Heap). x.proxies.limit) whole)
        handles

    -- the object that moves is the one that the order lists next, and its slot becomes free
    pub fill_follows : n.proxies.free ≡ q ∷ h.proxies.free → FreeFollows (paging_at h) (held_in h) q (Some r) (order_in h) (order_in n)
    fill_follows free =
        let p = paging_at h in let m = held_in h in let d = class_at p (it (owns k) o) in
        let lt : d < classes p = (k.sound.slots q (it (owns k) o) (it_found (owns k) o)).class in
        let before = order_of (classes p) (tables_in h) h.proxies.free in
        let first : IsNextToMove p m before d y = filler_next (paging_ok h k) k.serve.part k.occupied lt h.proxies.free (filler_in (other_fills f)) y
        (other_at f) in
        let page : page_of p y.place ≡ (other_fills f).page = (filler_is (paging_ok h k) k.serve.part k.occupied (filler_in (other_fills f)) k.sound r
        (other_found f) (other_at f)).1 in
        let freed_order : order_of (classes p) (tables_in n) h.proxies.free ≡ slot_freed p m before d (page_of p y.place) =
        ap (λ s. order_of (classes p) s h.proxies.free) on
        ∙ vacated_order (paging_ok h k) k.serve.part k.occupied (kept_tables f) lt h.proxies.free (other_fills f).vacates
        ∙ ap (slot_freed p m before d) (sym page) in
        let slot : SlotFollows p m (it (owns k) o) (Some r) before (order_of (classes p) (tables_in n) h.proxies.free) = (y, other_found f, first, freed_order) in
        follows_from k o n (Some r) (ap (λ (x : Heap). x.classes) whole) free
        (subst (λ s. SlotFollows p m (it (owns k) o) (Some r) (order_of s (tables_in h) h.proxies.free) (order_of s (tables_in n) h.proxies.free))
        (sym (as_many (paging_at h) (table_is h k))) slot)

    -- the frames are those that the model has
    pub frames_are : n.frames ≡ frames_left h.kind (state_of h) (record { held = rest_held k o n (Some r) (mover f); moved = Some r })
    frames_are =
        let e : get (rest_held k o n (Some r) (mover f)) r ≡ Some (record { place = a; bytes = y.bytes }) =
        (let found : get (held_in h) r ≡ Some y = other_found f in rw found (get_inserted (remove (held_in h) q) r (record { place = a; bytes = y.bytes }))) in
        moved.frames
        ∙ ap (λ s. exchanged h.frames (b / 4) (a / 4) (s / 4)) (same_slot f)
        ∙ ap (λ p. exchanged h.frames (p / 4) (a / 4) (slot_for (paging_at h) (length y.bytes) / 4)) (sym (other_at f))
        ∙ sym (frames_change h.kind h k.framed (rest_held k o n (Some r) (mover f)) r y (record { place = a; bytes = y.bytes }) (other_found f) e)

-- The heap n after `leave_slot`, which begins at the heap g: there the number is released, and the object is taken out of the counts. Object i moves.
module _ {h : Heap} (k : IsValid h) {q a size c : ℕ} (o : IsObjectAt (owner_in h) q a size c) (due : MustMoveInto (owner_in h) a c) {g n : Heap} {i : Handle}
    (counted : g ≡ taken_out h q size c) (left : Left g c a (Some i) n) (tables : AreTables g.classes (tables_in n)) where
  abbrev pub filling : Fills (owner_in h) q a size c left.done.from (tables_in n)
  filling = record {
    valid = owns k;
    object = o;
    moves = due;
    filled = subst (λ (x : Heap). FillsFrom x.classes (tables_in x) c left.done.from (tables_in n)) counted left.done.filled;
    tables = subst (λ (x : Heap). AreTables x.classes (tables_in n)) counted tables;
  }

  pub is : i.0 ≡ other filling
  is = number_in left ∙ ap (λ (x : Heap). get_or x.words left.done.from 0 % 2 ^ 32) counted ∙ number_shown k filling

  pub whole : n ≡ record (taken_out h q size c) {
    maps = n.maps;
    lists = n.lists;
    pool = n.pool;
    proxies = with_place (without_place h.proxies q) (other filling) a;
    words = n.words;
    frames = n.frames;
  }
  whole =
      let after : Heap → ℕ → Heap = λ x j. record x {
        maps = n.maps;
        lists = n.lists;
        pool = n.pool;
        proxies = with_place x.proxies j a;
        words = n.words;
        frames = n.frames;
      } in
      filled_rest left ∙ ap (λ x. after x i.0) counted ∙ ap (after (taken_out h q size c)) is

  pub moved_is : MovesSlot (parts_of h) (parts_of n) left.done.from a (get_or h.classes.sizes c 0)
  moved_is =
      let m = subst (λ (x : Heap). MovesSlot (parts_of x) (parts_of n) left.done.from a (get_or x.classes.sizes c 0)) counted left.done.moves in
      record { long = m.long; words = m.words; frames = m.frames }

  -- the released number is the next one
  pub free_is : n.proxies.free ≡ q ∷ h.proxies.free
  free_is = left.done.free ∙ ap (λ (x : Heap). x.proxies.free) counted
