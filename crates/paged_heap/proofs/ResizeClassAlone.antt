-- For `resize_to_class`, a resize to another class that moves no other object: the object's old slot becomes free as the order requires, and the heap keeps
-- its invariant.
use Rattle.std.proofs.Common.{◌≡◌, ℕ, length, get_or, None, sym, ◌∙◌, ap, subst}
use Rattle.std.specs.FinMap.{insert, remove}
use Rattle.cf_base.proofs.Maps.{get_inserted, get_remove_other, get_removed}
use Rattle.cf_base.proofs.MapValues.{map_values-insert}
use Rattle.cf_base.proofs.Sums.{insert_again}
use Rattle.page_model.specs.Held.{Placed, places}
use Rattle.page_model.specs.Arrangement.{class_at}
use Rattle.page_model.specs.Image.{Clears, IsSlotImage}
use Rattle.page_model.specs.Order.{SlotFollows, slot_freed}
use Rattle.page_model.specs.Paging.{classes, page_of}
use Rattle.page_model.specs.Steps.{MustMove}
use Rattle.page_model.proofs.CallerLemmas.{still_places, image_after_change}
use Rattle.proxy_table.specs.Proxies.{AreBelowLimit, Proxies}
use Rattle.size_classes.specs.Table.{ClassTable}
use Rattle.page_slots.specs.Release.{Vacates}
use Rattle.page_slots.specs.Tables.{AreTables, page_at, slot_at}
use Rattle.page_slots.specs.Occupying.{Occupies, class_table}
use Rattle.page_slots.specs.Orders.{order_of}
use Rattle.page_slots.proofs.CallerLemmas.{renumbered_occupied, vacated_occupied, vacated_order, vacated_serve, it_class, page_same, slot_same, must, moving, as_many, places_are}
use Rattle.paged_heap.specs.Heap.{Heap}
use Rattle.paged_heap.specs.declared.resize_class.Change.{Change}
use Rattle.paged_heap.specs.ResizeClass.{EntersAt, IsChange, old_words}
use Rattle.paged_heap.proofs.LeftSlot.{Left, alone_rest}
use Rattle.paged_heap.specs.Layout.{IsFramed, IsValid, held_in, paging_at, state_of, tables_in, owner_in}
use Rattle.cf_model.specs.Steps.{frames_left}
use Rattle.paged_heap.proofs.ByKind.{frames_stay}
use Rattle.paged_heap.proofs.LayoutFacts.{paged_kind, paging_ok, table_is, owns}
use Rattle.paged_heap.proofs.Preserved.{Becomes}
use Rattle.paged_heap.proofs.ResizeClass.{Keeps, after, after_is, both, both_occupied, both_sound, both_serve, changes, entered_long, found}
use Rattle.paged_heap.proofs.ResizeClass.{found_still, middle}
use Rattle.paged_heap.proofs.ResizeClass.{freed_same, must_before, new, new_free, object, order_between, rewritten, spare, spare_is_other}
use Rattle.paged_heap.proofs.ResizeClass.{then_cleared, unused}
use Rattle.page_slots.specs.Owner.{MustMoveInto}

module _ {h : Heap} (k : IsValid h) {x : Change} (is : IsChange h x) {b : ℕ} {n : Heap} (en : EntersAt h x b n)
    (stays : MustMoveInto (owner_in h) x.place x.class → ⊥)
    {m : Heap} (left : Left n x.class x.place None m) (tables : AreTables n.classes (tables_in m)) (framed : IsFramed h.kind m) where
  long : length m.words ≡ length h.words
  long = left.done.long ∙ entered_long k is en

  gone : Clears n.words m.words (record { from = x.place; count = old_words h x })
  gone = subst (λ (t : ClassTable). Clears n.words m.words (record { from = x.place; count = get_or t.sizes x.class 0 })) en.classes left.done.words

  pub never : MustMove (paging_at h) (both k is en) (object k is en) → ⊥
  never must = stays (moving (owns k) is.object (must_before k is en must))

  pub keeps : Keeps k is en None never m
  keeps = record {
    kind = ap (λ (o : Heap). o.kind) (alone_rest left);
    settings = ap (λ (o : Heap). o.settings) (alone_rest left);
    classes = ap (λ (o : Heap). o.classes) (alone_rest left);
    bounds = ap (λ (o : Heap). o.bounds) (alone_rest left);
    live = ap (λ (o : Heap). o.live) (alone_rest left);
    asked = ap (λ (o : Heap). o.asked) (alone_rest left);
    taken = ap (λ (o : Heap). o.taken) (alone_rest left);
    limit = ap (λ (o : Heap). o.proxies.limit) (alone_rest left);
  }

  kept_tables : AreTables (class_table (paging_at h)) (tables_in m)
  kept_tables = subst (λ t. AreTables t (tables_in m)) (en.classes ∙ sym (table_is h k)) tables

  vacates : Vacates (tables_in n) x.class (page_at h.classes x.place) (slot_at h.classes x.class x.place) (tables_in m)
  vacates = subst (λ (t : ClassTable). Vacates (tables_in n) x.class (page_at t x.place) (slot_at t x.class x.place) (tables_in m)) en.classes left.done.freed

  less : Occupies (paging_at h) (remove (both k is en) x.handle.0) (tables_in m)
  less = vacated_occupied (paging_ok h k) (both_serve k is en).part (both_occupied k is en) kept_tables (both_sound k is en) x.handle.0
      (found_still k is en) vacates
      (it_class (owns k) is.object) (page_same (owns k) is.object) (slot_same (owns k) is.object)

  occupied : Occupies (paging_at h) (after k is en None never) (tables_in m)
  occupied = renumbered_occupied less (spare k is en)
      (get_remove_other (both k is en) x.handle.0 (spare k is en) (spare_is_other k is en) ∙ get_inserted (held_in h) (spare k is en) (new k is en))
      x.handle.0
      (get_remove_other (remove (both k is en) x.handle.0) (spare k is en) x.handle.0 (λ e. spare_is_other k is en (sym e))
      ∙ get_removed (both k is en) x.handle.0)

  image : IsSlotImage (paging_at h) (after k is en None never) m.words
  image = subst (λ g. IsSlotImage (paging_at h) g m.words) (sym (after_is k is en None never))
      (image_after_change (paging_at h) (paging_ok h k) (held_in h) k.sound h.words (middle k is en) m.words k.image k.words_long
      (long ∙ k.words_long)
      x.handle.0 (object k is en) (found k is en) b ((new k is en).bytes) (new_free k is en) (spare k is en) (unused k is en)
      (rewritten k is en) (then_cleared k is en m.words gone))

  after_places : places (after k is en None never) ≡ insert h.proxies.places x.handle.0 b
  after_places =
      ap places (after_is k is en None never) ∙ map_values-insert (λ (y : Placed). y.place) (remove (held_in h) x.handle.0) x.handle.0 (new k is en)
      ∙ ap (λ g. insert g x.handle.0 b) (still_places (held_in h) x.handle.0 x.place)
      ∙ insert_again (places (held_in h)) x.handle.0 b
      ∙ ap (λ g. insert g x.handle.0 b) (sym (places_are (owner_in h)))

  -- its old slot becomes free
  pub alone_follows : SlotFollows (paging_at h) (held_in h) (object k is en) None (order_between k is en)
      (order_of (length h.classes.sizes) (tables_in m) h.proxies.free)
  alone_follows =
      let p = paging_at h in let c = class_at p (object k is en) in
      let before = order_of (classes p) (tables_in n) h.proxies.free in
      let freed_order : order_of (classes p) (tables_in m) h.proxies.free ≡ slot_freed p (held_in h) before c (page_of p x.place) =
      vacated_order (paging_ok h k) (both_serve k is en).part (both_occupied k is en) kept_tables is.object.in_range h.proxies.free vacates
      ∙ ap (λ d. slot_freed p (both k is en) before d (page_at h.classes x.place)) (sym (it_class (owns k) is.object))
      ∙ ap (slot_freed p (both k is en) before c) (sym (page_same (owns k) is.object))
      ∙ freed_same k is en before (page_of p x.place) in
      subst (λ s. order_of s (tables_in m) h.proxies.free ≡ slot_freed p (held_in h) (order_of s (tables_in n) h.proxies.free) c (page_of p x.place))
      (sym (as_many (paging_at h) (table_is h k))) freed_order

  pub free_same : m.proxies.free ≡ h.proxies.free
  free_same = ap (λ (o : Heap). o.proxies.free) (alone_rest left) ∙ en.free

  pub frames_are : m.frames ≡ frames_left h.kind (state_of h) (record { held = after k is en None never; moved = None })
  frames_are = ap (λ (o : Heap). o.frames) (alone_rest left) ∙ en.frames ∙ sym (frames_stay h.kind (paged_kind h k) (state_of h) (after k is en None never))

  pub changed_alone : Becomes h m (after k is en None never)
  changed_alone = changes k is en None never m keeps
      framed
      (ap (λ (o : Heap). o.proxies.places) (alone_rest left) ∙ ap (λ (o : Proxies). o.places) en.proxies ∙ sym after_places)
      long
      image
      (vacated_serve (paging_ok h k) (both_serve k is en).part (both_occupied k is en) kept_tables (both_sound k is en) x.handle.0 (found_still k is en) vacates
      (it_class (owns k) is.object) (page_same (owns k) is.object) (slot_same (owns k) is.object) (both_serve k is en).whole)
      occupied
      (subst AreBelowLimit (sym (ap (λ (o : Heap). o.proxies) (alone_rest left))) en.handles)
