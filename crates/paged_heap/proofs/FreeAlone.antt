-- For `free_object`, a free that moves no other object: the heap keeps its invariant, holds the other objects, and has the order that the model computes.
use Rattle.std.proofs.Common.{◌≡◌, ℕ, length, get_or, None, sym, ◌∙◌, ap, subst}
use Rattle.std.specs.FinMap.{remove}
use Rattle.page_model.specs.Bytes.{bytes_at}
use Rattle.page_model.specs.Image.{Clears, slot_for}
use Rattle.page_model.specs.Arrangement.{class_at}
use Rattle.page_model.specs.Order.{FreeFollows, slot_freed}
use Rattle.page_model.specs.Paging.{classes, page_of}
use Rattle.page_model.proofs.CallerLemmas.{still_places, image_after_free}
use Rattle.proxy_table.specs.Proxies.{Proxies, AreBelowLimit, without_place}
use Rattle.page_slots.specs.Release.{Vacates}
use Rattle.page_slots.specs.Tables.{AreTables, page_at, slot_at}
use Rattle.page_slots.specs.Occupying.{class_table}
use Rattle.page_slots.proofs.CallerLemmas.{vacated_occupied, vacated_order, vacated_serve, it, it_found, it_class, it_slot, page_same, slot_same, moving, as_many, places_are}
use Rattle.page_slots.specs.Orders.{order_of}
use Rattle.paged_heap.specs.Heap.{Heap}
use Rattle.paged_heap.specs.Layout.{IsFramed, IsValid, held_in, order_in, paging_at, tables_in, owner_in}
use Rattle.paged_heap.proofs.LayoutFacts.{paging_ok, table_is, owns}
use Rattle.paged_heap.proofs.Preserved.{Becomes, rest_from}
use Rattle.paged_heap.proofs.FreedObject.{follows_from, goes, rest_held, taken_out}
use Rattle.paged_heap.proofs.LeftSlot.{Left, alone_rest}
use Rattle.page_slots.specs.Owner.{IsObjectAt, MustMoveInto}

module _ {h : Heap} (k : IsValid h) {q a size c : ℕ} (o : IsObjectAt (owner_in h) q a size c) (still : MustMoveInto (owner_in h) a c → ⊥) {g n : Heap}
    (counted : g ≡ taken_out h q size c) (left : Left g c a None n) (tables : AreTables g.classes (tables_in n)) (framed : IsFramed h.kind n)
    (handles : AreBelowLimit n.proxies) where
  -- all parts of the heap but the tables and the words, in terms of the heap before
  whole : n ≡ record (taken_out h q size c) { maps = n.maps; lists = n.lists; pool = n.pool; words = n.words }
  whole = alone_rest left ∙ ap (λ (x : Heap). record x { maps = n.maps; lists = n.lists; pool = n.pool; words = n.words }) counted

  vacates : Vacates (tables_in h) c (page_at h.classes a) (slot_at h.classes c a) (tables_in n)
  vacates = subst (λ (x : Heap). Vacates (tables_in x) c (page_at x.classes a) (slot_at x.classes c a) (tables_in n)) counted left.done.freed

  kept_tables : AreTables (class_table (paging_at h)) (tables_in n)
  kept_tables = subst (λ t. AreTables t (tables_in n)) (sym (table_is h k)) (subst (λ (x : Heap). AreTables x.classes (tables_in n)) counted tables)

  proxies_are : n.proxies ≡ without_place h.proxies q
  proxies_are = ap (λ (x : Heap). x.proxies) whole

  clears : Clears h.words n.words (record { from = a; count = slot_for (paging_at h) (length (bytes_at h.words a)) })
  clears =
      subst (λ s. Clears h.words n.words (record { from = a; count = s })) (it_slot (owns k) o)
      (subst (λ (x : Heap). Clears x.words n.words (record { from = a; count = get_or x.classes.sizes c 0 })) counted left.done.words)

  pub frames_same : n.frames ≡ h.frames
  frames_same = ap (λ (x : Heap). x.frames) whole

  -- the order after the free is the one that the model computes
  pub alone_follows : FreeFollows (paging_at h) (held_in h) q None (order_in h) (order_in n)
  alone_follows =
      let p = paging_at h in let m = held_in h in
      let before = order_of (classes p) (tables_in h) h.proxies.free in
      let freed_order : order_of (classes p) (tables_in n) h.proxies.free ≡ slot_freed p m before (class_at p (it (owns k) o)) (page_of p a) =
      vacated_order (paging_ok h k) k.serve.part k.occupied kept_tables o.in_range h.proxies.free vacates
      ∙ ap (λ d. slot_freed p m before d (page_at h.classes a)) (sym (it_class (owns k) o)) ∙ ap (slot_freed p m before (class_at p (it (owns k) o)))
      (sym (page_same (owns k) o)) in
      follows_from k o n None (ap (λ (x : Heap). x.classes) whole)
      (ap (λ (x : Proxies). x.free) proxies_are)
      (subst (λ s. order_of s (tables_in n) h.proxies.free ≡ slot_freed p m (order_of s (tables_in h) h.proxies.free) (class_at p (it (owns k) o)) (page_of p a))
      (sym (as_many (paging_at h) (table_is h k))) freed_order)

  pub alone : Becomes h n (rest_held k o n None (λ m. still (moving (owns k) o m)))
  alone = goes k o n None (λ m. still (moving (owns k) o m))
      (record {
        live = ap (λ (x : Heap). x.live) whole;
        asked = ap (λ (x : Heap). x.asked) whole;
        taken = ap (λ (x : Heap). x.taken) whole;
      })
      (rest_from h n
      (ap (λ (x : Heap). x.kind) whole)
      (ap (λ (x : Heap). x.settings) whole)
      (ap (λ (x : Heap). x.classes) whole)
      (ap (λ (x : Heap). x.bounds) whole))
      (ap (λ (x : Proxies). x.places) proxies_are ∙ ap (λ m. remove m q) (places_are (owner_in h)) ∙ sym (still_places (held_in h) q a))
      (left.done.long ∙ ap (λ (x : Heap). length x.words) counted)
      (image_after_free (paging_at h) (paging_ok h k) (held_in h) k.sound h.words k.image q (it (owns k) o) (it_found (owns k) o) n.words clears)
      framed
      (vacated_serve (paging_ok h k) k.serve.part k.occupied kept_tables k.sound q (it_found (owns k) o) vacates
      (it_class (owns k) o) (page_same (owns k) o) (slot_same (owns k) o) k.serve.whole)
      (vacated_occupied (paging_ok h k) k.serve.part k.occupied kept_tables k.sound q (it_found (owns k) o) vacates
      (it_class (owns k) o) (page_same (owns k) o) (slot_same (owns k) o))
      (ap (λ (x : Proxies). x.limit) proxies_are)
      handles
