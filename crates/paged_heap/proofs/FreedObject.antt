-- For a free, with a move or without one: the counts of the freed object, which resizes use too; and the heap afterwards, which keeps its invariant if objects,
-- words, tables and counts change together, and follows the order if its tables do.
use Rattle.std.proofs.Common.{◌≡◌, ℕ, ◌-◌, ◌*◌, ◌<◌, ◌≤◌, ◌∷◌, length, get_or, set, Option, arith, sym, ◌∙◌, ap, subst}
use Rattle.std.specs.Prelude.{nat_eq}
use Rattle.std.proofs.lemmas.List.{length-set}
use Rattle.std.specs.FinMap.{remove}
use Rattle.cf_base.specs.declared.results.Freed.{Freed}
use Rattle.cf_base.proofs.Ranges.{one}
use Rattle.page_model.specs.Held.{Held, objects, places}
use Rattle.page_model.specs.Bytes.{bytes_at}
use Rattle.page_model.specs.Paging.{class_for, classes}
use Rattle.page_model.specs.Arrangement.{live}
use Rattle.page_model.specs.Image.{IsSlotImage}
use Rattle.page_model.specs.Figures.{asked_bytes, taken_bytes}
use Rattle.page_model.specs.Order.{FreeFollows, SlotFollows}
use Rattle.page_model.specs.Steps.{Moves, without}
use Rattle.page_model.proofs.CallerLemmas.{live_taken, asked_taken, taken_taken, sound_without, free_objects, storable_without}
use Rattle.cf_base.proofs.Tests.{eq_yes}
use Rattle.size_classes.specs.Table.{ClassTable}
use Rattle.proxy_table.specs.Proxies.{AreBelowLimit, without_place}
use Rattle.page_slots.specs.Occupying.{Occupies, FitPages}
use Rattle.page_slots.specs.Orders.{order_of}
use Rattle.page_slots.proofs.CallerLemmas.{it, it_found, it_class, it_slot, it_bytes}
use Rattle.cf_model.specs.State.{HeapState}
use Rattle.cf_model.specs.Steps.{FreesObject, MovesIn, frames_left, number_of, call_result}
use Rattle.paged_heap.specs.Heap.{Heap}
use Rattle.paged_heap.specs.Layout.{IsFramed, IsValid, held_in, order_in, paging_at, state_of, tables_in, owner_in}
use Rattle.cf_base.proofs.Tallies.{counted_out}
use Rattle.paged_heap.proofs.ByKind.{moves_in, slot_in_is, tiling_stays}
use Rattle.paged_heap.proofs.LayoutFacts.{few_classes, paged_kind, paging_ok, owns}
use Rattle.paged_heap.proofs.Preserved.{Becomes, becomes_kept, becomes_state, held_is, stored, with_parts}
use Rattle.page_slots.specs.Owner.{IsObjectAt}

-- the heap h after the number q is released, and its object of class c with `size` bytes is taken out of the counts
abbrev pub taken_out : Heap → ℕ → ℕ → ℕ → Heap
taken_out h q size c = record h {
  proxies = without_place h.proxies q;
  live = set h.live c (get_or h.live c 0 - 1);
  asked = h.asked - size;
  taken = h.taken - 8 * get_or h.classes.sizes c 0;
}

module _ {h : Heap} (k : IsValid h) {q a size c : ℕ} (o : IsObjectAt (owner_in h) q a size c) where
  pub class_live : c < length h.live
  class_live = (let lt = o.in_range in let few = few_classes h k in let long = k.live_long in omega arith)

  pub live_some : 1 ≤ get_or h.live c 0
  live_some =
      let e = k.counted c o.in_range in
      let l = live_taken (paging_at h) (objects (held_in h)) q (bytes_at h.words a) c (it_bytes (owns k) o) in
      let y : one (nat_eq (class_for (paging_at h) (length (bytes_at h.words a))) c) ≡ 1 = ap one (eq_yes _ _ (it_class (owns k) o)) in
      omega arith

  pub asked_some : size ≤ h.asked
  asked_some = (let e = k.asked_all in let l = asked_taken (objects (held_in h)) q (bytes_at h.words a) (it_bytes (owns k) o) in let s = o.long in omega arith)

  pub taken_some : 8 * get_or h.classes.sizes c 0 ≤ h.taken
  taken_some =
      let e = k.taken_all in let l = taken_taken (paging_at h) (objects (held_in h)) q (bytes_at h.words a) (it_bytes (owns k) o) in let s =
      (it_slot (owns k) o) in
      omega arith

  -- a free that leaves these tables follows the order
  pub follows_from : (n : Heap) (moved : Option ℕ) → n.classes ≡ h.classes → n.proxies.free ≡ q ∷ h.proxies.free
      → SlotFollows (paging_at h) (held_in h) (it (owns k) o) moved (order_in h) (order_of (length h.classes.sizes) (tables_in n) h.proxies.free)
      → FreeFollows (paging_at h) (held_in h) q moved (order_in h) (order_in n)
  follows_from n moved classes_same free slot = record {
    object = it (owns k) o;
    found = it_found (owns k) o;
    between = order_of (length h.classes.sizes) (tables_in n) h.proxies.free;
    slot = slot;
    number = ap (λ (t : ClassTable). order_of (length t.sizes) (tables_in n) n.proxies.free) classes_same
        ∙ ap (order_of (length h.classes.sizes) (tables_in n)) free;
  }

  -- the heap n after the free, in which the object `moved`, if there is one, has moved to the freed slot
  module _ (n : Heap) (moved : Option ℕ) (mv : Moves (paging_at h) (held_in h) (it (owns k) o) moved) where
    abbrev pub rest_held : Held
    rest_held = without (held_in h) q a moved

    objects_are : objects rest_held ≡ remove (objects (held_in h)) q
    objects_are = free_objects (paging_at h) (paging_ok h k) (held_in h) k.sound q (it (owns k) o) (it_found (owns k) o) moved mv

    -- the counts of the objects that are left
    pub record Counts : Type 0 where
      pub live : n.live ≡ set h.live c (get_or h.live c 0 - 1)
      pub asked : n.asked ≡ h.asked - size
      pub taken : n.taken ≡ h.taken - 8 * get_or h.classes.sizes c 0

    module _ (t : Counts) where
      counts : (d : ℕ) → d < classes (paging_at h) → get_or n.live d 0 ≡ live (paging_at h) (objects rest_held) d
      counts d lt =
          let less = live_taken (paging_at h) (objects (held_in h)) q (bytes_at h.words a) d (it_bytes (owns k) o) in
          let was = k.counted d lt in
          let all : live (paging_at h) (objects rest_held) d ≡ live (paging_at h) (remove (objects (held_in h)) q) d =
          ap (λ o. live (paging_at h) o d) objects_are in
          let now : get_or n.live d 0 ≡ get_or (set h.live c (get_or h.live c 0 - 1)) d 0 = ap (λ l. get_or l d 0) t.live in
          let out = counted_out h.live c d class_live live_some in
          let same : one (nat_eq (class_for (paging_at h) (length (bytes_at h.words a))) d) ≡ one (nat_eq c d) = ap (λ e. one (nat_eq e d))
          (it_class (owns k) o) in
          omega arith

      pub goes : n ≡ with_parts h n → n.proxies.places ≡ places rest_held → length n.words ≡ length h.words → IsSlotImage (paging_at h) rest_held n.words
          → IsFramed h.kind n → FitPages (paging_at h) (tables_in n) → Occupies (paging_at h) rest_held (tables_in n) → n.proxies.limit ≡ h.proxies.limit
          → AreBelowLimit n.proxies → Becomes h n rest_held
      goes rest at long image framed serve occupied limit handles = record {
        rest = rest;
        framed = framed;
        places = at;
        storable = storable_without (held_in h) q a moved (stored h k);
        long = long;
        image = image;
        sound = sound_without (paging_at h) (paging_ok h k) (held_in h) k.sound q (it (owns k) o) (it_found (owns k) o) moved mv;
        serve = serve;
        occupied = occupied;
        limit = limit;
        handles = handles;
        live_long = ap length t.live ∙ length-set h.live c (get_or h.live c 0 - 1) ∙ k.live_long;
        counted = counts;
        asked_all = (
            let less = asked_taken (objects (held_in h)) q (bytes_at h.words a) (it_bytes (owns k) o) in
            let all = ap asked_bytes objects_are in let was = k.asked_all in let now = t.asked in let s = o.long in
            omega arith);
        taken_all = (
            let less = taken_taken (paging_at h) (objects (held_in h)) q (bytes_at h.words a) (it_bytes (owns k) o) in
            let all = ap (taken_bytes (paging_at h)) objects_are in let was = k.taken_all in let now = t.taken in let s = (it_slot (owns k) o) in
            omega arith);
      }

    module _ (b : Becomes h n rest_held) where
      pub goes_kept : IsValid n
      goes_kept = becomes_kept h n k rest_held b

      pub goes_freed : n.frames ≡ frames_left h.kind (state_of h) (record { held = rest_held; moved = moved }) → (freed : Freed)
          → freed.slot_words ≡ get_or h.classes.sizes c 0 → number_of freed.moved ≡ moved → FreesObject (state_of h) q freed (state_of n)
      goes_freed frames freed words is =
          let same = becomes_state h n k rest_held b in
          record {
            object = it (owns k) o;
            found = it_found (owns k) o;
            slot = words ∙ (it_slot (owns k) o) ∙ sym (slot_in_is h.kind (paged_kind h k) (state_of h) (it (owns k) o));
            moves = subst (MovesIn h.kind (state_of h) (it (owns k) o)) (sym is) (moves_in h.kind (paged_kind h k) (state_of h) (it (owns k) o) moved mv);
            held = held_is h n k rest_held b ∙ ap (without (held_in h) q a) (sym is);
            left = ap objects (held_is h n k rest_held b) ∙ objects_are;
            frames = frames ∙ ap (λ v. frames_left h.kind (state_of h) (call_result (state_of h) q (it (owns k) o) v)) (sym is);
            tiling = ap (λ (s : HeapState). s.tiling) same ∙ sym (tiling_stays h.kind (paged_kind h k) (state_of h) a);
            rest = record {
              kind = ap (λ (s : HeapState). s.kind) same;
              opened = ap (λ (s : HeapState). s.is_open) same;
              profile = ap (λ (s : HeapState). s.profile) same;
              bounds = ap (λ (s : HeapState). s.bounds) same;
            };
          }
