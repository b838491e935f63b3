-- The bytes asked for and those of the slots: a write changes neither count, the removal of an object takes its bytes away; and with at most 65,536 objects of
-- at most 131,072 bytes the counts don't overflow.
use Rattle.std.proofs.Common.{◌≡◌, ℕ, ◌+◌, ◌*◌, ◌≤◌, List, length, Option, Some, None, arith, refl, sym, ◌∙◌, ap, subst}
use Rattle.std.specs.Prelude.{option_map}
use Rattle.std.specs.FinMap.{get, insert, len, remove}
use Rattle.cf_base.proofs.MapValues.{get-map_values}
use Rattle.cf_base.proofs.Maps.{get_removed}
use Rattle.cf_base.proofs.Sums.{insert_again}
use Rattle.cf_base.proofs.Values.{sum_at_most}
use Rattle.page_model.specs.Arrangement.{class_at}
use Rattle.page_model.specs.Figures.{asked_bytes, taken_bytes}
use Rattle.page_model.specs.Held.{Objects, Placed, objects}
use Rattle.page_model.specs.Paging.{Paging, class_for, slot_words}
use Rattle.page_model.proofs.CallerLemmas.{asked_added, asked_taken, bytes_held, len-objects, slot_fits, taken_added, taken_taken}
use Rattle.sliced_heap.specs.Heap.{Heap}
use Rattle.sliced_heap.specs.Layout.{IsValid, sliced_paging, sliced_state_of}
use Rattle.sliced_heap.proofs.Facts.{held_len, paging_ok}
use Rattle.sliced_heap.proofs.Headers.{bytes_few, in_class}

-- other bytes of the same length change neither count
module _ (p : Paging) (o : Objects) (q : ℕ) (v u : List ℕ) (some : get o q ≡ Some v) (same : length u ≡ length v) where
  pub asked_rewritten : asked_bytes (insert o q u) ≡ asked_bytes o
  asked_rewritten =
      let a = asked_taken o q v some in
      let b = asked_added (remove o q) q u (get_removed o q) in
      let e : asked_bytes (insert (remove o q) q u) ≡ asked_bytes (insert o q u) = ap asked_bytes (insert_again o q u) in
      omega arith

  pub taken_rewritten : taken_bytes p (insert o q u) ≡ taken_bytes p o
  taken_rewritten =
      let a = taken_taken p o q v some in
      let b = taken_added p (remove o q) q u (get_removed o q) in
      let e : taken_bytes p (insert (remove o q) q u) ≡ taken_bytes p (insert o q u) = ap (taken_bytes p) (insert_again o q u) in
      let s : slot_words p (class_for p (length u)) ≡ slot_words p (class_for p (length v)) = ap (λ n. slot_words p (class_for p n)) same in
      omega arith

module _ (h : Heap) (k : IsValid h) where
  -- an object has the bytes of a page at most, and so has its slot
  small : (q : ℕ) (v : List ℕ) → get (objects (sliced_state_of h).held) q ≡ Some v
      → (length v ≤ 131072) × (slot_words (sliced_paging h) (class_for (sliced_paging h) (length v)) ≤ 16384)
  small q v e = by_object (get (sliced_state_of h).held q) refl
    where
      shown : get (objects (sliced_state_of h).held) q ≡ option_map (λ (x : Placed). x.bytes) (get (sliced_state_of h).held q)
      shown = get-map_values (λ (x : Placed). x.bytes) (sliced_state_of h).held q

      by_object : (o : Option Placed) → get (sliced_state_of h).held q ≡ o
          → (length v ≤ 131072) × (slot_words (sliced_paging h) (class_for (sliced_paging h) (length v)) ≤ 16384)
      by_object None f = absurd (let z : None ≡ Some v = sym (shown ∙ ap (option_map (λ (x : Placed). x.bytes)) f) ∙ e in cc)
      by_object (Some x) f =
          let z : Some x.bytes ≡ Some v = sym (shown ∙ ap (option_map (λ (x : Placed). x.bytes)) f) ∙ e in
          let is : x.bytes ≡ v = cc in
          let few = bytes_few h k q x f in
          let fits = slot_fits (sliced_paging h) (paging_ok h k) (class_at (sliced_paging h) x) (in_class h k q x f) in
          let page = k.serve.part.tables.table.small in
          subst (λ v. (length v ≤ 131072) × (slot_words (sliced_paging h) (class_for (sliced_paging h) (length v)) ≤ 16384)) is (omega arith, omega arith)

  few_objects : len (objects (sliced_state_of h).held) ≤ 65536
  few_objects =
      let l = len-objects (sliced_state_of h).held in
      let e = held_len h k in
      let f = k.handles.few in
      let n = k.numbers in
      let most = h.settings.few_proxies in
      omega arith

  pub asked_room : h.asked ≤ 131072 * 65536
  unfolding asked_bytes
  asked_room =
      let a = sum_at_most length 131072 (objects (sliced_state_of h).held) (λ q v e. (small q v e).0) in
      let e = k.asked_all in
      let l = few_objects in
      omega arith

  pub taken_room : h.taken ≤ 131072 * 65536
  unfolding taken_bytes
  taken_room =
      let a = sum_at_most (λ v. slot_words (sliced_paging h) (class_for (sliced_paging h) (length v))) 16384 (objects (sliced_state_of h).held) (λ q v e. (small q v e).1) in
      let e = k.taken_all in
      let l = few_objects in
      omega arith

  -- an object that is taken out
  module _ (q : ℕ) (x : Placed) (there : get (sliced_state_of h).held q ≡ Some x) where
    pub asked_less : h.asked ≡ asked_bytes (remove (objects (sliced_state_of h).held) q) + length x.bytes
    asked_less = k.asked_all ∙ sym (asked_taken (objects (sliced_state_of h).held) q x.bytes (bytes_held (sliced_state_of h).held q x there))

    pub taken_less : h.taken ≡ taken_bytes (sliced_paging h) (remove (objects (sliced_state_of h).held) q) + 8 * slot_words (sliced_paging h) (class_at (sliced_paging h) x)
    taken_less = k.taken_all ∙ sym (taken_taken (sliced_paging h) (objects (sliced_state_of h).held) q x.bytes (bytes_held (sliced_state_of h).held q x there))
