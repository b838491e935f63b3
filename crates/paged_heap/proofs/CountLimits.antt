-- Upper bounds of an open heap's counts, so that they don't overflow: 65,536 objects, each of at most 131,072 bytes.
use Rattle.std.proofs.Common.{◌≡◌, ℕ, ◌*◌, ◌<◌, ◌≤◌, length, get_or, Option, Some, None, arith, refl, sym, ◌∙◌, ap, subst}
use Rattle.std.specs.Prelude.{nat_eq, option_map}
use Rattle.std.specs.FinMap.{get, len}
use Rattle.cf_base.proofs.MapValues.{get-map_values}
use Rattle.cf_base.proofs.Ranges.{one}
use Rattle.page_model.specs.Held.{Held, Placed, objects}
use Rattle.page_model.specs.Paging.{Paging, IsPaging, class_for, classes, slot_words}
use Rattle.page_model.specs.Arrangement.{class_at, live, IsSound}
use Rattle.page_model.specs.Figures.{asked_bytes, taken_bytes}
use Rattle.page_model.proofs.CallerLemmas.{len-objects, one_le, class_holds, slot_fits}
use Rattle.paged_heap.specs.Heap.{Heap}
use Rattle.paged_heap.specs.Layout.{IsValid, held_in, paging_at, owner_in}
use Rattle.paged_heap.proofs.LayoutFacts.{paging_ok, table_ok, page_is}
use Rattle.cf_base.proofs.Values.{sum_at_most}
use Rattle.page_slots.proofs.CallerLemmas.{held_len}

-- an object has the bytes of a page at most, and so has its slot
module _ (p : Paging) (ok : IsPaging p) (m : Held) (s : IsSound p m) (small : p.page_words ≤ 16384) where
  object_small : (q : ℕ) (v : _) → get (objects m) q ≡ Some v → (length v ≤ 131072) × (slot_words p (class_for p (length v)) ≤ 16384)
  object_small q v e = go (get m q) refl
    where
      go : (o : Option Placed) → get m q ≡ o → (length v ≤ 131072) × (slot_words p (class_for p (length v)) ≤ 16384)
      go None f = absurd (let z : None ≡ Some v = sym (get-map_values (λ (x : Placed). x.bytes) m q ∙ ap (option_map (λ (x : Placed). x.bytes)) f) ∙ e in cc)
      go (Some x) f =
          let z : Some x.bytes ≡ Some v = sym (get-map_values (λ (x : Placed). x.bytes) m q ∙ ap (option_map (λ (x : Placed). x.bytes)) f) ∙ e in
          let is : x.bytes ≡ v = cc in
          let class = (s.slots q x f).class in
          let fits = slot_fits p ok (class_at p x) class in
          let holds = class_holds p ok (length x.bytes) class in
          subst (λ v. (length v ≤ 131072) × (slot_words p (class_for p (length v)) ≤ 16384)) is (omega arith, omega arith)

  pub live_few : (c : ℕ) → live p (objects m) c ≤ len m
  unfolding live
  live_few c =
      let a = sum_at_most (λ v. one (nat_eq (class_for p (length v)) c)) 1 (objects m) (λ q v e. one_le (nat_eq (class_for p (length v)) c)) in
      let l = len-objects m in
      omega arith

  pub asked_few : asked_bytes (objects m) ≤ 131072 * len m
  unfolding asked_bytes
  asked_few =
      let a = sum_at_most length 131072 (objects m) (λ q v e. (object_small q v e).0) in
      let l = len-objects m in
      omega arith

  pub taken_few : taken_bytes p (objects m) ≤ 131072 * len m
  unfolding taken_bytes
  taken_few =
      let a = sum_at_most (λ v. slot_words p (class_for p (length v))) 16384 (objects m) (λ q v e. (object_small q v e).1) in
      let l = len-objects m in
      omega arith

module _ (h : Heap) (k : IsValid h) where
  pub page_small : h.settings.page_words ≤ 16384
  page_small = (let s = (table_ok h k).small in let e = page_is h k in omega arith)

  pub len_few : len (held_in h) ≤ 65536
  len_few = (let e = held_len (owner_in h) in let f = k.handles.few in let n = k.numbers in let few = h.settings.few_proxies in omega arith)

  pub live_room : (c : ℕ) → c < classes (paging_at h) → get_or h.live c 0 ≤ 65536
  live_room c lt = (let e = k.counted c lt in let l = live_few (paging_at h) (paging_ok h k) (held_in h) k.sound page_small c in let f = len_few in omega arith)

  pub asked_room : h.asked ≤ 131072 * 65536
  asked_room = (let e = k.asked_all in let l = asked_few (paging_at h) (paging_ok h k) (held_in h) k.sound page_small in let f = len_few in omega arith)

  pub taken_room : h.taken ≤ 131072 * 65536
  taken_room = (let e = k.taken_all in let l = taken_few (paging_at h) (paging_ok h k) (held_in h) k.sound page_small in let f = len_few in omega arith)
