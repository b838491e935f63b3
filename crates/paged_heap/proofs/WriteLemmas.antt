-- For writes and resizes: how the counts change when an object gets other bytes, and that the heap keeps its invariant if these are of its class and in its
-- slot. A write replaces just the bytes of its range; without bytes it changes nothing.
use Rattle.std.proofs.Common.{◌≡◌, ℕ, ◌+◌, ◌*◌, ◌/◌, ◌%◌, List, [], ◌∷◌, length, get_or, Some, arith, refl, sym, ◌∙◌, ap, subst}
use Rattle.std.specs.Prelude.{nat_eq}
use Rattle.std.specs.FinMap.{get, insert, remove}
use Rattle.cf_base.proofs.Maps.{get_removed}
use Rattle.cf_base.proofs.MapValues.{map_values-insert}
use Rattle.cf_base.proofs.Sums.{insert_again}
use Rattle.cf_base.proofs.Ranges.{one}
use Rattle.page_model.specs.Held.{Held, Objects, Placed, objects}
use Rattle.page_model.specs.Bytes.{AreBytes, bytes_at, written}
use Rattle.page_model.specs.Paging.{Paging, class_for, slot_words}
use Rattle.page_model.specs.Arrangement.{IsSound, live}
use Rattle.page_model.specs.Figures.{asked_bytes, taken_bytes}
use Rattle.page_model.specs.Image.{IsSlotImage, Rewrites, object_word}
use Rattle.page_model.proofs.CallerLemmas.{asked_added, asked_taken, live_added, live_taken, taken_added, taken_taken, sound_exchanged}
use Rattle.page_model.proofs.CallerLemmas.{inserted_there, bytes_held, rewritten_places}
use Rattle.page_model.proofs.CallerLemmas.{bytes_at-AreBytes}
use Rattle.page_model.proofs.CallerLemmas.{image_after_bytes, length-written, storable_added}
use Rattle.page_model.proofs.CallerLemmas.{written_are_bytes}
use Rattle.page_model.proofs.CallerLemmas.{written_nothing}
use Rattle.page_slots.specs.Occupying.{Occupies, FitPages}
use Rattle.page_slots.proofs.CallerLemmas.{rewritten_occupied, held, rewrites, places_are}
use Rattle.proxy_table.specs.Proxies.{AreBelowLimit}
use Rattle.cf_model.specs.Steps.{WritesBytes}
use Rattle.paged_heap.specs.Heap.{Heap}
use Rattle.paged_heap.specs.Layout.{IsValid, held_in, paging_at, state_of, tables_in, owner_in}
use Rattle.region.specs.Overwriting.{Overwrites}
use Rattle.paged_heap.proofs.ByKind.{framed_kept, outside_in}
use Rattle.paged_heap.proofs.LayoutFacts.{paged_kind, paging_ok, owns}
use Rattle.paged_heap.proofs.Preserved.{Becomes, becomes_kept, becomes_state, rest_from, stored}
use Rattle.page_slots.specs.Owner.{HoldsBytesAt}

-- the counts after the bytes v of object q are replaced by u
module _ (p : Paging) (o : Objects) (q : ℕ) (v u : List ℕ) (some : get o q ≡ Some v) where
  pub live_changed : (c : ℕ) → live p (insert o q u) c + one (nat_eq (class_for p (length v)) c) ≡ live p o c + one (nat_eq (class_for p (length u)) c)
  live_changed c =
      let a = live_taken p o q v c some in
      let b = live_added p (remove o q) q u c (get_removed o q) in
      let e : live p (insert (remove o q) q u) c ≡ live p (insert o q u) c = ap (λ o. live p o c) (insert_again o q u) in
      omega arith

  pub asked_changed : asked_bytes (insert o q u) + length v ≡ asked_bytes o + length u
  asked_changed =
      let a = asked_taken o q v some in
      let b = asked_added (remove o q) q u (get_removed o q) in
      let e : asked_bytes (insert (remove o q) q u) ≡ asked_bytes (insert o q u) = ap asked_bytes (insert_again o q u) in
      omega arith

  pub taken_changed : taken_bytes p (insert o q u) + 8 * slot_words p (class_for p (length v)) ≡ taken_bytes p o + 8 * slot_words p (class_for p (length u))
  taken_changed =
      let a = taken_taken p o q v some in
      let b = taken_added p (remove o q) q u (get_removed o q) in
      let e : taken_bytes p (insert (remove o q) q u) ≡ taken_bytes p (insert o q u) = ap (taken_bytes p) (insert_again o q u) in
      omega arith

-- An object has other bytes of the same class, at the same address: the invariant, but for the image and the counts.
module _ (h n : Heap) (k : IsValid h) (q a : ℕ) (some : get (held_in h) q ≡ Some (record { place = a; bytes = bytes_at h.words a })) (u : List ℕ)
    (class : class_for (paging_at h) (length u) ≡ class_for (paging_at h) (length (bytes_at h.words a))) (are : AreBytes u)
    (rest : n ≡ record h { words = n.words; asked = n.asked }) (long : length n.words ≡ length h.words)
    (image : IsSlotImage (paging_at h) (insert (held_in h) q (record { place = a; bytes = u })) n.words)
    (asked : n.asked + length (bytes_at h.words a) ≡ h.asked + length u) where
  abbrev pub changed : Held
  changed = insert (held_in h) q (record { place = a; bytes = u })

  old_bytes : get (objects (held_in h)) q ≡ Some (bytes_at h.words a)
  old_bytes = bytes_held (held_in h) q (record { place = a; bytes = bytes_at h.words a }) some

  objects_are : objects changed ≡ insert (objects (held_in h)) q u
  objects_are = map_values-insert (λ (x : Placed). x.bytes) (held_in h) q (record { place = a; bytes = u })

  still_sound : IsSound (paging_at h) changed
  still_sound = subst (IsSound (paging_at h)) (insert_again (held_in h) q (record { place = a; bytes = u }))
      (sound_exchanged (paging_at h) (held_in h) q (record { place = a; bytes = bytes_at h.words a }) some q u (get_removed (held_in h) q) class k.sound)

  pub changes : Becomes h n changed
  changes = record {
    rest = rest_from h n (ap (λ (x : Heap). x.kind) rest) (ap (λ (x : Heap). x.settings) rest) (ap (λ (x : Heap). x.classes) rest)
        (ap (λ (x : Heap). x.bounds) rest);
    framed = framed_kept h.kind h n (ap (λ (x : Heap). x.frames) rest) long k.framed;
    places = ap (λ (x : Heap). x.proxies.places) rest ∙ places_are (owner_in h)
        ∙ sym (rewritten_places (held_in h) q (record { place = a; bytes = bytes_at h.words a }) (record { place = a; bytes = u }) some refl);
    storable = storable_added (held_in h) q (record { place = a; bytes = u }) (stored h k) (stored h k q _ some).0 are;
    long = long;
    image = image;
    sound = still_sound;
    serve = subst (FitPages (paging_at h)) (sym (ap tables_in rest)) k.serve;
    occupied = subst (Occupies (paging_at h) changed) (sym (ap tables_in rest)) (rewritten_occupied k.occupied q some u class);
    limit = ap (λ (x : Heap). x.proxies.limit) rest;
    handles = subst AreBelowLimit (sym (ap (λ (x : Heap). x.proxies) rest)) k.handles;
    live_long = ap (λ (x : Heap). length x.live) rest ∙ k.live_long;
    counted = λ c lt. (
        let e = live_changed (paging_at h) (objects (held_in h)) q (bytes_at h.words a) u old_bytes c in
        let s : one (nat_eq (class_for (paging_at h) (length u)) c) ≡ one (nat_eq (class_for (paging_at h) (length (bytes_at h.words a))) c) =
        ap (λ d. one (nat_eq d c)) class in
        let was = k.counted c lt in
        let now = ap (λ (x : Heap). get_or x.live c 0) rest in
        let all : live (paging_at h) (objects changed) c ≡ live (paging_at h) (insert (objects (held_in h)) q u) c =
        ap (λ o. live (paging_at h) o c) objects_are in
        omega arith);
    asked_all = (
        let e = asked_changed (paging_at h) (objects (held_in h)) q (bytes_at h.words a) u old_bytes in
        let all = ap asked_bytes objects_are in let was = k.asked_all in let now = asked in
        omega arith);
    taken_all = (
        let e = taken_changed (paging_at h) (objects (held_in h)) q (bytes_at h.words a) u old_bytes in
        let s : slot_words (paging_at h) (class_for (paging_at h) (length u)) ≡ slot_words (paging_at h)
        (class_for (paging_at h) (length (bytes_at h.words a))) = ap (slot_words (paging_at h)) class in
        let all = ap (taken_bytes (paging_at h)) objects_are in let was = k.taken_all in
        let now = ap (λ (x : Heap). x.taken) rest in
        omega arith);
  }

-- `bytes` are written into object q from byte `at` on
module _ (h n : Heap) (k : IsValid h) (q at a : ℕ) (bytes : List ℕ) (l : HoldsBytesAt (owner_in h) q at (length bytes) a)
    (each : AreBytes bytes) (rest : n ≡ record h { words = n.words })
    (w : Overwrites h.words n.words (record { from = a + 1 + at / 8; count = (at % 8 + length bytes + 7) / 8 }) (at % 8) bytes) where
  abbrev old : List ℕ
  old = bytes_at h.words a

  abbrev new : List ℕ
  new = written old at bytes

  are : AreBytes new
  are = written_are_bytes old at bytes l.within (bytes_at-AreBytes h.words a) each

  size : length new ≡ length old
  size = length-written old at bytes l.within

  image : IsSlotImage (paging_at h) (insert (held_in h) q (record { place = a; bytes = new })) n.words
  image =
      let from : a + 1 + at / 8 ≡ a + (1 + at / 8) = omega arith in
      image_after_bytes (paging_at h) (paging_ok h k) (held_in h) k.sound h.words k.image q (record { place = a; bytes = old }) (held (owns k) q a l.found)
      n.words at bytes
      l.within
      (subst (λ f. Rewrites h.words n.words (record { from = f; count = (at % 8 + length bytes + 7) / 8 }) (λ i. object_word q new (1 + at / 8 + i)))
      from (rewrites (owns k) q at a bytes l each q (stored h k q _ (held (owns k) q a l.found)).0
      (k.image.held q (record { place = a; bytes = old }) (held (owns k) q a l.found)) n.words w))

  becomes : Becomes h n (insert (held_in h) q (record { place = a; bytes = new }))
  becomes = changes h n k q a (held (owns k) q a l.found) new (ap (class_for (paging_at h)) size) are
      (rest ∙ ap (λ x. record h { words = n.words; asked = x }) (sym (ap (λ (x : Heap). x.asked) rest)))
      w.long image (let e = ap (λ (x : Heap). x.asked) rest in let s = size in omega arith)

  pub wrote_kept : IsValid n
  wrote_kept = becomes_kept h n k (insert (held_in h) q (record { place = a; bytes = new })) becomes

  pub wrote : WritesBytes (state_of h) (record { number = q; from = at }) bytes (state_of n)
  wrote = record {
    object = record { place = a; bytes = old };
    found = held (owns k) q a l.found;
    within = l.within;
    outside = outside_in h.kind (paged_kind h k) (state_of h) (record { place = a; bytes = old }) (state_of n);
    whole = becomes_state h n k (insert (held_in h) q (record { place = a; bytes = new })) becomes
        ∙ ap (λ fs. record (state_of h)
        { held = insert (held_in h) q (record { place = a; bytes = new }); words = n.words; frames = fs; order = (state_of n).order; cost = n.cost })
        (ap (λ (x : Heap). x.frames) rest)
        ∙ ap (λ o. record (state_of h) { held = insert (held_in h) q (record { place = a; bytes = new }); words = n.words; order = o; cost = n.cost })
        (ap (λ (x : Heap). (state_of x).order) rest)
        ∙ ap (λ x. record (state_of h) { held = insert (held_in h) q (record { place = a; bytes = new }); words = n.words; cost = x })
        (ap (λ (x : Heap). x.cost) rest);
  }

-- to write no bytes changes nothing
pub wrote_nothing : (h : Heap) → IsValid h → (q at a : ℕ) (bytes : List ℕ) → length bytes ≡ 0
    → HoldsBytesAt (owner_in h) q at (length bytes) a → WritesBytes (state_of h) (record { number = q; from = at }) bytes (state_of h)
wrote_nothing h k q at a [] none l = record {
  object = record { place = a; bytes = bytes_at h.words a };
  found = held (owns k) q a l.found;
  within = l.within;
  outside = outside_in h.kind (paged_kind h k) (state_of h) (record { place = a; bytes = bytes_at h.words a }) (state_of h);
  whole =
      let fits = l.within in
      let same = written_nothing (bytes_at h.words a) at (omega arith) in
      ap (λ m. record (state_of h) { held = m })
      (sym (ap (λ v. insert (held_in h) q (record { place = a; bytes = v })) same
      ∙ inserted_there (held_in h) q (record { place = a; bytes = bytes_at h.words a }) (held (owns k) q a l.found)));
}
wrote_nothing h k q at a (x ∷ xs) none l = absurd (omega arith)
