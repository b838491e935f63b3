-- For `find`, `read`, `write`, `length` and, of writes, `LentWrite`: a number without an address has no object. An object's words, also while the object is in
-- motion, are in two halves in the region that don't overlap, and its header holds its length. A read returns the object's bytes, a write leaves a valid heap
-- in which it has the new ones; bytes past its end are a fault.
use Rattle.std.proofs.Common.{◌≡◌, ℕ, ◌+◌, ◌/◌, ◌%◌, ◌^◌, ◌<◌, ◌≤◌, List, length, get_or, Some, None, arith, refl, sym, ◌∙◌, ap, subst, inl, inr}
use Rattle.std.specs.Prelude.{option_map}
use Rattle.std.proofs.lemmas.Bool.{cases_eq}
use Rattle.std.specs.FinMap.{get, insert}
use Rattle.cf_base.specs.declared.results.AccessFault.TheVariants as access
use Rattle.cf_base.proofs.Maps.{some_inserted}
use Rattle.cf_base.proofs.MapValues.{get-map_values, map_values-insert}
use Rattle.cf_base.proofs.Tests.{eq_no, eq_yes}
use Rattle.page_model.specs.Arrangement.{class_at, live}
use Rattle.page_model.specs.Bytes.{AreBytes, written}
use Rattle.page_model.specs.Held.{Held, Placed, objects, places}
use Rattle.page_model.specs.Image.{slot_for}
use Rattle.page_model.specs.Paging.{Paging, class_for, slot_words}
use Rattle.page_model.proofs.CallerLemmas.{bytes_held, inserted_there, length-written, written_are_bytes, live_rewritten}
use Rattle.page_slots.specs.Occupying.{Occupies, FitPages}
use Rattle.page_slots.proofs.CallerLemmas.{rewritten_occupied}
use Rattle.proxy_table.specs.Proxies.{AreBelowLimit}
use Rattle.slice_model.specs.declared.job_slot.JobSlot.{JobSlot}
use Rattle.slice_model.specs.State.{Job, Sliced, job_slot, occupied, Idle, Clear, Move}
use Rattle.slice_model.specs.Runs.{IsOutOfReach, ReadsWithWords, WritesWithWords}
use Rattle.slice_model.specs.Words.{RewritesObject}
use Rattle.slice_model.proofs.CallerLemmas.{beside, inserted_beside, job_within, kept_apart, kept_write, mover_class, own_words_at, words_written}
use Rattle.sliced_heap.specs.Halves.{HalvesAreApart, byte_in_halves, halves_of, place_of_word}
use Rattle.sliced_heap.specs.Writes.{WritesByPlaces}
use Rattle.sliced_heap.specs.declared.halves.Halves.{Halves}
use Rattle.sliced_heap.proofs.ObjectBytes.{byte_by_halves, object_rewritten, word_by_halves}
use Rattle.sliced_heap.proofs.TwoParts.{word_high, word_low}
use Rattle.sliced_heap.specs.Heap.{Heap}
use Rattle.sliced_heap.specs.Layout.{IsValid, plan_of, sliced_paging, sliced_state_of, sliced_tables_in, working_of}
use Rattle.sliced_heap.specs.Access.{HoldsSlicedBytes, sliced_length_in}
use Rattle.sliced_heap.proofs.Facts.{has_place, held_bytes, no_place, plan_ok, places_are}
use Rattle.sliced_heap.proofs.Headers.{bytes_few, head_length, holds, inside, number_low}
use Rattle.page_model.specs.Figures.{asked_bytes, taken_bytes}
use Rattle.sliced_heap.proofs.ByteCounts.{asked_rewritten, taken_rewritten}
use Rattle.sliced_heap.proofs.Counts.{needed_same}
use Rattle.sliced_heap.proofs.HeldFromWords.{place_there}
use Rattle.sliced_heap.proofs.Preserved.{Becomes, becomes_state, becomes_valid}

-- both halves of an object lie in the region, also if one is in the job's slot
halves_within : (p : Paging) (count : ℕ) (j : Job) (q : ℕ) (x : Placed) → x.place + slot_for p (length x.bytes) ≤ count
    → ((k : JobSlot) → j ≡ Move q k → k.address + slot_for p (length x.bytes) ≤ count)
    → ((halves_of j q x.place).to + slot_for p (length x.bytes) ≤ count) × ((halves_of j q x.place).from + slot_for p (length x.bytes) ≤ count)
halves_within p count Idle q x inside job = (inside, inside)
halves_within p count (Clear k) q x inside job = (inside, inside)
halves_within p count (Move r k) q x inside job = elim (cases_eq r q) [
  | inl is ↦ (let f = eq_yes r q is in rw f (inside, job k (ap (λ r. Move r k) is)))
  | inr ne ↦ (let f = eq_no r q ne in rw f (inside, inside))
]

module _ (h : Heap) (k : IsValid h) (q : ℕ) (x : Placed) (there : get (sliced_state_of h).held q ≡ Some x) where
  abbrev m : Held
  m = (sliced_state_of h).held

  abbrev s : Halves
  s = halves_of h.job q x.place

  class : (g : JobSlot) (r : ℕ) (y : Placed) → h.job ≡ Move r g → get m r ≡ Some y → class_at (sliced_paging h) y ≡ g.class
  class = mover_class (sliced_paging h) m h.job k.kept.job

  pub within : ((halves_of h.job q x.place).to + slot_for (sliced_paging h) (length x.bytes) ≤ length h.words)
      × ((halves_of h.job q x.place).from + slot_for (sliced_paging h) (length x.bytes) ≤ length h.words)
  within = halves_within (sliced_paging h) (length h.words) h.job q x (inside h k q x there) (λ g move. (
      let l = job_within (plan_of h) (plan_ok h k) m h.job k.kept g (ap job_slot move) in
      let size : slot_for (sliced_paging h) (length x.bytes) ≡ slot_words (sliced_paging h) g.class = ap (slot_words (sliced_paging h)) (class g q x move there) in
      let long = k.words_long in
      omega arith))

  -- no word of the first half has the address of one of the second
  pub apart : (n : ℕ) → n ≤ slot_for (sliced_paging h) (length x.bytes) → HalvesAreApart (halves_of h.job q x.place) n
  apart n le i j lt ge less same =
      let a = word_low s i lt in
      let b = word_high s j ge in
      let own = own_words_at (sliced_paging h) m h.job (kept_apart (plan_of h) (plan_ok h k) (sliced_state_of h) k.kept) class q x q x there there i (omega arith) j
      (omega arith)
      (sym (word_by_halves h.job q x i) ∙ a ∙ same ∙ sym b ∙ word_by_halves h.job q x j) in
      let e = own.1 in
      omega arith

  -- bytes that pass the object's end
  pub out_of_reach : (from count : ℕ) → length x.bytes < from + count
      → (v : List ℕ) × (get (objects (sliced_state_of h).held) q ≡ Some v) × (length v < from + count)
  out_of_reach from count more = (x.bytes, bytes_held m q x there, more)

  -- bytes of the object that are read
  pub reads : (at count : ℕ) → at + count ≤ length x.bytes → (out : List ℕ) → length out ≡ count
      → ((i : ℕ) → i < length out → get_or out i 0 ≡ byte_in_halves (halves_of h.job q x.place) h.words (at + i))
      → ReadsWithWords (working_of h) (record { number = q; from = at }) count out
  reads at count fits out long each = record {
    object = x;
    found = there;
    fits = fits;
    size = long;
    bytes = λ i lt. each i (omega arith) ∙ byte_by_halves h.job q x h.words (at + i);
  }

  -- bytes that are written over those of the object
  module _ (at : ℕ) (bytes : List ℕ) (are : AreBytes bytes) (fits : at + length bytes ≤ length x.bytes) (n : Heap)
      (rest : n ≡ record h { words = n.words }) (long : length n.words ≡ length h.words)
      (w : WritesByPlaces h.words n.words (place_of_word (halves_of h.job q x.place)) at bytes) where
    abbrev z : Placed
    z = record { place = x.place; bytes = written x.bytes at bytes }

    abbrev t : Sliced
    t = record { held = insert m q z; job = h.job }

    rewrites : RewritesObject h.job q x (written x.bytes at bytes) (record { from = 1 + at / 8; count = (at % 8 + length bytes + 7) / 8 }) h.words n.words
    rewrites = object_rewritten h.job q x h.words n.words at bytes (number_low h k q x there) (let few = bytes_few h k q x there in omega arith)
        (held_bytes h k q x there) are fits (λ i lt. k.words.held q x there i (let o = holds h k q x there in omega arith)) w

    same_class : class_for (sliced_paging h) (length (written x.bytes at bytes)) ≡ class_for (sliced_paging h) (length x.bytes)
    same_class = ap (class_for (sliced_paging h)) (length-written x.bytes at bytes fits)

    some : get (objects m) q ≡ Some x.bytes
    some = bytes_held m q x there

    objects_are : objects (insert m q z) ≡ insert (objects m) q (written x.bytes at bytes)
    objects_are = map_values-insert (λ (y : Placed). y.bytes) m q z

    live_same : (c : ℕ) → live (sliced_paging h) (objects (insert m q z)) c ≡ live (sliced_paging h) (objects m) c
    live_same c = ap (λ o. live (sliced_paging h) o c) objects_are
        ∙ live_rewritten (sliced_paging h) (objects m) q x.bytes (written x.bytes at bytes) some same_class c

    places_same : places (insert m q z) ≡ places m
    places_same = map_values-insert (λ (y : Placed). y.place) m q z
        ∙ inserted_there (places m) q x.place (place_there m (places m) refl q x there)

    stands : Occupies (sliced_paging h) (occupied (plan_of h) t) (sliced_tables_in h)
    stands = subst (λ o. Occupies (sliced_paging h) o (sliced_tables_in h)) (inserted_beside (plan_of h) m (job_slot h.job) q z (k.kept.numbers q x there))
        (rewritten_occupied k.occupied q (beside (plan_of h) (plan_ok h k) (sliced_state_of h) k.kept q x there) (written x.bytes at bytes) same_class)

    becomes : Becomes h n t
    becomes = record {
      settings = ap (λ (y : Heap). y.settings) rest;
      quantum = ap (λ (y : Heap). y.quantum) rest;
      table = ap (λ (y : Heap). y.classes) rest;
      job = ap (λ (y : Heap). y.job) rest;
      long = long;
      kept = kept_write (plan_of h) (plan_ok h k) (sliced_state_of h) k.kept q x there (written x.bytes at bytes) (length-written x.bytes at bytes fits);
      words = words_written (plan_of h) (plan_ok h k) (sliced_state_of h) k.kept h.words n.words k.words q x there at bytes fits rewrites;
      bytes = λ r y there'. elim (some_inserted m q z r y there') [
        | inl (_, same) ↦ subst (λ (y : Placed). AreBytes y.bytes) same (written_are_bytes x.bytes at bytes fits (held_bytes h k q x there) are)
        | inr (_, was) ↦ held_bytes h k r y was
      ];
      addresses = ap (λ (y : Heap). y.proxies.places) rest ∙ places_are h k ∙ sym places_same;
      limit = ap (λ (y : Heap). y.proxies.limit) rest;
      handles = subst AreBelowLimit (sym (ap (λ (y : Heap). y.proxies) rest)) k.handles;
      serve = subst (FitPages (sliced_paging h)) (sym (ap sliced_tables_in rest)) k.serve;
      occupied = subst (Occupies (sliced_paging h) (occupied (plan_of h) t)) (sym (ap sliced_tables_in rest)) stands;
      live_long = ap (λ (y : Heap). length y.live) rest ∙ k.live_long;
      counted = λ c lt. ap (λ (y : Heap). get_or y.live c 0) rest ∙ k.counted c lt ∙ sym (live_same c);
      needed = ap (λ (y : Heap). y.needed) rest ∙ k.needed ∙ sym (needed_same (sliced_paging h) (objects (insert m q z)) (objects m) live_same);
      within = (let now = ap (λ (y : Heap). y.needed) rest in let w = k.within in omega arith);
      asked = ap (λ (y : Heap). y.asked) rest ∙ k.asked_all
          ∙ sym (ap asked_bytes objects_are ∙ asked_rewritten (sliced_paging h) (objects m) q x.bytes (written x.bytes at bytes) some (length-written x.bytes at bytes fits));
      taken = ap (λ (y : Heap). y.taken) rest ∙ k.taken_all
          ∙ sym (ap (taken_bytes (sliced_paging h)) objects_are
          ∙ taken_rewritten (sliced_paging h) (objects m) q x.bytes (written x.bytes at bytes) some (length-written x.bytes at bytes fits));
    }

    pub written_valid : IsValid n
    written_valid = becomes_valid h n k t becomes

    pub written_held : (sliced_state_of n).held ≡ insert (sliced_state_of h).held q (record { place = x.place; bytes = written x.bytes at bytes })
    written_held = ap (λ (s : Sliced). s.held) (becomes_state h n k t becomes)

    pub writes : WritesWithWords (working_of h) (record { number = q; from = at }) bytes (working_of n)
    writes = record {
      object = x;
      found = there;
      fits = fits;
      are_bytes = are;
      state = becomes_state h n k t becomes;
      words = rewrites;
    }

-- a number without an address has no object
pub unknown : (h : Heap) (k : IsValid h) (q : ℕ) → get h.proxies.places q ≡ None → get (objects (sliced_state_of h).held) q ≡ None
unknown h k q none = get-map_values (λ (y : Placed). y.bytes) (sliced_state_of h).held q ∙ ap (option_map (λ (y : Placed). y.bytes)) (no_place h k q none)

-- what `find` returns for a live number q, whose address is a and whose words lie in the halves s
module _ (h : Heap) (k : IsValid h) (q a : ℕ) (known : get h.proxies.places q ≡ Some a) (s : Halves) (is : s ≡ halves_of h.job q a) where
  found : (x : Placed) × (get (sliced_state_of h).held q ≡ Some x) × (x.place ≡ a)
  found = has_place h k q a known

  abbrev x : Placed
  x = found.0

  halves_are : s ≡ halves_of h.job q x.place
  halves_are = is ∙ ap (halves_of h.job q) (sym found.2)

  pub head_to : s.to + 0 < length h.words
  head_to = (let w = (within h k q x found.1).0 in let o = holds h k q x found.1 in let e : s.to ≡ (halves_of h.job q x.place).to =
      ap (λ (y : Halves). y.to) halves_are in
      omega arith)

  pub head_from : s.from + 0 < length h.words
  head_from = (let w = (within h k q x found.1).1 in let o = holds h k q x found.1 in
      let e : s.from ≡ (halves_of h.job q x.place).from = ap (λ (y : Halves). y.from) halves_are in omega arith)

  -- `size` is the length that the header holds: that of the object
  module _ (size : ℕ) (shown : size ≡ get_or h.words (place_of_word s 0) 0 / 2 ^ 32) where
    size_is : size ≡ length x.bytes
    size_is = shown ∙ head_length h k q x found.1 (place_of_word s 0) (ap (λ y. place_of_word y 0) halves_are ∙ word_by_halves h.job q x 0)

    pub passes : (from count : ℕ) → size < from + count → IsOutOfReach (objects (sliced_state_of h).held) (record { number = q; from = from }) count access.Range
    passes from count more = (let e = size_is in out_of_reach h k q x found.1 from count (omega arith))

    -- so the length of the object is found
    pub length_read : Some size ≡ sliced_length_in (sliced_state_of h).held q
    length_read = ap Some size_is ∙ sym (ap (option_map (λ (y : Placed). length y.bytes)) found.1)

    pub lies : (from count : ℕ) → from + count ≤ size → HoldsSlicedBytes h (record { number = q; from = from }) count s
    lies from count fits = record { object = x; found = found.1; within = (let e = size_is in omega arith); halves = halves_are }

-- `count` bytes from byte `at` on, which an object has: their words are in the region
module _ (h : Heap) (k : IsValid h) (q at count : ℕ) (s : Halves) (l : HoldsSlicedBytes h (record { number = q; from = at }) count s) where
  room : (1 + (at + count + 7) / 8 ≤ slot_for (sliced_paging h) (length l.object.bytes)) × (at + count ≤ 131072)
  room = (let o = holds h k q l.object l.found in let few = bytes_few h k q l.object l.found in let w = l.within in (omega arith, omega arith))

  pub part_short : at + count < 2 ^ 32
  part_short = (let r = room.1 in omega arith)

  pub part_to : s.to + 1 + (at + count + 7) / 8 ≤ length h.words
  part_to = (let w = (within h k q l.object l.found).0 in let r = room.0 in
      let e : s.to ≡ (halves_of h.job q l.object.place).to = ap (λ (y : Halves). y.to) l.halves in omega arith)

  pub part_from : s.from + 1 + (at + count + 7) / 8 ≤ length h.words
  part_from = (let w = (within h k q l.object l.found).1 in let r = room.0 in
      let e : s.from ≡ (halves_of h.job q l.object.place).from = ap (λ (y : Halves). y.from) l.halves in omega arith)

  pub part_apart : HalvesAreApart s (1 + (at + count + 7) / 8)
  part_apart = subst (λ y. HalvesAreApart y (1 + (at + count + 7) / 8)) (sym l.halves) (apart h k q l.object l.found (1 + (at + count + 7) / 8) room.0)

  pub part_read : (out : List ℕ) → length out ≡ count → ((i : ℕ) → i < length out → get_or out i 0 ≡ byte_in_halves s h.words (at + i))
      → ReadsWithWords (working_of h) (record { number = q; from = at }) count out
  part_read out long each = reads h k q l.object l.found at count l.within out long
      (λ i lt. each i lt ∙ ap (λ y. byte_in_halves y h.words (at + i)) l.halves)

module _ (h : Heap) (k : IsValid h) (q at : ℕ) (s : Halves) (bytes : List ℕ) (are : AreBytes bytes)
    (l : HoldsSlicedBytes h (record { number = q; from = at }) (length bytes) s) (n : Heap)
    (rest : n ≡ record h { words = n.words }) (long : length n.words ≡ length h.words) (w : WritesByPlaces h.words n.words (place_of_word s) at bytes) where
  written_there : WritesByPlaces h.words n.words (place_of_word (halves_of h.job q l.object.place)) at bytes
  written_there = subst (λ y. WritesByPlaces h.words n.words (place_of_word y) at bytes) l.halves w

  pub part_valid : IsValid n
  part_valid = written_valid h k q l.object l.found at bytes are l.within n rest long written_there

  pub part_written : WritesWithWords (working_of h) (record { number = q; from = at }) bytes (working_of n)
  part_written = writes h k q l.object l.found at bytes are l.within n rest long written_there
