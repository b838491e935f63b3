-- For `payload`, `payload_mut` and `find_words`: the words after an object's header that are lent are its whole words, eight bytes to a word, and lie in the
-- region. A number that is not live has none. The steps of lending.
use Rattle.std.proofs.Common.{◌≡◌, ℕ, suc, ◌+◌, ◌*◌, ◌/◌, ◌^◌, ◌<◌, ◌≤◌, Bool, List, length, get_or, take, drop, Option, Some, None, arith, sym, refl, subst}
use Rattle.std.proofs.Common.{◌∙◌, ap}
use Rattle.std.proofs.lemmas.Grind.{same_number_lists}
use Rattle.std.proofs.lemmas.List.{get_or-take, get_or-drop, length-take-le, length-drop}
use Rattle.std.proofs.lemmas.List.FromFn.{length-map-range_with_len, get_or-map-range_with_len}
use Rattle.std.specs.Prelude.{option_map}
use Rattle.std.specs.FinMap.{get}
use Rattle.page_model.specs.Held.{Placed}
use Rattle.page_model.specs.Bytes.{bytes_at}
use Rattle.page_model.specs.Image.{word_of_bytes}
use Rattle.paged_heap.specs.declared.open_heap.OpenHeap.{OpenHeap}
use Rattle.cf_base.specs.declared.kind.Kind.TheVariants.{Moving}
use Rattle.paged_heap.specs.Heap.{seen}
use Rattle.paged_heap.specs.Layout.{IsValid, state_at, owner_in}
use Rattle.paged_heap.specs.PayloadLoan.{words_found}
use Rattle.paged_heap.specs.Payload.{payload_bound, payload_of, whole_words, words_lent}
use Rattle.step_ledger.specs.Counting.{RoseAtMost, RoseBy}
use Rattle.paged_heap.proofs.LayoutFacts.{owns}
use Rattle.page_model.proofs.CallerLemmas.{bytes_long}
use Rattle.page_slots.proofs.CallerLemmas.{no_place, held, slot_there, holds}

pub length-whole_words : (v : List ℕ) → length (whole_words v) ≡ length v / 8
length-whole_words v = length-map-range_with_len _ 0 _

-- a number without an address has no words
pub none_lent : (h : OpenHeap) → IsValid (seen Moving h) → (q : ℕ) → get h.proxies.places q ≡ None → payload_of (state_at Moving h) q ≡ None
none_lent h k q none = ap (option_map (λ (x : Placed). whole_words x.bytes)) (no_place (owner_in (seen Moving h)) q none)

-- the number of words, as it is read from the header
pub count_is : (h : OpenHeap) (a read : ℕ) → read ≡ get_or h.region a 0 / 2 ^ 32 → read / 8 ≡ length (bytes_at h.region a) / 8
count_is h a read is = (let long = bytes_long h.region a in omega arith)

-- object q, at the address a
module _ (h : OpenHeap) (k : IsValid (seen Moving h)) (q a : ℕ) (some : get h.proxies.places q ≡ Some a) where
  abbrev bytes : List ℕ
  bytes = bytes_at h.region a

  pub run_inside : a + 1 + length bytes / 8 ≤ length h.region
  run_inside = (let s = slot_there (owns k) q a some in let o = holds (owns k) q a some in omega arith)

  pub run_small : a + 1 < 2 ^ 32
  run_small = (let r = run_inside in let long = k.words_long in let small = h.settings.small_region in omega arith)

  -- the words after the header are the whole words of the bytes
  pub words_are : take (length bytes / 8) (drop (a + 1) h.region) ≡ whole_words bytes
  words_are =
      let inside = run_inside in
      let o = holds (owns k) q a some in
      let left = length-drop (a + 1) h.region in
      let words = drop (a + 1) h.region in
      let long : length (take (length bytes / 8) words) ≡ length bytes / 8 = length-take-le (length bytes / 8) words (omega arith) in
      let whole = length-whole_words bytes in
      same_number_lists (take (length bytes / 8) (drop (a + 1) h.region)) (whole_words bytes) (long ∙ sym whole) (λ j lt.
      let place : a + 1 + j ≡ a + suc j = omega arith in
      get_or-take (length bytes / 8) (drop (a + 1) h.region) j 0 (omega arith) ∙ get_or-drop (a + 1) h.region j 0 ∙ ap (λ i. get_or h.region i 0) place
      ∙ k.image.held q (record { place = a; bytes = bytes }) (held (owns k) q a some) (suc j) (omega arith)
      ∙ sym (get_or-map-range_with_len (λ i. word_of_bytes (take 8 (drop (8 * i) bytes))) 0 (length bytes / 8) j j 0 (omega arith) (omega arith)))

  pub some_lent : payload_of (state_at Moving h) q ≡ Some (whole_words bytes)
  some_lent = ap (option_map (λ (x : Placed). whole_words x.bytes)) (held (owns k) q a some)

  -- the words after the header, as many as the length in the header says, are those that `payload` lends
  pub lent_is : (n : ℕ) → n ≡ length bytes / 8 → (ws : List ℕ) → ws ≡ take n (drop (a + 1) h.region) → Some ws ≡ payload_of (state_at Moving h) q
  lent_is n is ws e = ap Some (e ∙ ap (λ m. take m (drop (a + 1) h.region)) is ∙ words_are) ∙ sym some_lent

-- the words that `find_words` finds are those to lend, whether number q has an object or not
lent_found : (h : OpenHeap) → IsValid (seen Moving h) → (q : ℕ) (p : Option ℕ) → get h.proxies.places q ≡ p → (ws : List ℕ)
    → ws ≡ take (words_found h p).2 (drop (words_found h p).1 h.region)
    → words_lent (words_found h p).0 ws ≡ payload_of (state_at Moving h) q
lent_found h k q None e ws is = sym (none_lent h k q e)
lent_found h k q (Some a) e ws is = lent_is h k q a e _ (count_is h a (get_or h.region a 0 / 2 ^ 32) refl) ws is

found_bound : (h : OpenHeap) (p : Option ℕ) (ws : List ℕ) (s t u : ℕ) → length ws ≡ (words_found h p).2 → RoseAtMost s t 2 → RoseBy t u (words_found h p).2
    → RoseAtMost s u (payload_bound (words_lent (words_found h p).0 ws))
found_bound h None ws s t u long a b =
    let x = a.kept in let y = a.bound in let z = b.kept in let w = b.bound in
    record { kept = omega arith; bound = omega arith }
found_bound h (Some p) ws s t u long a b =
    let x = a.kept in let y = a.bound in let z = b.kept in let w = b.bound in
    record { kept = omega arith; bound = omega arith }

-- as above, for what `find_words` returned
module _ (h : OpenHeap) (k : IsValid (seen Moving h)) (q : ℕ) (r : Bool × ℕ × ℕ) (found : r ≡ words_found h (get h.proxies.places q)) (ws : List ℕ) where
  pub value_lent : ws ≡ take r.2 (drop r.1 h.region) → words_lent r.0 ws ≡ payload_of (state_at Moving h) q
  value_lent =
      subst (λ (r : Bool × ℕ × ℕ). ws ≡ take r.2 (drop r.1 h.region) → words_lent r.0 ws ≡ payload_of (state_at Moving h) q) (sym found)
      (lent_found h k q (get h.proxies.places q) refl ws)

  pub bound_lent : (s t u : ℕ) → length ws ≡ r.2 → RoseAtMost s t 2 → RoseBy t u r.2 → RoseAtMost s u (payload_bound (words_lent r.0 ws))
  bound_lent s t u =
      subst (λ (r : Bool × ℕ × ℕ). length ws ≡ r.2 → RoseAtMost s t 2 → RoseBy t u r.2 → RoseAtMost s u (payload_bound (words_lent r.0 ws))) (sym found)
      (found_bound h (get h.proxies.places q) ws s t u)
