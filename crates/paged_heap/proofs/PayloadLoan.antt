-- For `payload_mut` and `lend`, which lend the whole words of an object, eight bytes to a word: after the borrow the heap keeps its invariant and its rules,
-- and the object has the words that were written. If the number has no object, nothing changes. To write over the words that `find_words` finds is to write
-- over those.
use Rattle.std.proofs.Common.{◌≡◌, ℕ, ◌+◌, ◌-◌, ◌*◌, ◌/◌, ◌%◌, ◌^◌, ◌<◌, ◌≤◌, List, ◌++◌, length, get_or, take, drop, Option, Some, None, arith, sym, ◌∙◌, ap}
use Rattle.std.proofs.Common.{refl, subst, lit<, inl, inr}
use Rattle.std.proofs.lemmas.Bool.{cases_lt, false≢true}
use Rattle.std.proofs.lemmas.List.{get_or_past, get_or_default, length-take}
use Rattle.std.proofs.lemmas.List.FromFn.{length-map-range_with_len, get_or-map-range_with_len}
use Rattle.std.specs.Prelude.{is_some, IsTrue, option_map}
use Rattle.std.specs.FinMap.{get, insert}
use Rattle.page_model.specs.Held.{Held, Placed}
use Rattle.page_model.specs.Bytes.{AreBytes, byte_of, bytes_at, written}
use Rattle.region.specs.Lending.{fit, with_words}
use Rattle.region.proofs.CallerLemmas.{fit_below, length-with_words, length-fit, fit-words, loan_overwrites, overwritten_behind, overwritten_inside}
use Rattle.region.specs.Cells.{byte_in}
use Rattle.region.specs.Overwriting.{Overwrites}
use Rattle.cf_model.specs.Rules.{KeepsRules}
use Rattle.cf_model.specs.Steps.{WritesBytes}
use Rattle.paged_heap.specs.declared.open_heap.OpenHeap.{OpenHeap}
use Rattle.cf_base.specs.declared.kind.Kind.TheVariants.{Moving}
use Rattle.paged_heap.specs.Heap.{seen}
use Rattle.paged_heap.specs.Layout.{Holds, IsValid, IsValidIn, held_in, state_at, owner_in}
use Rattle.paged_heap.specs.PagedState.{PagedState, paged_in}
use Rattle.paged_heap.specs.PayloadLoan.{words_found, with_payload_at, with_payload_in, with_payload_of, with_run}
use Rattle.paged_heap.specs.Payload.{bytes_of_words, lent_back, payload_of, whole_words, with_object}
use Rattle.page_model.proofs.CallerLemmas.{byte_below}
use Rattle.paged_heap.proofs.LayoutFacts.{rules_in, owns}
use Rattle.paged_heap.proofs.WriteLemmas.{wrote, wrote_kept}
use Rattle.paged_heap.proofs.PayloadWords.{count_is, run_inside}
use Rattle.page_slots.proofs.CallerLemmas.{no_place, held}
use Rattle.page_slots.specs.Owner.{HoldsBytesAt}

-- the bytes of words
module _ (ws : List ℕ) where
  pub length-bytes_of_words : length (bytes_of_words ws) ≡ 8 * length ws
  length-bytes_of_words = length-map-range_with_len _ 0 _

  pub byte_of_words : (i : ℕ) → i < 8 * length ws → get_or (bytes_of_words ws) i 0 ≡ byte_of (i % 8) (get_or ws (i / 8) 0)
  byte_of_words i lt = get_or-map-range_with_len (λ i. byte_of (i % 8) (get_or ws (i / 8) 0)) 0 (8 * length ws) i i 0 lt (omega arith)

  bytes_of_words_are : AreBytes (bytes_of_words ws)
  bytes_of_words_are i = elim (cases_lt i (8 * length ws)) [
    | inl lt ↦ rw (byte_of_words i lt) (byte_below (i % 8) (get_or ws (i / 8) 0))
    | inr past ↦ rw (get_or_past (bytes_of_words ws) i 0 (simp length-bytes_of_words past)) (lit< tt)
  ]

-- a list that has been fitted to n words of 64 bits (`fit`) is not changed by fitting it again
fit_again : (n : ℕ) (ws : List ℕ) → fit n (fit n ws) ≡ fit n ws
fit_again n ws = fit-words n (fit n ws) (length-fit n ws) (λ i d lt. rw (get_or_default (fit n ws) i d 0 lt) (fit_below n ws i))

-- to put ws in the place of the n words from `first` on is to write the bytes of ws over the bytes of these words
run_overwritten : (old ws : List ℕ) (first n : ℕ) → first + n ≤ length old
    → Overwrites old (with_words old first n ws) (record { from = first; count = n }) 0 (bytes_of_words (fit n ws))
run_overwritten old ws first n inside =
    let long = length-fit n ws in
    let many = length-bytes_of_words (fit n ws) in
    subst (λ l. Overwrites old (take first old ++ (l ++ drop (first + n) old)) (record { from = first; count = n }) 0 (bytes_of_words (fit n ws)))
    (fit_again n ws)
    (loan_overwrites old (fit n ws) first n 0 (bytes_of_words (fit n ws)) inside long (λ j. elim (cases_lt j (8 * n)) [
      | inl lt ↦
          sym (overwritten_inside (byte_in (take n (drop first old))) 0 (bytes_of_words (fit n ws)) j (omega arith) (omega arith)
          ∙ ap (λ i. get_or (bytes_of_words (fit n ws)) i 0) (let e : j - 0 ≡ j = omega arith in e) ∙ byte_of_words (fit n ws) j (omega arith))
      | inr past ↦
          ap (byte_of (j % 8)) (get_or_past (fit n ws) (j / 8) 0 (omega arith) ∙ sym (get_or_past (take n (drop first old)) (j / 8) 0 (few (omega arith))))
          ∙ sym (overwritten_behind (byte_in (take n (drop first old))) 0 (bytes_of_words (fit n ws)) j (omega arith))
    ]))
  where
    few : {j : ℕ} → n ≤ j → length (take n (drop first old)) ≤ j
    few le = (let l = length-take n (drop first old) in omega arith)

-- the heap after a borrow of the whole words of an object: it is valid, and its state is `lent_back`
module _ (h : OpenHeap) (k : IsValid (seen Moving h)) (q a : ℕ) (some : get h.proxies.places q ≡ Some a) (ws : List ℕ) where
  abbrev was : List ℕ
  was = bytes_at h.region a

  abbrev many : ℕ
  many = length was / 8

  abbrev patch : List ℕ
  patch = bytes_of_words (fit many ws)

  abbrev left : OpenHeap
  left = with_run h (a + 1) many ws

  length-patch : length patch ≡ 8 * many
  length-patch = length-bytes_of_words (fit many ws) ∙ ap (λ n. 8 * n) (length-fit many ws)

  -- the number of words is read from the header
  pub left_is : (n : ℕ) → n ≡ many → with_run h (a + 1) n ws ≡ with_payload_at h a ws
  left_is n is = ap (λ n. with_run h (a + 1) n ws) (is ∙ sym (count_is h a (get_or h.region a 0 / 2 ^ 32) refl))

  lies_there : HoldsBytesAt (owner_in (seen Moving h)) q 0 (length patch) a
  lies_there = (let long = length-patch in record { found = some; within = omega arith })

  overwrites : Overwrites h.region left.region (record { from = a + 1 + 0 / 8; count = (0 % 8 + length patch + 7) / 8 }) (0 % 8) patch
  overwrites =
      let long = length-patch in
      let count : many ≡ (0 % 8 + length patch + 7) / 8 = omega arith in
      let first : a + 1 ≡ a + 1 + 0 / 8 = omega arith in
      subst (λ f. Overwrites h.region left.region (record { from = f; count = (0 % 8 + length patch + 7) / 8 }) 0 patch) first
      (subst (λ n. Overwrites h.region left.region (record { from = a + 1; count = n }) 0 patch) count
      (run_overwritten h.region ws (a + 1) many (run_inside h k q a some)))

  left_kept : IsValid (seen Moving left)
  left_kept = wrote_kept (seen Moving h) (seen Moving left) k q 0 a patch lies_there (bytes_of_words_are (fit many ws)) refl overwrites

  left_state : paged_in Moving (Some left) ≡ lent_back (paged_in Moving (Some h)) q ws
  left_state = rw (held (owns k) q a some) whole
    where
      w : WritesBytes (state_at Moving h) (record { number = q; from = 0 }) patch (state_at Moving left)
      w = wrote (seen Moving h) (seen Moving left) k q 0 a patch lies_there (bytes_of_words_are (fit many ws)) refl overwrites

      same : w.object ≡ record { place = a; bytes = was }
      same = (let f = w.found in let g = held (owns k) q a some in cc)

      whole : paged_in Moving (Some left) ≡ with_object (paged_in Moving (Some h)) q (record { place = a; bytes = was }) ws
      whole =
          let put : Placed → Held = λ x. insert (held_in (seen Moving h)) q (record x { bytes = written x.bytes 0 patch }) in
          ap (λ s. record { state = s; physical = left.region })
          (w.whole ∙ ap (λ (x : Placed). record (state_at Moving h) { held = put x; words = left.region }) same)

  -- as above, for `with_payload_at`
  payload_kept : IsValid (seen Moving (with_payload_at h a ws))
  payload_kept = subst (λ (x : OpenHeap). IsValid (seen Moving x)) (left_is many refl) left_kept

  payload_state : paged_in Moving (Some (with_payload_at h a ws)) ≡ lent_back (paged_in Moving (Some h)) q ws
  payload_state = ap (λ x. paged_in Moving (Some x)) (sym (left_is many refl)) ∙ left_state

-- as above, whether number q has an object or not
of_kept : (h : OpenHeap) → IsValid (seen Moving h) → (q : ℕ) (p : Option ℕ) → get h.proxies.places q ≡ p → (ws : List ℕ)
    → IsValid (seen Moving (with_payload_of h p ws))
of_kept h k q None e ws = k
of_kept h k q (Some a) e ws = payload_kept h k q a e ws

of_state : (h : OpenHeap) → IsValid (seen Moving h) → (q : ℕ) (p : Option ℕ) → get h.proxies.places q ≡ p → (ws : List ℕ)
    → paged_in Moving (Some (with_payload_of h p ws)) ≡ lent_back (paged_in Moving (Some h)) q ws
of_state h k q None e ws = rw (no_place (owner_in (seen Moving h)) q e) refl
of_state h k q (Some a) e ws = payload_state h k q a e ws

-- to write over a run of no words changes nothing; below, to write over the run that `find_words` finds is to write over the object's whole words
no_run : (words : List ℕ) (ws : List ℕ) → with_words words 0 0 ws ≡ words
unfolding fit
no_run words ws = refl

pub found_run : (h : OpenHeap) (p : Option ℕ) (ws : List ℕ) → with_run h (words_found h p).1 (words_found h p).2 ws ≡ with_payload_of h p ws
found_run h None ws = ap (λ (words : List ℕ). record h { region = words }) (no_run h.region ws)
found_run h (Some a) ws = refl

-- the region has as many words as before the borrow
payload_laid : (h : OpenHeap) → Holds Moving h → (q : ℕ) (p : Option ℕ) → get h.proxies.places q ≡ p → (ws : List ℕ)
    → length (with_payload_of h p ws).region ≡ length h.region
payload_laid h k q None e ws = refl
payload_laid h k q (Some a) e ws =
    let r = run_inside h k.kept q a e in
    let c = count_is h a (get_or h.region a 0 / 2 ^ 32) refl in
    length-with_words h.region (a + 1) (get_or h.region a 0 / 2 ^ 32 / 8) (omega arith) ws

same_blocks : (h : OpenHeap) (p : Option ℕ) (ws : List ℕ) → (with_payload_of h p ws).blocks ≡ h.blocks
same_blocks h None ws = refl
same_blocks h (Some a) ws = refl

pub lent_kept : (o : Option OpenHeap) → IsValidIn Moving o → (q : ℕ) (ws : List ℕ) → IsValidIn Moving (with_payload_in o q ws)
lent_kept None k q ws = tt
lent_kept (Some h) k q ws = record {
  laid = record {
    none = same_blocks h (get h.proxies.places q) ws ∙ k.laid.none;
    small = (let l = payload_laid h k q (get h.proxies.places q) refl ws in let s = k.laid.small in omega arith);
  };
  kept = of_kept h k.kept q (get h.proxies.places q) refl ws;
}

pub lent_state : (o : Option OpenHeap) → IsValidIn Moving o → (s : PagedState) → paged_in Moving o ≡ s → IsTrue s.state.is_open → (q : ℕ) (ws : List ℕ)
    → paged_in Moving (with_payload_in o q ws) ≡ lent_back s q ws
lent_state None k s is open_now q ws = absurd (false≢true (ap (λ (t : PagedState). t.state.is_open) is ∙ open_now))
lent_state (Some h) k s is open_now q ws = of_state h k.kept q (get h.proxies.places q) refl ws ∙ ap (λ t. lent_back t q ws) is

still_open : (o : Option OpenHeap) (s : PagedState) → paged_in Moving o ≡ s → IsTrue s.state.is_open → (q : ℕ) (ws : List ℕ)
    → IsTrue (is_some (with_payload_in o q ws))
still_open None s is open_now q ws = absurd (false≢true (ap (λ (t : PagedState). t.state.is_open) is ∙ open_now))
still_open (Some h) s is open_now q ws = refl

pub lent_rules : (o : Option OpenHeap) → IsValidIn Moving o → (s : PagedState) → paged_in Moving o ≡ s → IsTrue s.state.is_open → (q : ℕ) (ws : List ℕ)
    → KeepsRules (lent_back s q ws).state
lent_rules o k s is open_now q ws =
    subst (λ (t : PagedState). KeepsRules t.state) (lent_state o k s is open_now q ws) (rules_in Moving (with_payload_in o q ws) (lent_kept o k q ws) (still_open o s is open_now q ws))

-- if number q has no object, the state is unchanged
pub nothing_lent : (s : PagedState) (q : ℕ) (ws : List ℕ) → payload_of s.state q ≡ None → lent_back s q ws ≡ s
nothing_lent s q ws none = by_object (get s.state.held q) refl
  where
    by_object : (x : Option Placed) → get s.state.held q ≡ x → lent_back s q ws ≡ s
    by_object None e = rw e refl
    by_object (Some x) e = absurd (false≢true (ap is_some (sym none ∙ ap (option_map (λ (x : Placed). whole_words x.bytes)) e)))
