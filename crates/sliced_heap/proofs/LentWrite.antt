-- For callers that lend the region's words: if no job is pending and a caller writes an object's bytes into them, the heap is valid, and the object has these
-- bytes.
use Rattle.std.proofs.Common.{◌≡◌, ◌≢◌, ℕ, ◌+◌, ◌/◌, ◌%◌, ◌≤◌, List, length, Some, refl, sym, subst}
use Rattle.std.specs.Prelude.{Bool, true, false, if◌then◌else◌, nat_le}
use Rattle.std.specs.FinMap.{get, insert}
use Rattle.page_model.specs.Bytes.{AreBytes, written}
use Rattle.page_model.specs.Held.{Placed}
use Rattle.region.specs.Overwriting.{Overwrites}
use Rattle.slice_model.specs.State.{Idle}
use Rattle.sliced_heap.specs.Halves.{halves_of, place_of_word, together}
use Rattle.sliced_heap.specs.Heap.{Heap}
use Rattle.sliced_heap.specs.Layout.{IsValid, sliced_state_of}
use Rattle.sliced_heap.specs.Writes.{WritesByPlaces, word_from}
use Rattle.sliced_heap.proofs.AccessLemmas.{written_held, written_valid}
use Rattle.sliced_heap.proofs.OnePart.{part_writes}

if_same : (b : Bool) (n : ℕ) → (if b then n else n) ≡ n
if_same true n = refl
if_same false n = refl

-- all words of an object that no job moves are at its address
alone : (a : ℕ) → word_from a ≡ place_of_word (together a)
alone a = λ t i. sym (if_same (nat_le 0 i) (a + i)) t

module _ (h : Heap) (k : IsValid h) (idle : h.job ≡ Idle) (q : ℕ) (x : Placed) (there : get (sliced_state_of h).held q ≡ Some x) (at : ℕ) (bytes : List ℕ)
    (are : AreBytes bytes) (some : length bytes ≢ 0) (fits : at + length bytes ≤ length x.bytes) (n : Heap) (rest : n ≡ record h { words = n.words })
    (o : Overwrites h.words n.words (record { from = x.place + 1 + at / 8; count = (at % 8 + length bytes + 7) / 8 }) (at % 8) bytes) where
  by_places : WritesByPlaces h.words n.words (place_of_word (halves_of h.job q x.place)) at bytes
  by_places = subst (λ j. WritesByPlaces h.words n.words (place_of_word (halves_of j q x.place)) at bytes) (sym idle)
      (subst (λ f. WritesByPlaces h.words n.words f at bytes) (alone x.place) (part_writes h.words n.words x.place at bytes some o))

  pub lent_valid : IsValid n
  lent_valid = written_valid h k q x there at bytes are fits n rest o.long by_places

  pub lent_held : (sliced_state_of n).held ≡ insert (sliced_state_of h).held q (record { place = x.place; bytes = written x.bytes at bytes })
  lent_held = written_held h k q x there at bytes are fits n rest o.long by_places
