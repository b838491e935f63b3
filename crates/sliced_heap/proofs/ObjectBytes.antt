-- For `find`, `read` and `write`: the halves of an object have each word and byte where the model has it; after a write in them the words are those of the
-- object with its new bytes.
use Rattle.std.proofs.Common.{◌≡◌, ℕ, suc, ◌+◌, ◌-◌, ◌*◌, ◌/◌, ◌%◌, ◌^◌, ◌<◌, ◌≤◌, List, [], ◌∷◌, length, get_or, arith, sym, ◌∙◌, ap, subst, inl, inr}
use Rattle.std.specs.Prelude.{if◌then◌else◌}
use Rattle.std.proofs.lemmas.Bool.{cases_eq, cases_lt}
use Rattle.cf_base.proofs.Tests.{eq_no, eq_yes}
use Rattle.page_model.specs.Bytes.{AreBytes, byte_of, written}
use Rattle.page_model.specs.Held.{Placed}
use Rattle.page_model.specs.Image.{object_word}
use Rattle.page_model.proofs.CallerLemmas.{byte_of_object, length-written, object_word_small, word_by_bytes, written_are_bytes}
use Rattle.page_model.proofs.CallerLemmas.{written_before, written_behind, written_inside, written_nothing}
use Rattle.region.specs.Cells.{overwritten}
use Rattle.region.proofs.CallerLemmas.{overwritten_before, overwritten_behind, overwritten_inside}
use Rattle.slice_model.specs.declared.job_slot.JobSlot.{JobSlot}
use Rattle.slice_model.specs.State.{Job, Idle, Clear, Move}
use Rattle.slice_model.specs.Words.{RewritesObject, byte_read, word_at}
use Rattle.slice_model.proofs.CallerLemmas.{word_done, word_left, word_of_other}
use Rattle.sliced_heap.specs.Halves.{byte_in_halves, halves_of, place_of_word, together}
use Rattle.sliced_heap.specs.Writes.{IsTouched, WritesByPlaces, byte_by}
use Rattle.sliced_heap.specs.declared.halves.Halves.{Halves}
use Rattle.sliced_heap.proofs.TwoParts.{word_high, word_low}

-- the halves of an object that moves from slot k to the address a
abbrev moved_halves : JobSlot → ℕ → Halves
moved_halves k a = record { to = a; from = k.address; done = k.done }

-- whatever job is pending, or none, the halves hold word i of the object where the model has it
pub word_by_halves : (j : Job) (h : ℕ) (x : Placed) (i : ℕ) → place_of_word (halves_of j h x.place) i ≡ word_at j h x i
word_by_halves Idle h x i = word_high (together x.place) i (omega arith)
word_by_halves (Clear k) h x i = word_high (together x.place) i (omega arith)
word_by_halves (Move q k) h x i = elim (cases_eq q h) [
  | inr ne ↦ ap (λ b. place_of_word (if b then moved_halves k x.place else together x.place) i) (eq_no q h ne) ∙ word_high (together x.place) i (omega arith)
      ∙ sym (word_of_other q h k x i ne)
  | inl is ↦ ap (λ b. place_of_word (if b then moved_halves k x.place else together x.place) i) (eq_yes q h is) ∙ elim (cases_lt i k.done) [
    | inl lt ↦ word_low (moved_halves k x.place) i lt ∙ sym (ap (λ r. word_at (Move r k) h x i) is ∙ word_done h k x i lt)
    | inr le ↦ word_high (moved_halves k x.place) i le ∙ sym (ap (λ r. word_at (Move r k) h x i) is ∙ word_left h k x i le)
  ]
]

pub byte_by_halves : (j : Job) (h : ℕ) (x : Placed) (words : List ℕ) (k : ℕ) → byte_in_halves (halves_of j h x.place) words k ≡ byte_read j words h x k
byte_by_halves j h x words k = ap (λ w. byte_of (k % 8) (get_or words w 0)) (word_by_halves j h x (1 + k / 8))

module _ (place : ℕ → ℕ) (h : ℕ) (v : List ℕ) (old new : List ℕ) (at : ℕ) (bytes : List ℕ)
    (low : h < 2 ^ 32) (short : length v < 2 ^ 32) (are : AreBytes v) (are' : AreBytes bytes) (fits : at + length bytes ≤ length v)
    (was : (i : ℕ) → i < 1 + (length v + 7) / 8 → get_or old (place i) 0 ≡ object_word h v i) (w : WritesByPlaces old new place at bytes) where
  old_byte : (k : ℕ) → 1 + k / 8 < 1 + (length v + 7) / 8 → byte_by place old k ≡ get_or v k 0
  old_byte k lt =
      let e : 1 + k / 8 ≡ suc (k / 8) = omega arith in
      ap (byte_of (k % 8)) (was (1 + k / 8) lt ∙ ap (object_word h v) e) ∙ byte_of_object h v k are

  new_byte : (k : ℕ) → 1 + k / 8 < 1 + (length v + 7) / 8 → overwritten (byte_by place old) at bytes k ≡ get_or (written v at bytes) k 0
  new_byte k lt = elim (cases_lt k at) [
    | inl before ↦ overwritten_before (byte_by place old) at bytes k before ∙ old_byte k lt ∙ sym (written_before v at bytes fits k before)
    | inr from ↦ elim (cases_lt k (at + length bytes)) [
      | inl inside ↦ (
          let e : at + (k - at) ≡ k = omega arith in
          overwritten_inside (byte_by place old) at bytes k from inside ∙ sym (written_inside v at bytes fits (k - at) (omega arith))
          ∙ ap (λ i. get_or (written v at bytes) i 0) e)
      | inr behind ↦ overwritten_behind (byte_by place old) at bytes k behind ∙ old_byte k lt ∙ sym (written_behind v at bytes fits k behind)
    ]
  ]

  -- a word that holds one of the bytes written is that of the object with the new bytes
  written_word : (i : ℕ) → IsTouched at (length bytes) (suc i) → get_or new (place (suc i)) 0 ≡ object_word h (written v at bytes) (suc i)
  written_word i t =
      let some = t.some in let last = t.last in let first = t.first in
      let size = length-written v at bytes fits in
      let good = written_are_bytes v at bytes fits are are' in
      word_by_bytes (get_or new (place (suc i)) 0) (object_word h (written v at bytes) (suc i)) (w.small (suc i) t)
      (object_word_small h (written v at bytes) (suc i) low (omega arith) good) (λ j lt. (
      let k : ℕ = 8 * i + j in
      let div : (8 * i + j) / 8 ≡ i = omega arith in
      let rem : (8 * i + j) % 8 ≡ j = omega arith in
      let word : 1 + (8 * i + j) / 8 ≡ suc i = omega arith in
      let touched : IsTouched at (length bytes) (1 + (8 * i + j) / 8) = subst (IsTouched at (length bytes)) (sym word) t in
      let a : byte_by place new (8 * i + j) ≡ byte_of j (get_or new (place (suc i)) 0) =
      ap (λ r. byte_of r (get_or new (place (1 + (8 * i + j) / 8)) 0)) rem ∙ ap (λ d. byte_of j (get_or new (place d) 0)) word in
      let b : byte_of ((8 * i + j) % 8) (object_word h (written v at bytes) (suc ((8 * i + j) / 8))) ≡ byte_of j (object_word h (written v at bytes) (suc i)) =
      ap (λ r. byte_of r (object_word h (written v at bytes) (suc ((8 * i + j) / 8)))) rem
      ∙ ap (λ d. byte_of j (object_word h (written v at bytes) (suc d))) div in
      sym a ∙ w.value (8 * i + j) touched ∙ new_byte (8 * i + j) (omega arith) ∙ sym (byte_of_object h (written v at bytes) (8 * i + j) good) ∙ b))

  -- if no byte is written, no word changes
  pub nothing_written : length bytes ≡ 0 → (a : ℕ) → get_or new a 0 ≡ get_or old a 0
  nothing_written none a = w.others a (λ i t. absurd (let some = t.some in omega arith))

  pub written_words : (i : ℕ) → i < (at % 8 + length bytes + 7) / 8 → get_or new (place (1 + at / 8 + i)) 0
      ≡ object_word h (written v at bytes) (1 + at / 8 + i)
  written_words i lt = elim (cases_eq (length bytes) 0) [
    | inl none ↦ nothing_written none (place (1 + at / 8 + i)) ∙ was (1 + at / 8 + i) (omega arith)
        ∙ ap (λ z. object_word h z (1 + at / 8 + i)) (sym (same bytes none fits))
    | inr some ↦ (
        let e : suc (at / 8 + i) ≡ 1 + at / 8 + i = omega arith in
        subst (λ d. get_or new (place d) 0 ≡ object_word h (written v at bytes) d) e
        (written_word (at / 8 + i) (record { some = omega arith; first = omega arith; last = omega arith })))
  ]
    where
      same : (bytes : List ℕ) → length bytes ≡ 0 → at + length bytes ≤ length v → written v at bytes ≡ v
      same [] none fits = written_nothing v at (omega arith)
      same (b ∷ bs) none fits = absurd (omega arith)

-- after a write in the halves the words of the object are those of the object with the new bytes
pub object_rewritten : (j : Job) (h : ℕ) (x : Placed) (old new : List ℕ) (at : ℕ) (bytes : List ℕ)
    → h < 2 ^ 32 → length x.bytes < 2 ^ 32 → AreBytes x.bytes → AreBytes bytes → at + length bytes ≤ length x.bytes
    → ((i : ℕ) → i < 1 + (length x.bytes + 7) / 8 → get_or old (word_at j h x i) 0 ≡ object_word h x.bytes i)
    → WritesByPlaces old new (place_of_word (halves_of j h x.place)) at bytes
    → RewritesObject j h x (written x.bytes at bytes) (record { from = 1 + at / 8; count = (at % 8 + length bytes + 7) / 8 }) old new
object_rewritten j h x old new at bytes low short are are' fits was w = record {
  within = λ i lt. ap (λ p. get_or new p 0) (sym (word_by_halves j h x (1 + at / 8 + i)))
      ∙ written_words (place_of_word (halves_of j h x.place)) h x.bytes old new at bytes low short are are' fits
      (λ i lt. ap (λ p. get_or old p 0) (word_by_halves j h x i) ∙ was i lt) w i lt;
  others = λ a out. w.others a (λ i t e. (
      let some = t.some in let first = t.first in let last = t.last in
      let same : 1 + at / 8 + (i - 1 - at / 8) ≡ i = omega arith in
      out (i - 1 - at / 8) (omega arith) (ap (word_at j h x) same ∙ sym (word_by_halves j h x i) ∙ e)));
}
