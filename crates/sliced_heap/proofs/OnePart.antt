-- For `write_half`, and for callers that write into lent words: bytes counted from the first word that a write touches are the object's, if its words lie side
-- by side.
use Rattle.std.proofs.Common.{◌≡◌, ◌≢◌, ℕ, ◌+◌, ◌-◌, ◌*◌, ◌/◌, ◌%◌, ◌^◌, ◌<◌, ◌≤◌, List, length, get_or, arith, sym, ◌∙◌, ap, subst, inl, inr}
use Rattle.std.proofs.lemmas.Bool.{cases_lt}
use Rattle.page_model.specs.Bytes.{byte_of}
use Rattle.region.specs.Cells.{overwritten}
use Rattle.region.specs.Overwriting.{Overwrites, byte_from}
use Rattle.region.proofs.CallerLemmas.{byte_shift, overwritten_before, overwritten_behind, overwritten_inside}
use Rattle.sliced_heap.specs.Writes.{WritesByPlaces, byte_by, word_from}

-- bytes that overwrite others are the same if they are counted from byte d on
shifted : (f g : ℕ → ℕ) (d from at : ℕ) (part : List ℕ) (k : ℕ) → d ≤ k → d + from ≡ at → g (k - d) ≡ f k
    → overwritten g from part (k - d) ≡ overwritten f at part k
shifted f g d from at part k le is same = elim (cases_lt k at) [
  | inl before ↦ overwritten_before g from part (k - d) (omega arith) ∙ same ∙ sym (overwritten_before f at part k before)
  | inr on ↦ elim (cases_lt k (at + length part)) [
    | inl inside ↦ (
        let e : k - d - from ≡ k - at = omega arith in
        overwritten_inside g from part (k - d) (omega arith) (omega arith) ∙ ap (λ i. get_or part i 0) e ∙ sym (overwritten_inside f at part k on inside))
    | inr behind ↦ overwritten_behind g from part (k - d) (omega arith) ∙ same ∙ sym (overwritten_behind f at part k behind)
  ]
]

-- byte k of the object, counted from the word after its header
byte_here : (words : List ℕ) (place k : ℕ) → byte_from words (place + 1) k ≡ byte_by (word_from place) words k
byte_here words place k = ap (λ i. byte_of (k % 8) (get_or words i 0)) (let e : place + 1 + k / 8 ≡ place + (1 + k / 8) = omega arith in e)

module _ (words : List ℕ) (place at k : ℕ) (le : 8 * (at / 8) ≤ k) where
  byte_later : byte_from words (place + 1 + at / 8) (k - 8 * (at / 8)) ≡ byte_by (word_from place) words k
  byte_later = byte_shift words (place + 1) (at / 8) k le ∙ byte_here words place k

-- a write over bytes of a run of words is a write over bytes of the object (`WritesByPlaces`)
pub part_writes : (old new : List ℕ) (place at : ℕ) (bytes : List ℕ) → length bytes ≢ 0
    → Overwrites old new (record { from = place + 1 + at / 8; count = (at % 8 + length bytes + 7) / 8 }) (at % 8) bytes
    → WritesByPlaces old new (word_from place) at bytes
part_writes old new place at bytes some o = record {
  others = λ w out. o.others w (elim (cases_lt w (place + 1 + at / 8)) [
    | inl low ↦ inl low
    | inr from ↦ elim (cases_lt w (place + 1 + at / 8 + (at % 8 + length bytes + 7) / 8)) [
      | inl inside ↦ absurd (out (w - place) (record { some = omega arith; first = omega arith; last = omega arith })
          (let e : place + (w - place) ≡ w = omega arith in e))
      | inr behind ↦ inr behind
    ]
  ]);
  small = λ i t. (
      let first = t.first in let last = t.last in
      let e : place + 1 + at / 8 + (i - 1 - at / 8) ≡ place + i = omega arith in
      subst (λ a. get_or new a 0 < 2 ^ 64) e (o.small (i - 1 - at / 8) (omega arith)));
  value = λ k t. (
      let first = t.first in let last = t.last in
      let le : 8 * (at / 8) ≤ k = omega arith in
      sym (byte_later new place at k le) ∙ o.value (k - 8 * (at / 8)) (omega arith)
      ∙ shifted (byte_by (word_from place) old) (byte_from old (place + 1 + at / 8)) (8 * (at / 8)) (at % 8) at bytes k le (omega arith)
      (byte_later old place at k le));
}
