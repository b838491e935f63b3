-- A write of bytes to an object of an owner of pages: each word that is written becomes the object's word with its new bytes.
use Rattle.std.proofs.Common.{◌≡◌, ℕ, suc, ◌+◌, ◌-◌, ◌*◌, ◌/◌, ◌%◌, ◌^◌, ◌<◌, List, length, get_or, arith, sym, ◌∙◌, ap, inl, inr}
use Rattle.std.proofs.lemmas.Bool.{cases_lt}
use Rattle.page_model.specs.Bytes.{AreBytes, byte_of, bytes_at, written}
use Rattle.page_model.specs.Image.{Rewrites, object_word, slot_for}
use Rattle.page_model.proofs.CallerLemmas.{byte_of_object, bytes_at-AreBytes, length-written, object_word_small, word_by_bytes, written_are_bytes}
use Rattle.page_model.proofs.CallerLemmas.{written_before}
use Rattle.page_model.proofs.CallerLemmas.{written_behind, written_inside}
use Rattle.region.specs.Cells.{overwritten}
use Rattle.region.specs.Overwriting.{Overwrites}
use Rattle.region.proofs.CallerLemmas.{overwritten_before, overwritten_behind, overwritten_inside}
use Rattle.page_slots.specs.Owner.{HoldsBytesAt, Owner}
use Rattle.page_slots.proofs.Owner.{OwnsObjects, bytes_few, holds}

-- the object q at the address a, whose header has the number n
module _ {w : Owner} (k : OwnsObjects w) (q at a : ℕ) (bytes : List ℕ) (l : HoldsBytesAt w q at (length bytes) a) (each : AreBytes bytes) (n : ℕ)
    (few : n < 2 ^ 32)
    (stands : (i : ℕ) → i < slot_for w.paging (length (bytes_at w.words a)) → get_or w.words (a + i) 0 ≡ object_word n (bytes_at w.words a) i)
    (words : List ℕ) (o : Overwrites w.words words (record { from = a + 1 + at / 8; count = (at % 8 + length bytes + 7) / 8 }) (at % 8) bytes) where
  abbrev old : List ℕ
  old = bytes_at w.words a

  abbrev new : List ℕ
  new = written old at bytes

  are : AreBytes new
  are = written_are_bytes old at bytes l.within (bytes_at-AreBytes w.words a) each

  -- byte b of the object's words, and of the new ones
  old_byte : (b : ℕ) → 1 + b / 8 < slot_for w.paging (length old) → byte_of (b % 8) (get_or w.words (a + 1 + b / 8) 0) ≡ get_or old b 0
  old_byte b lt =
      let word = stands (suc (b / 8)) (omega arith) in
      let place : a + 1 + b / 8 ≡ a + suc (b / 8) = omega arith in
      ap (λ i. byte_of (b % 8) (get_or w.words i 0)) place ∙ ap (byte_of (b % 8)) word ∙ byte_of_object n old b (bytes_at-AreBytes w.words a)

  -- byte j of the words that are written is that of the new bytes
  new_byte : (j : ℕ) → j < 8 * ((at % 8 + length bytes + 7) / 8)
      → overwritten (λ b. byte_of (b % 8) (get_or w.words (a + 1 + at / 8 + b / 8) 0)) (at % 8) bytes j ≡ get_or new (8 * (at / 8) + j) 0
  new_byte j lt =
      let fits = l.within in
      let room = holds k q a l.found in
      let was : byte_of (j % 8) (get_or w.words (a + 1 + at / 8 + j / 8) 0) ≡ get_or old (8 * (at / 8) + j) 0 =
      (let place : a + 1 + at / 8 + j / 8 ≡ a + 1 + (8 * (at / 8) + j) / 8 = omega arith in
      let byte : j % 8 ≡ (8 * (at / 8) + j) % 8 = omega arith in
      ap (λ i. byte_of (j % 8) (get_or w.words i 0)) place ∙ ap (λ b. byte_of b (get_or w.words (a + 1 + (8 * (at / 8) + j) / 8) 0)) byte
      ∙ old_byte (8 * (at / 8) + j) (omega arith)) in
      elim (cases_lt j (at % 8)) [
        | inl before ↦ overwritten_before (λ b. byte_of (b % 8) (get_or w.words (a + 1 + at / 8 + b / 8) 0)) (at % 8) bytes j before ∙ was
            ∙ sym (written_before old at bytes fits (8 * (at / 8) + j) (omega arith))
        | inr from ↦ elim (cases_lt j (at % 8 + length bytes)) [
          | inl inside ↦ (
              let e : at + (j - at % 8) ≡ 8 * (at / 8) + j = omega arith in
              overwritten_inside (λ b. byte_of (b % 8) (get_or w.words (a + 1 + at / 8 + b / 8) 0)) (at % 8) bytes j from inside
              ∙ sym (written_inside old at bytes fits (j - at % 8) (omega arith)) ∙ ap (λ i. get_or new i 0) e)
          | inr behind ↦ overwritten_behind (λ b. byte_of (b % 8) (get_or w.words (a + 1 + at / 8 + b / 8) 0)) (at % 8) bytes j behind ∙ was
              ∙ sym (written_behind old at bytes fits (8 * (at / 8) + j) (omega arith))
        ]
      ]

  pub rewrites : Rewrites w.words words (record { from = a + 1 + at / 8; count = (at % 8 + length bytes + 7) / 8 })
      (λ i. object_word n (written (bytes_at w.words a) at bytes) (1 + at / 8 + i))
  rewrites = record {
    within = λ i lt.
        let fits = l.within in
        let sz = length-written old at bytes l.within in
        let room = holds k q a l.found in
        let short = bytes_few k q a l.found in
        let as_suc : 1 + at / 8 + i ≡ suc (at / 8 + i) = omega arith in
        rw as_suc (word_by_bytes (get_or words (a + 1 + at / 8 + i) 0) (object_word n new (suc (at / 8 + i))) (o.small i lt)
        (object_word_small n new (suc (at / 8 + i)) few (omega arith) are) (λ j less.
        let div : (8 * i + j) / 8 ≡ i = omega arith in
        let rem : (8 * i + j) % 8 ≡ j = omega arith in
        let v = o.value (8 * i + j) (omega arith) ∙ new_byte (8 * i + j) (omega arith) in
        let b = byte_of_object n new (8 * (at / 8 + i) + j) are in
        let div' : (8 * (at / 8 + i) + j) / 8 ≡ at / 8 + i = omega arith in
        let rem' : (8 * (at / 8 + i) + j) % 8 ≡ j = omega arith in
        let same : 8 * (at / 8) + (8 * i + j) ≡ 8 * (at / 8 + i) + j = omega arith in
        sym (ap (λ d. byte_of ((8 * i + j) % 8) (get_or words (a + 1 + at / 8 + d) 0)) div ∙ ap (λ b. byte_of b (get_or words (a + 1 + at / 8 + i) 0)) rem)
        ∙ v ∙ ap (λ i. get_or new i 0) same ∙ sym b
        ∙ ap (λ d. byte_of ((8 * (at / 8 + i) + j) % 8) (object_word n new (suc d))) div' ∙ ap (λ b. byte_of b (object_word n new (suc (at / 8 + i)))) rem'));
    others = o.others;
  }
