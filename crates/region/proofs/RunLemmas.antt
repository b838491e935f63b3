-- The bytes of a run of consecutive words, and the words that a borrow of the run leaves if bytes were written through it.
use Rattle.std.proofs.Common.{◌≡◌, ℕ, zero, suc, ◌+◌, ◌-◌, ◌*◌, ◌/◌, ◌%◌, ◌^◌, ◌<◌, ◌≤◌, List, length, get_or, set, take, drop, arith}
use Rattle.std.proofs.Common.{◌∙◌, ap, inl, inr, sym}
use Rattle.std.proofs.lemmas.Bool.{cases_eq, cases_lt}
use Rattle.std.proofs.lemmas.List.{get_or-take, get_or-drop, get_or-set_same, get_or-set_other}
use Rattle.page_model.specs.Bytes.{byte_of}
use Rattle.region.specs.Lending.{with_words}
use Rattle.region.proofs.WordsAfter.{fit_below, fit_within, length-with_words, with_words_others, with_words_within}
use Rattle.region.specs.Cells.{byte_in, overwritten}
use Rattle.region.specs.Overwriting.{Overwrites, byte_from}
use Rattle.region.proofs.Overwriting.{overwritten_before, overwritten_behind, overwritten_same, overwritten_shift}

-- reduction to 64 bits keeps the low eight bytes
byte_mod : (j w : ℕ) → j < 8 → byte_of j (w % 2 ^ 64) ≡ byte_of j w
byte_mod zero w lt = omega arith
byte_mod (suc zero) w lt = omega arith
byte_mod (suc (suc zero)) w lt = omega arith
byte_mod (suc (suc (suc zero))) w lt = omega arith
byte_mod (suc (suc (suc (suc zero)))) w lt = omega arith
byte_mod (suc (suc (suc (suc (suc zero))))) w lt = omega arith
byte_mod (suc (suc (suc (suc (suc (suc zero)))))) w lt = omega arith
byte_mod (suc (suc (suc (suc (suc (suc (suc zero))))))) w lt = omega arith
byte_mod (suc (suc (suc (suc (suc (suc (suc (suc j)))))))) w lt = absurd (omega arith)

-- byte k of borrowed words
pub lent_byte : (words : List ℕ) (first n k : ℕ) → k < 8 * n → byte_in (take n (drop first words)) k ≡ byte_from words first k
lent_byte words first n k lt = ap (byte_of (k % 8)) (get_or-take n (drop first words) (k / 8) 0 (omega arith) ∙ get_or-drop first words (k / 8) 0)

-- the same byte, counted from a later word
pub byte_shift : (words : List ℕ) (first d k : ℕ) → 8 * d ≤ k → byte_from words (first + d) (k - 8 * d) ≡ byte_from words first k
byte_shift words first d k le =
    let cell : first + d + (k - 8 * d) / 8 ≡ first + k / 8 = omega arith in
    let rest : (k - 8 * d) % 8 ≡ k % 8 = omega arith in
    ap (λ (i : ℕ). byte_of ((k - 8 * d) % 8) (get_or words i 0)) cell ∙ ap (λ (i : ℕ). byte_of i (get_or words (first + k / 8) 0)) rest

-- only bytes of the first word are written
pub first_overwritten : (words : List ℕ) (at word : ℕ) (bytes : List ℕ) → 0 < length words → at + length bytes ≤ 8
    → ((j : ℕ) → j < 8 → byte_of j word ≡ overwritten (λ i. byte_of i (get_or words 0 0)) at bytes j)
    → (k : ℕ) → byte_in (set words 0 word) k ≡ overwritten (byte_in words) at bytes k
first_overwritten words at word bytes some fits patch k = elim (cases_eq (k / 8) 0) [
  | inl is ↦ (
      let low : k % 8 ≡ k = omega arith in
      let was : byte_of k (get_or words 0 0) ≡ byte_in words k =
      ap (λ i. byte_of i (get_or words 0 0)) (sym low) ∙ ap (λ i. byte_of (k % 8) (get_or words i 0)) (sym is) in
      ap (λ i. byte_of (k % 8) (get_or (set words 0 word) i 0)) is ∙ ap (byte_of (k % 8)) (get_or-set_same words 0 word 0 some)
      ∙ ap (λ i. byte_of i word) low ∙ patch k (omega arith) ∙ overwritten_same (λ i. byte_of i (get_or words 0 0)) (byte_in words) at bytes k was)
  | inr ne ↦ ap (byte_of (k % 8)) (get_or-set_other words 0 (k / 8) word 0 ne) ∙ sym (overwritten_behind (byte_in words) at bytes k (omega arith))
]

-- what a borrow leaves if bytes were written through it
pub loan_overwrites : (old ws : List ℕ) (first n from : ℕ) (bytes : List ℕ) → first + n ≤ length old → length ws ≡ n
    → ((j : ℕ) → byte_in ws j ≡ overwritten (byte_in (take n (drop first old))) from bytes j)
    → Overwrites old (with_words old first n ws) (record { from = first; count = n }) from bytes
loan_overwrites old ws first n from bytes inside long each = record {
  long = length-with_words old first n inside ws;
  others = with_words_others old first n inside ws;
  small = λ i lt. (let e = with_words_within old first n inside ws i lt in let b = fit_below n ws i in omega arith);
  value = λ j lt.
      let word = with_words_within old first n inside ws (j / 8) (omega arith) ∙ fit_within n ws (j / 8) (omega arith) (omega arith) in
      ap (byte_of (j % 8)) word ∙ byte_mod (j % 8) (get_or ws (j / 8) 0) (omega arith) ∙ each j
      ∙ overwritten_same (byte_in (take n (drop first old))) (byte_from old first) from bytes j (lent_byte old first n j lt);
}

-- bytes written into a run are bytes written into a longer run that contains it
pub overwrites_wider : (old new : List ℕ) (first d n m at : ℕ) (bytes : List ℕ) → d + n ≤ m → at + length bytes ≤ 8 * n
    → ((i : ℕ) → i < m → get_or old (first + i) 0 < 2 ^ 64)
    → Overwrites old new (record { from = first + d; count = n }) at bytes → Overwrites old new (record { from = first; count = m }) (8 * d + at) bytes
overwrites_wider old new first d n m at bytes inside fits few o = record {
  long = o.long;
  others = λ w out. o.others w (elim out [ inl l ↦ inl (omega arith) | inr g ↦ inr (omega arith) ]);
  small = λ i lt. elim (cases_lt i d) [
    | inl before ↦ (let e = o.others (first + i) (inl (omega arith)) in let s = few i lt in omega arith)
    | inr from ↦ elim (cases_lt i (d + n)) [
      | inl in_run ↦ (
          let e : get_or new (first + d + (i - d)) 0 ≡ get_or new (first + i) 0 =
          ap (λ w. get_or new w 0) (let f : first + d + (i - d) ≡ first + i = omega arith in f) in
          let s = o.small (i - d) (omega arith) in omega arith)
      | inr behind ↦ (let e = o.others (first + i) (inr (omega arith)) in let s = few i lt in omega arith)
    ]
  ];
  value = λ k lt.
      let f = byte_from old first in
      elim (cases_lt k (8 * d)) [
        | inl before ↦ ap (byte_of (k % 8)) (o.others (first + k / 8) (inl (omega arith))) ∙ sym (overwritten_before f (8 * d + at) bytes k (omega arith))
        | inr from ↦ elim (cases_lt k (8 * (d + n))) [
          | inl in_run ↦ sym (byte_shift new first d k from) ∙ o.value (k - 8 * d) (omega arith)
              ∙ overwritten_shift f (byte_from old (first + d)) (8 * d) at bytes k from (byte_shift old first d k from)
          | inr behind ↦ ap (byte_of (k % 8)) (o.others (first + k / 8) (inr (omega arith)))
              ∙ sym (overwritten_behind f (8 * d + at) bytes k (omega arith))
        ]
      ];
}
