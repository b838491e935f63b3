-- For `take_number` and `is_done`: the digits that a text begins with are its first token if and only if a gap (a space or tab) or the end follows them; a
-- text without tokens is all gaps.
use Rattle.std.proofs.Common.{◌≡◌, ◌∙◌, ◌-◌, ◌<◌, ◌≤◌, ℕ, true, false, not, nat_eq, List, [], Option, Some, None, option_map, length, take, drop, get_or}
use Rattle.std.proofs.Common.{length-drop, refl, sym, ap, arith, inl, inr}
use Rattle.std.specs.List.{position_or_len}
use Rattle.std.proofs.Math.Seq.{drop-cons}
use Rattle.std.proofs.lemmas.Bool.{cases_lt, eq-eqb, false≢true, ne_eqb}
use Rattle.std.proofs.lemmas.List.{drop_all, get_or-take, length-take, nil_from_length}
use Rattle.std.proofs.lemmas.List.Sums.{fails_before_first, passes_at_first}
use Rattle.cf_io.specs.Numbers.{digits_first, is_digit, leading_number, number_in}
use Rattle.cf_io.proofs.CallerLemmas.{digits_stop, digits_within, first_shown, other_byte}
use Rattle.script_reader.specs.Commands.{none_of}
use Rattle.script_reader.specs.Fields.{first_by}
use Rattle.script_reader.specs.Lines.{is_gap, is_parted, tokens}
use Rattle.script_reader.proofs.Words.{after_gaps, first_token, gaps_in, no_gap_left, past_gaps, place-le-length}

-- a text has no token if and only if it is all gaps
pub all_gaps : (t : List ℕ) (g : ℕ) → g ≡ gaps_in t → nat_eq g (length t) ≡ none_of (tokens t)
all_gaps t g count = elim (cases_lt (gaps_in t) (length t)) [
  | inl below ↦
      let fewer : nat_eq g (length t) ≡ false = ne_eqb g (length t) (λ e. omega (arith, below, count, e)) in
      let some : 0 < length (drop (gaps_in t) t) = omega (arith, below, length-drop (gaps_in t) t) in
      let first = first_token (drop (gaps_in t) t) (no_gap_left t) some in
      fewer ∙ sym (ap none_of (sym (past_gaps t) ∙ first))
  | inr above ↦
      let all : nat_eq g (length t) ≡ true = eq-eqb g (length t) (omega (arith, above, count, place-le-length (λ x. not (is_gap x)) t)) in
      all ∙ sym (ap none_of (sym (past_gaps t) ∙ ap tokens (drop_all (gaps_in t) t above)))
]

-- a digit is no gap
gap_no_digit : (x : ℕ) → is_gap x ≡ true → not (is_digit x) ≡ false → ⊥
gap_no_digit x gap digit = grind (arith, gap, digit)

abbrev Numbered : Type 0
Numbered = Option (ℕ × List (List ℕ))

-- a text s that begins with no gap: where its first token ends, and where the digits end that it begins with
module _ (s : List ℕ) (begun : gaps_in s ≡ 0) where
  abbrev token : ℕ
  token = position_or_len is_gap s

  abbrev digits : ℕ
  digits = digits_first s

  digits_in_token : digits ≤ token
  digits_in_token = elim (cases_lt token digits) [
    | inl below ↦
        let inside : token < length s = omega (arith, below, digits_within s) in
        absurd (gap_no_digit (get_or s token 0) (passes_at_first is_gap s 0 inside) (fails_before_first (λ b. not (is_digit b)) s token 0 below))
    | inr above ↦ above
  ]

  -- if the first token has a byte that is no digit
  no_number : digits < token → number_in (take token s) ≡ None
  no_number below =
      let inside : digits < length s = omega (arith, below, place-le-length is_gap s) in
      other_byte (take token s) digits (omega (arith, below, length-take token s, place-le-length is_gap s))
      (ap is_digit (get_or-take token s digits 0 below) ∙ digits_stop s inside)

  tokens_are : 0 < length s → ◌≡◌ {A = Numbered} (first_by number_in (tokens s)) (option_map (λ n. (n, tokens (drop token s))) (number_in (take token s)))
  tokens_are some = ap (first_by number_in) (first_token s begun some)

  none_of_empty : length s ≤ 0 → ◌≡◌ {A = Numbered} None (first_by number_in (tokens s))
  none_of_empty none = ap (λ (t : List ℕ). first_by number_in (tokens t)) (sym (nil_from_length s (omega (arith, none))))

  none_where : (0 < length s → number_in (take token s) ≡ None) → ◌≡◌ {A = Numbered} None (first_by number_in (tokens s))
  none_where fails = elim (cases_lt 0 (length s)) [
    | inl some ↦ sym (tokens_are some ∙ ap (option_map (λ n. (n, tokens (drop token s)))) (fails some))
    | inr none ↦ none_of_empty none
  ]

  not_spelled : (o : Option ℕ) → ◌≡◌ {A = Option (ℕ × ℕ)} None (option_map (λ n. (n, digits)) o) → o ≡ None
  not_spelled None is = refl
  not_spelled (Some n) is = absurd cc

  pub no_leading : ◌≡◌ {A = Option (ℕ × ℕ)} None (leading_number s) → ◌≡◌ {A = Numbered} None (first_by number_in (tokens s))
  no_leading none = none_where (λ some. elim (cases_lt digits token) [
    | inl below ↦ no_number below
    | inr above ↦
        let same : token ≡ digits = omega (arith, above, digits_in_token) in
        ap (λ n. number_in (take n s)) same ∙ not_spelled (number_in (take digits s)) none
  ])

  -- after the first token a gap follows, or the text ends
  parted : is_parted (drop token s) ≡ true
  parted = elim (cases_lt token (length s)) [
    | inl inside ↦ ap is_parted (drop-cons s token 0 inside) ∙ passes_at_first is_gap s 0 inside
    | inr end ↦ ap is_parted (drop_all token s end)
  ]

  goes_on : (n : ℕ) → n < token → is_parted (drop n s) ≡ false
  goes_on n below =
      let inside : n < length s = omega (arith, below, place-le-length is_gap s) in
      ap is_parted (drop-cons s n 0 inside) ∙ fails_before_first is_gap s n 0 below

  pub not_parted : (v n : ℕ) → ◌≡◌ {A = Option (ℕ × ℕ)} (Some (v, n)) (leading_number s) → is_parted (drop n s) ≡ false
      → ◌≡◌ {A = Numbered} None (first_by number_in (tokens s))
  not_parted v n shown isnt = none_where (λ some. elim (cases_lt digits token) [
    | inl below ↦ no_number below
    | inr above ↦
        let same : n ≡ token = omega (arith, above, digits_in_token, (first_shown s v n shown).0) in
        absurd (false≢true (sym isnt ∙ ap (λ k. is_parted (drop k s)) same ∙ parted))
  ])

  pub parted_number : (v n : ℕ) → ◌≡◌ {A = Option (ℕ × ℕ)} (Some (v, n)) (leading_number s) → is_parted (drop n s) ≡ true
      → ◌≡◌ {A = Numbered} (Some (v, tokens (drop n s))) (first_by number_in (tokens s))
  parted_number v n shown is = elim (cases_lt n token) [
    | inl below ↦ absurd (false≢true (sym (goes_on n below) ∙ is))
    | inr above ↦
        let first = first_shown s v n shown in
        let same : n ≡ token = omega (arith, above, digits_in_token, first.0) in
        elim (cases_lt 0 (length s)) [
          | inl some ↦ rw same (sym (tokens_are some ∙ ap (option_map (λ m. (m, tokens (drop token s)))) (ap (λ k. number_in (take k s)) (sym same) ∙ first.1)))
          | inr none ↦ absurd (
              let e : take n s ≡ [] = nil_from_length (take n s) (omega (arith, none, length-take n s)) in
              let empty : None ≡ Some v = ap number_in (sym e) ∙ first.1 in
              cc)
        ]
  ]

-- the text s after the gaps that a text t begins with
module _ (t s : List ℕ) (g : ℕ) (is : s ≡ take (length t - g) (drop g t)) (count : g ≡ gaps_in t) where
  pub begins : gaps_in s ≡ 0
  begins = ap gaps_in (after_gaps t s g is count) ∙ no_gap_left t

  pub same_tokens : tokens s ≡ tokens t
  same_tokens = ap tokens (after_gaps t s g is count) ∙ past_gaps t
