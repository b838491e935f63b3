-- For the calls of `SlotMaps` and for `free_table`: where the words of a page are in the table, that the table has each page and slot that contracts see, what
-- a write to one page does to all pages, and a table in which no slot is used.
use Rattle.std.proofs.Common.{◌≡◌, ◌≢◌, ℕ, ◌+◌, ◌*◌, ◌/◌, ◌<◌, ◌≤◌, Bool, false, List, [], length, get_or, set, replicate}
use Rattle.std.proofs.Common.{Some, arith, refl, ap, sym, subst, ◌∙◌, inl, inr}
use Rattle.std.specs.Prelude.{slice_get}
use Rattle.std.proofs.lemmas.Bool.{cases_eq, cases_lt}
use Rattle.std.proofs.lemmas.List.{same_lists, get_or_read, length-set, length-replicate, get_or-replicate, get_or_past, get_or-set_same, get_or-set_other}
use Rattle.std.proofs.lemmas.List.FromFn.{length-map-range_with_len, get_or-map-range_with_len}
use Rattle.std.proofs.lemmas.Option.{slice_get_within}
use native.Mathlib.Nat.{mul-le-mul_right}
use Rattle.slot_bitmap.specs.declared.page_summary.PageSummary.{PageSummary}
use Rattle.slot_bitmap.specs.Maps.{SlotTable}
use Rattle.slot_bitmap.specs.Layout.{slots_in_words, word_of, summary_of, slots_of_page, slots_by_page, IsValid, AreValid}
use Rattle.slot_bitmap.proofs.Slots.{all_free, counted_within, length-slots_of, same_slots, slot_within, slot_word, valid_new, valid_same}

-- the table with these pages and w words a page
abbrev pub table : ℕ → List (List Bool) → SlotTable
table w pages = record { pages = pages; most = 64 * w }

-- ---- where the words of a page are

-- the words of page p end before the table does
row_end : (w n p : ℕ) → p < n → p * w + w ≤ n * w
row_end w n p lt = omega (arith, mul-le-mul_right {m = p + 1} {n = n} w (omega arith))

words_apart : (w p q j k : ℕ) → j < w → k < w → q ≢ p → q * w + k ≢ p * w + j
words_apart w p q j k lt lt' ne same = elim (cases_lt q p) [
  | inl less ↦ absurd (omega (arith, row_end w p q less))
  | inr ge ↦ absurd (omega (arith, row_end w q p (omega arith)))
]

-- ---- the slots of each page

pub length-pages : (w : ℕ) (words : List ℕ) (pages : List PageSummary) → length (slots_by_page w words pages) ≡ length pages
unfolding slots_by_page
length-pages w words pages = length-map-range_with_len (slots_of_page w words pages) 0 (length pages)

page-at : (w : ℕ) (words : List ℕ) (pages : List PageSummary) (p : ℕ) (d : List Bool) → p < length pages
    → get_or (slots_by_page w words pages) p d ≡ slots_of_page w words pages p
unfolding slots_by_page
page-at w words pages p d lt = get_or-map-range_with_len (slots_of_page w words pages) 0 (length pages) p p d lt (omega arith)

-- a page of the table, as a call finds it
pub record AtPage (w : ℕ) (words : List ℕ) (pages : List PageSummary) (p : ℕ) : Type 0 where
  pub lt : p < length pages
  pub read : {s : PageSummary} → s ≡ get_or pages p s → s ≡ summary_of pages p
  pub valid : IsValid w (word_of w words p) (summary_of pages p)
  pub seen : get_or (slots_by_page w words pages) p [] ≡ slots_in_words (word_of w words p) (summary_of pages p).slots
  pub cell : (j : ℕ) → j < w → p * w + j < length words
  pub len : length (get_or (slots_by_page w words pages) p []) ≡ (summary_of pages p).slots
  pub few : (summary_of pages p).slots ≤ 4096
  pub within : (summary_of pages p).used ≤ 4096

at_page : {w : ℕ} {words : List ℕ} {pages : List PageSummary} → AreValid w words pages → {p : ℕ} → p < length pages → AtPage w words pages p
at_page {w} {words} {pages} v {p} lt =
    let valid = v.page p lt in
    let few : (summary_of pages p).slots ≤ 4096 = omega (arith, valid.few, valid.short) in record {
      lt = lt;
      read = λ {s} e. get_or_read pages p s lt e (summary_of [] 0);
      valid = valid;
      seen = page-at w words pages p [] lt;
      cell = λ j short. omega (arith, v.all_words, row_end w (length pages) p lt);
      len = ap length (page-at w words pages p [] lt) ∙ length-slots_of (word_of w words p) (summary_of pages p).slots;
      few = few;
      within = omega (arith, valid.counted, counted_within (word_of w words p) (summary_of pages p).slots);
    }

-- a page that contracts see is one of the table's
pub page_in : {w : ℕ} {words : List ℕ} {pages : List PageSummary} → AreValid w words pages → {p : ℕ} → p < length (slots_by_page w words pages)
    → AtPage w words pages p
page_in {w} {words} {pages} v h = at_page v (omega (arith, length-pages w words pages))

-- a page that has a slot is one of the table's
pub page_of : {w : ℕ} {words : List ℕ} {pages : List PageSummary} → AreValid w words pages → {p i : ℕ} → i < length (get_or (slots_by_page w words pages) p [])
    → AtPage w words pages p
page_of {w} {words} {pages} v {p} {i} lt = elim (cases_lt p (length pages)) [
  | inl inside ↦ at_page v inside
  | inr past ↦ absurd (omega (arith, ap (λ (xs : List Bool). length xs) (get_or_past (slots_by_page w words pages) p [] (omega (arith, length-pages w words pages)))))
]

-- a slot of a page, as a call finds it
pub record AtSlot (w : ℕ) (words : List ℕ) (pages : List PageSummary) (p i : ℕ) (b : Bool) : Type 0 where
  pub page : AtPage w words pages p
  pub was : slice_get (slots_in_words (word_of w words p) (summary_of pages p).slots) i ≡ Some b
  pub inside : i < (summary_of pages p).slots
  pub word : i / 64 < w
  pub short : i / 64 < 64

pub at_slot : {w : ℕ} {words : List ℕ} {pages : List PageSummary} → AreValid w words pages → {p i : ℕ} {b : Bool}
    → slice_get (get_or (slots_by_page w words pages) p []) i ≡ Some b → AtSlot w words pages p i b
at_slot {w} {words} {pages} v {p} {i} {b} h =
    let page = page_of v (slice_get_within (get_or (slots_by_page w words pages) p []) i b h) in
    let was = subst (λ xs. slice_get xs i ≡ Some b) page.seen h in
    let word : i / 64 < w = slot_word w (word_of w words p) (summary_of pages p) page.valid i b was in record {
      page = page;
      was = was;
      inside = slot_within (word_of w words p) (summary_of pages p).slots i b was;
      word = word;
      short = omega (arith, page.valid.short);
    }

-- ---- one page is written

module _ {w : ℕ} {words : List ℕ} {pages : List PageSummary} {p : ℕ} (v : AreValid w words pages) (lt : p < length pages) (now : List ℕ)
    (len : length now ≡ length words) (apart : (q j : ℕ) → q ≢ p → j < w → word_of w now q j ≡ word_of w words q j) (s : PageSummary) where
  pub valid_after : IsValid w (word_of w now p) s → AreValid w now (set pages p s)
  valid_after here = record {
    all_words = len ∙ v.all_words ∙ ap (λ k. k * w) (sym (length-set pages p s));
    page = λ q h. elim (cases_eq q p) [
      | inl e ↦ rw (e, get_or-set_same pages p s (summary_of [] 0) lt) here
      | inr ne ↦ rw (get_or-set_other pages p q s (summary_of [] 0) ne)
          (valid_same w (word_of w words q) (word_of w now q) (summary_of pages q) (v.page q (omega (arith, length-set pages p s))) (λ j. apart q j ne))
    ];
  }

  pub pages_after : (new : List Bool) → slots_in_words (word_of w now p) s.slots ≡ new
      → table w (slots_by_page w now (set pages p s)) ≡ table w (set (slots_by_page w words pages) p new)
  pages_after new is =
      let long : length (slots_by_page w now (set pages p s)) ≡ length pages = length-pages w now (set pages p s) ∙ length-set pages p s in
      ap (table w) (same_lists _ _ (long ∙ sym (length-pages w words pages) ∙ sym (length-set (slots_by_page w words pages) p new)) (λ q d h.
      let inside : q < length pages = omega (arith, long) in
      page-at w now (set pages p s) q d (omega (arith, length-set pages p s)) ∙ elim (cases_eq q p) [
        | inl e ↦ rw (e, get_or-set_same pages p s (summary_of [] 0) lt, get_or-set_same (slots_by_page w words pages) p new d (omega (arith, length-pages w words pages))) is
        | inr ne ↦ rw (get_or-set_other pages p q s (summary_of [] 0) ne, get_or-set_other (slots_by_page w words pages) p q new d ne)
            (same_slots w (word_of w words q) (word_of w now q) (summary_of pages q) (v.page q inside) (λ j. apart q j ne) ∙ sym (page-at w words pages q d inside))
      ]))

-- word j of the page is written
module _ {w : ℕ} {words : List ℕ} {pages : List PageSummary} {p : ℕ} (a : AtPage w words pages p) (j x : ℕ) (short : j < w) where
  pub here : word_of w (set words (p * w + j) x) p j ≡ x
  here = get_or-set_same words (p * w + j) x 0 (a.cell j short)

  pub others : (k : ℕ) → k ≢ j → word_of w (set words (p * w + j) x) p k ≡ word_of w words p k
  others k ne = get_or-set_other words (p * w + j) (p * w + k) x 0 (λ e. ne (omega arith))

  pub apart : (q k : ℕ) → q ≢ p → k < w → word_of w (set words (p * w + j) x) q k ≡ word_of w words q k
  apart q k ne lt = get_or-set_other words (p * w + j) (q * w + k) x 0 (words_apart w p q j k short lt ne)

-- ---- a table in which no class uses a page

module _ (w n : ℕ) (some : 1 ≤ w) (short : w ≤ 64) (pages : List PageSummary)
    (are : pages ≡ replicate n (record { with_free = 1; with_used = 0; slots = 1; used = 0 })) where
  clear : (p j : ℕ) → p < n → j < w → word_of w (replicate (n * w) 0) p j ≡ 0
  clear p j lt inside = get_or-replicate (n * w) (p * w + j) 0 0 (omega (arith, row_end w n p lt))

  summary : (p : ℕ) → p < n → summary_of pages p ≡ record { with_free = 1; with_used = 0; slots = 1; used = 0 }
  summary p lt = rw are (get_or-replicate n p _ _ lt)

  count : length pages ≡ n
  count = rw are (length-replicate n _)

  pub fresh_valid : AreValid w (replicate (n * w) 0) pages
  fresh_valid = record {
    all_words = rw count (length-replicate {A = ℕ} (n * w) 0);
    page = λ p h. (
        let lt : p < n = omega (arith, count) in
        rw (summary p lt) (valid_new w (word_of w (replicate (n * w) 0) p) 1 (omega arith) (λ j. clear p j lt) 1 short refl));
  }

  pub fresh_pages : slots_by_page w (replicate (n * w) 0) pages ≡ replicate n (replicate 1 false)
  fresh_pages =
      let long = length-pages w (replicate (n * w) 0) pages in
      same_lists _ _ (long ∙ count ∙ sym (length-replicate n (replicate 1 false))) (λ p d h.
      let lt : p < n = omega (arith, long, count) in
      page-at w (replicate (n * w) 0) pages p d (omega (arith, count))
      ∙ rw (summary p lt) (all_free w (word_of w (replicate (n * w) 0) p) 1 (omega arith) (λ j. clear p j lt))
      ∙ sym (get_or-replicate n p (replicate 1 false) d lt))

-- a slot that contracts see of a page: the page is one of the table's, and the slot is in one of 64 words
pub slot_page : (w : ℕ) (words : List ℕ) (pages : List PageSummary) (p i : ℕ) (b : Bool) → AreValid w words pages
    → slice_get (get_or (slots_by_page w words pages) p []) i ≡ Some b → p < length pages
slot_page w words pages p i b v h = (at_slot v h).page.lt

pub slot_short : (w : ℕ) (words : List ℕ) (pages : List PageSummary) (p i : ℕ) (b : Bool) → AreValid w words pages
    → slice_get (get_or (slots_by_page w words pages) p []) i ≡ Some b → i / 64 < 64
slot_short w words pages p i b v h = (at_slot v h).short

pub ruleset page_rules = (length-pages, slot_page, slot_short)
