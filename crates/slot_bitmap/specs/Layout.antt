-- How slot maps keep the slots of a page as bits of words of 64 bits. The words of a page are a function here: `word j` is its word j. No public clause cites
-- this module.
use Rattle.std.specs.Prelude.{◌≡◌, ℕ, ◌+◌, ◌-◌, ◌*◌, ◌/◌, ◌%◌, ◌^◌, ◌<◌, ◌≤◌, ◌==◌, not, min, List, length, map, Bool, cond, slice_index, slice_index_or}
use Rattle.std.specs.Int.{bit_at}
use Rattle.std.specs.List.{range_with_len, count_by}
use Rattle.slot_bitmap.specs.declared.page_summary.PageSummary.{PageSummary}

-- whether slot i is used, by its bit in the words
abbrev pub is_used : (ℕ → ℕ) → ℕ → Bool
is_used word i = bit_at (word (i / 64)) (i % 64) == 1

-- for each of n slots, whether it is used
unfoldable pub slots_in_words : (ℕ → ℕ) → ℕ → List Bool
slots_in_words word n = map (is_used word) (range_with_len 0 n)

-- how many of n slots have their bit in word j
abbrev pub bits_in : ℕ → ℕ → ℕ
bits_in n j = min (n - 64 * j) 64

-- whether word j has a free slot, if there are n slots in all
abbrev pub has_free : (ℕ → ℕ) → ℕ → ℕ → Bool
has_free word n j = not (word j + 1 == 2 ^ bits_in n j)

-- whether word j has a used slot
abbrev pub has_used : (ℕ → ℕ) → ℕ → Bool
has_used word j = not (word j == 0)

-- The rules of a page with w words, at most 64: its slots have their bits in these words, and no bit beyond them is set; bit j of the summaries shows whether
-- word j has a free slot, and a used one; `used` is the number of used slots.
pub record IsValid (w : ℕ) (word : ℕ → ℕ) (s : PageSummary) : Type 0 where
  pub short : w ≤ 64
  pub few : s.slots ≤ 64 * w
  pub free_within : s.with_free < 2 ^ w
  pub used_within : s.with_used < 2 ^ w
  pub clean : (j : ℕ) → j < w → word j < 2 ^ bits_in s.slots j
  pub some_free : (j : ℕ) → j < w → bit_at s.with_free j ≡ cond (has_free word s.slots j) 1 0
  pub some_used : (j : ℕ) → j < w → bit_at s.with_used j ≡ cond (has_used word j) 1 0
  pub counted : s.used ≡ count_by (λ u. u) (slots_in_words word s.slots)

-- word j of a list
abbrev pub word_in : List ℕ → ℕ → ℕ
word_in words j = slice_index words j

-- the invariant of `SlotMap`: it has 64 words, and keeps the rules of a page
pub record IsMap (words : List ℕ) (s : PageSummary) : Type 0 where
  pub count : length words ≡ 64
  pub page : IsValid 64 (word_in words) s

-- word j of page p in a table with w words a page
abbrev pub word_of : ℕ → List ℕ → ℕ → ℕ → ℕ
word_of w words p j = slice_index words (p * w + j)

-- the summary of page p; of a page without slots if there is no such page
abbrev pub summary_of : List PageSummary → ℕ → PageSummary
summary_of pages p = slice_index_or pages p (record { with_free = 0; with_used = 0; slots = 0; used = 0 })

-- the slots of page p in a table with w words a page
abbrev pub slots_of_page : ℕ → List ℕ → List PageSummary → ℕ → List Bool
slots_of_page w words pages p = slots_in_words (word_of w words p) (summary_of pages p).slots

-- for each page of the table, whether each slot is used
unfoldable pub slots_by_page : ℕ → List ℕ → List PageSummary → List (List Bool)
slots_by_page w words pages = map (slots_of_page w words pages) (range_with_len 0 (length pages))

-- the invariant of `SlotMaps`: each page has w words, and the rules of a page hold for each
pub record AreValid (w : ℕ) (words : List ℕ) (pages : List PageSummary) : Type 0 where
  pub all_words : length words ≡ length pages * w
  pub page : (p : ℕ) → p < length pages → IsValid w (word_of w words p) (summary_of pages p)
