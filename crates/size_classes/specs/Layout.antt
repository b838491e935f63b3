-- How `Classes` finds the class of a need (the words of an object with its header) and the page of an address. No public clause cites this module.
use Rattle.std.specs.Prelude.{◌≡◌, ℕ, ◌+◌, ◌^◌, ◌<◌, ◌≤◌, List, length, Some, nat_le, slice_index}
use Rattle.std.specs.List.{position}
use Rattle.size_classes.specs.Table.{IsClassTable}

-- for each need of at most a page, in words, `by_need` has its class: the index of the first size that is at least the need
pub record ShowsClasses (page_words : ℕ) (sizes by_need : List ℕ) : Type 0 where
  pub long : length by_need ≡ page_words + 1
  pub class : (n : ℕ) → n ≤ page_words → Some (slice_index by_need n) ≡ position (λ s. nat_le n s) sizes

-- the invariant of `Classes`: the sizes are those of a class table, `by_need` has the class of each need, and a page has 2^shift words
pub record IsValid (page_words : ℕ) (sizes by_need : List ℕ) (shift : ℕ) : Type 0 where
  pub table : IsClassTable page_words sizes
  pub needs : ShowsClasses page_words sizes by_need
  pub power : page_words ≡ 2 ^ shift
  pub short : shift < 32
