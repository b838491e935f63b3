-- The loop invariant of `count_pages`, which counts the pages of declared objects; and when the objects exceed the quota (`IsPast`). No public clause cites
-- this module.
use Rattle.std.specs.Prelude.{◌≡◌, ℕ, ◌+◌, ◌≤◌, ◌<◌, List, length, slice_index}
use Rattle.page_model.specs.Counts.{ceil_div}
use Rattle.page_model.specs.Paging.{Paging, classes}
use Rattle.quota_model.specs.Admission.{count_of_class, pages_needed_by}

-- Of `more` objects that are added to the `had` objects of a class, `fit` still fit: with these, the pages of the class and the `others` pages of all other
-- classes are within the quota. With one object more they exceed it.
pub record IsPast (quota others had more slots fit : ℕ) : Type 0 where
  pub fewer : fit < more
  pub within : others + ceil_div (had + fit) slots ≤ quota
  pub past : quota < others + ceil_div (had + (fit + 1)) slots

-- The loop has counted mallocs of these lengths (`asked`), `before` in number: `counts` has how many there are of each class, and `pages` is how many pages
-- they need, which are within the quota. `counts` has 67 entries, the most classes that a page may have.
pub record AreTallied (p : Paging) (quota : ℕ) (asked counts : List ℕ) (pages before : ℕ) : Type 0 where
  pub counts_are : (c : ℕ) → c < classes p → slice_index counts c ≡ count_of_class p asked c
  pub pages_are : pages ≡ pages_needed_by p asked
  pub enough : pages ≤ quota
  pub before_are : before ≡ length asked
  pub many : length counts ≡ 67
