-- What contracts see of `Classes` (`ClassTable`): the words of a page, and the words of a slot of each class;
-- the table of each layout (`table_of`); and what is true of every table (`IsClassTable`).
use Rattle.std.specs.Prelude.{ℕ, ◌≤◌, List}
use Rattle.cf_base.specs.Classes.{sizes}
use Rattle.cf_base.specs.Rising.{AreSizes}
use Rattle.cf_base.specs.declared.kind.Layout.{Layout}

-- how many words a page has, and how many words a slot of each class has
pub record ClassTable : Type 0 where
  pub page_words : ℕ
  pub sizes : List ℕ

-- the table for pages with `page_words` words, with the slot sizes of this layout: single words, or whole blocks of four words
abbrev pub table_of : ℕ → Layout → ClassTable
table_of page_words layout = record { page_words = page_words; sizes = sizes page_words layout }

-- the sizes rise from at least 4 words to the page, and a page has at most 16,384 words
pub record IsClassTable (page_words : ℕ) (sizes : List ℕ) : Type 0 where
  pub are_sizes : AreSizes page_words sizes
  pub small : page_words ≤ 16384
