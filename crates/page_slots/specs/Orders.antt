-- The order in which the tables use pages, as the `Order` of the model.
use Rattle.std.specs.Prelude.{ℕ, List, map}
use Rattle.std.specs.List.{range_with_len}
use Rattle.class_lists.specs.declared.Which.TheVariants.{NotFull}
use Rattle.class_lists.specs.PageLists.{PageLists, pages_in}
use Rattle.page_model.specs.Order.{Order}
use Rattle.page_slots.specs.Tables.{Tables}

-- the lists of the partly full pages of classes 0 to n - 1
abbrev pub partly_full_lists : ℕ → PageLists → List (List ℕ)
partly_full_lists n lists = map (λ c. pages_in lists c NotFull) (range_with_len 0 n)

-- the order of the tables t with n classes: their free pages and partly full pages, and these spare numbers
abbrev pub order_of : ℕ → Tables → List ℕ → Order
order_of n t spare = record { pool = t.pool.free; not_full = partly_full_lists n t.lists; spare = spare }
