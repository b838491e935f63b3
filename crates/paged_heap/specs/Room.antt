-- For `malloc` and `has_room`: when class c has a free slot.
use Rattle.std.specs.Prelude.{ℕ, ◌+◌, ◌≤◌, length}
use Rattle.class_lists.specs.PageLists.{PageLists, pages_in}
use Rattle.class_lists.specs.declared.Which.TheVariants.{NotFull}
use Rattle.page_pool.specs.Pool.{Pool}

-- class c has a free slot: on one of its partly full pages, or on a free page
abbrev pub HasSlot : PageLists → Pool → ℕ → Type 0
HasSlot lists pool c = 1 ≤ length (pages_in lists c NotFull) + length pool.free
