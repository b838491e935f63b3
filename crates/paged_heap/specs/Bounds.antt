-- For `set_bounds`, which sets the bounds of all classes to one number while objects are live.
use Rattle.std.specs.Prelude.{ℕ, ◌≤◌, ◌<◌}
use Rattle.cf_model.specs.State.{HeapState, layout_of, paging_in}
use Rattle.page_model.specs.Arrangement.{not_full_pages}
use Rattle.page_model.specs.Paging.{classes, first_bounds}

-- no class of the state s has more than k partly full pages
abbrev pub HasFewNotFull : HeapState → ℕ → Type 0
HasFewNotFull s k = (c : ℕ) → c < classes (paging_in s) → not_full_pages (paging_in s) s.held c ≤ k

-- the state s with the bound k in its settings, and with the bounds of a heap that is opened with these settings
abbrev pub with_bounds : HeapState → ℕ → HeapState
with_bounds s k = record s {
  profile = record s.profile { k = k };
  bounds = first_bounds (record s.profile { k = k }) (layout_of s.kind);
}
