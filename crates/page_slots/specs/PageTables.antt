-- The tables that all owners of a region's pages share, as one owner sees them, and as a new heap has them. An owner is a heap, or a task of the heap of tasks.
use Rattle.std.specs.Prelude.{◌≡◌, ℕ, false, replicate}
use Rattle.std.specs.List.{range_with_len}
use Rattle.cf_base.specs.declared.kind.Layout.{Layout}
use Rattle.cf_base.specs.declared.settings.Settings.{Settings}
use Rattle.class_lists.specs.PageLists.{PageLists, empty_lists}
use Rattle.size_classes.specs.Table.{table_of}
use Rattle.page_slots.specs.Tables.{Tables, tables}
use Rattle.page_slots.specs.declared.page_tables.PageTables.{PageTables}

-- the tables as one owner sees them: the shared tables t, with the lists of that owner
abbrev pub tables_with : PageTables → PageLists → Tables
tables_with t lists = tables t.maps.pages lists t.pool

-- the shared tables of a new heap: every page is free, and the map of each has one free slot, since no class uses the page yet
pub record AreFirst (s : Settings) (layout : Layout) (t : PageTables) : Type 0 where
  pub classes : t.classes ≡ table_of s.page_words layout
  pub maps : t.maps.pages ≡ replicate s.pages (replicate 1 false)
  pub pool : t.pool ≡ record { pages = s.pages; free = range_with_len 0 s.pages }

-- the tables of a new heap with this many pages and classes, as its owner sees them
abbrev pub new_tables : ℕ → ℕ → Tables
new_tables pages classes =
    tables (replicate pages (replicate 1 false)) (empty_lists classes pages) (record { pages = pages; free = range_with_len 0 pages })
