-- The memory that the tables of a region's pages ask for.
use Rattle.std.specs.Prelude.{◌/◌}
use Rattle.size_classes.specs.Needed.{class_table_bytes}
use Rattle.slot_bitmap.specs.Needed.{map_bytes}
use Rattle.page_pool.specs.Needed.{pool_bytes}
use Rattle.cf_base.specs.Needed.{both}
use Rattle.cf_base.specs.Settings.{Profile}
use Rattle.cf_base.specs.declared.kind.Layout.{Layout}
use Rattle.cf_base.specs.declared.needed.BytesNeeded.{BytesNeeded}

-- the memory for the size classes, the maps of the slots of all pages, and the pool
abbrev pub table_bytes : Profile → Layout → BytesNeeded
table_bytes p layout = both (both (class_table_bytes p.page_words layout) (map_bytes p.pages (p.page_words / 4))) (pool_bytes p.pages)
