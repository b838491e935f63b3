-- The memory that the sliced heap asks for.
use Rattle.std.specs.Prelude.{◌*◌, length}
use Rattle.cf_base.specs.Classes.{sizes}
use Rattle.cf_base.specs.Needed.{both}
use Rattle.cf_base.specs.Settings.{Profile}
use Rattle.cf_base.specs.declared.kind.Layout.TheVariants.{Words}
use Rattle.cf_base.specs.declared.needed.BytesNeeded.{BytesNeeded}
use Rattle.region.specs.Needed.{region_bytes}
use Rattle.page_slots.specs.Needed.{table_bytes}
use Rattle.class_lists.specs.Needed.{list_bytes}
use Rattle.proxy_table.specs.Needed.{proxy_bytes}

-- the memory that opening a heap with the settings p asks for: the tables of the pages, the region, the lists of the
-- pages of each class, and the proxies
abbrev pub sliced_bytes : Profile → BytesNeeded
sliced_bytes p =
    both (both (table_bytes p Words) (region_bytes (p.pages * p.page_words)))
    (both (list_bytes (length (sizes p.page_words Words)) p.pages) (proxy_bytes p.proxies))
