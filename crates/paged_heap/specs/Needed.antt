-- The memory that a heap with pages asks for.
use Rattle.std.specs.Prelude.{◌*◌, ◌/◌, length}
use Rattle.cf_base.specs.Classes.{sizes}
use Rattle.cf_base.specs.Needed.{both}
use Rattle.cf_base.specs.Settings.{Profile}
use Rattle.cf_base.specs.declared.kind.Kind.{Kind}
use Rattle.cf_base.specs.declared.kind.Kind.TheVariants.{Moving, NonMoving, Tlsf, HalfFit}
use Rattle.cf_base.specs.declared.kind.Layout.{Layout}
use Rattle.cf_base.specs.declared.kind.Layout.TheVariants.{Words, Blocks}
use Rattle.cf_base.specs.declared.needed.BytesNeeded.{BytesNeeded}
use Rattle.region.specs.Needed.{region_bytes}
use Rattle.block_table.specs.Needed.{block_table_bytes}
use Rattle.page_slots.specs.Needed.{table_bytes}
use Rattle.class_lists.specs.Needed.{list_bytes}
use Rattle.proxy_table.specs.Needed.{proxy_bytes}

-- the memory that `OpenHeap::new` asks for: for the tables of the pages, the region, the lists of
-- the pages of each class, and the proxies
abbrev pub open_bytes : Profile → Layout → BytesNeeded
open_bytes p layout =
    both (both (table_bytes p layout) (region_bytes (p.pages * p.page_words)))
    (both (list_bytes (length (sizes p.page_words layout)) p.pages) (proxy_bytes p.proxies))

-- the memory that opening a heap of this kind asks for, for the non-moving kind with a block table;
-- no heap with pages is of the kind TLSF or Half-Fit
abbrev pub paged_bytes : Kind → Profile → BytesNeeded
paged_bytes Moving p = open_bytes p Words
paged_bytes NonMoving p = both (open_bytes p Blocks) (block_table_bytes p.pages (p.page_words / 4))
paged_bytes Tlsf p = open_bytes p Words
paged_bytes HalfFit p = open_bytes p Words
