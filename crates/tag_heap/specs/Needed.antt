-- The memory that a heap with blocks asks for.
use Rattle.cf_base.specs.Needed.{both}
use Rattle.cf_base.specs.Settings.{Profile}
use Rattle.cf_base.specs.declared.kind.Kind.{Kind}
use Rattle.cf_base.specs.declared.needed.BytesNeeded.{BytesNeeded}
use Rattle.cf_model.specs.Families.{list_count_of}
use Rattle.cf_model.specs.State.{region_words}
use Rattle.tag_blocks.specs.Needed.{tagged_bytes}
use Rattle.proxy_table.specs.Needed.{proxy_bytes}

-- the memory that an open heap of this kind with blocks asks for: the region, the heads of the free lists of the kind,
-- and the proxies
abbrev pub tag_bytes : Kind → Profile → BytesNeeded
tag_bytes kind p = both (tagged_bytes (region_words p) (list_count_of kind)) (proxy_bytes p.proxies)
