-- The memory that the heap of tasks asks for.
use Rattle.std.specs.Prelude.{ℕ, ◌*◌, length}
use Rattle.cf_base.specs.Classes.{sizes}
use Rattle.cf_base.specs.Needed.{both, one_block, times}
use Rattle.cf_base.specs.Settings.{Profile}
use Rattle.cf_base.specs.declared.kind.Layout.TheVariants.{Words}
use Rattle.cf_base.specs.declared.needed.BytesNeeded.{BytesNeeded}
use Rattle.region.specs.Needed.{region_bytes}
use Rattle.page_slots.specs.Needed.{table_bytes}
use Rattle.class_lists.specs.Needed.{list_bytes}
use Rattle.proxy_table.specs.Needed.{proxy_bytes}

-- sixteen tasks, each with page lists and proxies of its own; a task takes 680 bytes of the block that they share
abbrev pub task_bytes : ℕ → ℕ → ℕ → BytesNeeded
task_bytes classes pages proxies = both (one_block (16 * 680)) (times 16 (both (list_bytes classes pages) (proxy_bytes proxies)))

-- what the tasks share, which is the tables of the pages and the region, and the tasks
abbrev pub quota_bytes : Profile → BytesNeeded
quota_bytes p =
    both (both (table_bytes p Words) (region_bytes (p.pages * p.page_words))) (task_bytes (length (sizes p.page_words Words)) p.pages p.proxies)
