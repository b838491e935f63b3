-- The memory that `nph_tasks_open` asks for, as `nph_tasks_bytes_needed` writes it for a caller in C: its bytes, its
-- blocks, and the bytes of the largest block.
use Rattle.std.specs.Prelude.{ℕ, ℤ}
use Rattle.cf_base.specs.Needed.{both, one_block}
use Rattle.cf_base.specs.Settings.{Profile, profile_from, setting_fault}
use Rattle.cf_base.specs.declared.needed.BytesNeeded.{BytesNeeded}
use Rattle.c_base.specs.Needed.{AreNeeded, IsOfHandles}
use Rattle.c_base.specs.declared.results.NphNeeded.{NphNeeded}
use Rattle.quota_heap.specs.Needed.{quota_bytes}
use Rattle.norphuen_tasks.specs.Handles.{handles_bytes}

-- the memory for a heap with the settings p: for its region and tables, for the handles of `count` numbers for each
-- task, and for the block of the open heap (`HeldTasks`)
abbrev pub tasks_held_bytes : Profile → ℕ → BytesNeeded
tasks_held_bytes p count = both (quota_bytes p) (both (handles_bytes count) (one_block 248))

-- these numbers are the memory that opening a heap with the settings p asks for; a task's count of handles is the
-- least power of two that is not below the proxies
abbrev pub IsTasksHeldBytes : Profile → BytesNeeded → Type 0
IsTasksHeldBytes p = IsOfHandles p.proxies (tasks_held_bytes p)

-- a call for the memory of a heap with these settings: pages, bytes of a page, and proxies of each task
abbrev pub IsTasksNeededCall : ℕ → ℕ → ℕ → ℤ → NphNeeded → NphNeeded → Type 0
IsTasksNeededCall pages page_bytes proxies code before after =
    AreNeeded (setting_fault pages page_bytes 1 proxies) (IsTasksHeldBytes (profile_from pages page_bytes 1 proxies)) code before after
