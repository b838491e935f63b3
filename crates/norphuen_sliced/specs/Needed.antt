-- The memory that `nph_sliced_open` asks for, as `nph_sliced_bytes_needed` writes it for a caller in C.
use Rattle.std.specs.Prelude.{ℕ, ℤ, ◌*◌}
use Rattle.cf_base.specs.Needed.{both, one_block}
use Rattle.cf_base.specs.Settings.{Profile, profile_from, setting_fault}
use Rattle.cf_base.specs.declared.needed.BytesNeeded.{BytesNeeded}
use Rattle.sliced_heap.specs.Needed.{sliced_bytes}
use Rattle.c_base.specs.Needed.{AreNeeded, IsOfHandles}
use Rattle.c_base.specs.declared.results.NphNeeded.{NphNeeded}

-- the bytes of the block of an open heap (`Held`)
abbrev pub sliced_held_size : ℕ
sliced_held_size = 944

-- the memory for a heap with the settings p: for its region and tables, for the handles of `count` numbers, and for the
-- block of the open heap
abbrev pub sliced_held_bytes : Profile → ℕ → BytesNeeded
sliced_held_bytes p count = both (sliced_bytes p) (both (one_block (4 * count)) (one_block sliced_held_size))

-- these numbers are the memory that opening a heap with the settings p asks for; its count of handles is the least
-- power of two that is not below the proxies
abbrev pub IsSlicedHeldBytes : Profile → BytesNeeded → Type 0
IsSlicedHeldBytes p = IsOfHandles p.proxies (sliced_held_bytes p)

-- a call for the memory of a heap with these settings: pages, bytes of a page, and proxies
abbrev pub IsSlicedNeededCall : ℕ → ℕ → ℕ → ℤ → NphNeeded → NphNeeded → Type 0
IsSlicedNeededCall pages page_bytes proxies code before after =
    AreNeeded (setting_fault pages page_bytes 1 proxies) (IsSlicedHeldBytes (profile_from pages page_bytes 1 proxies)) code before after
