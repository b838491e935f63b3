-- The memory that opening a heap of long objects for C (`Held`) asks for, and the call that writes its numbers for a caller in C.
use Rattle.std.specs.Prelude.{ℕ, ℤ, ◌*◌}
use Rattle.cf_base.specs.Needed.{both, one_block}
use Rattle.cf_base.specs.Settings.{Profile, profile_from, setting_fault}
use Rattle.cf_base.specs.declared.kind.Kind.TheVariants.{Moving}
use Rattle.cf_base.specs.declared.needed.BytesNeeded.{BytesNeeded}
use Rattle.paged_heap.specs.Needed.{paged_bytes}
use Rattle.large_objects.specs.Needed.{large_bytes}
use Rattle.c_base.specs.Needed.{AreNeeded, IsOfHandles}
use Rattle.c_base.specs.declared.results.NphNeeded.{NphNeeded}

-- the memory of a heap of long objects with the settings p, of a table of `count` handles, and of the block of the open heap (`Held`)
abbrev pub large_held_bytes : Profile → ℕ → BytesNeeded
large_held_bytes p count = both (large_bytes (paged_bytes Moving p) p.proxies) (both (one_block (4 * count)) (one_block 1512))

-- `needed` is what opening a heap with the settings p asks for; its count of handles is the least power of two that is not below the proxies
abbrev pub IsLargeHeldBytes : Profile → BytesNeeded → Type 0
IsLargeHeldBytes p = IsOfHandles p.proxies (large_held_bytes p)

-- a call for the memory of a heap with these settings: pages, bytes of a page, and proxies; `before` and `after` are the caller's numbers
abbrev pub IsLargeNeededCall : ℕ → ℕ → ℕ → ℤ → NphNeeded → NphNeeded → Type 0
IsLargeNeededCall pages page_bytes proxies code before after =
    AreNeeded (setting_fault pages page_bytes 1 proxies) (IsLargeHeldBytes (profile_from pages page_bytes 1 proxies)) code before after
