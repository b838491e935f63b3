-- The memory that opening a heap whose objects have ids asks for, and loading one from an image; and the call that writes its numbers for a caller in C.
use Rattle.std.specs.Prelude.{◌≡◌, ℕ, ◌*◌, ℤ}
use Rattle.cf_base.specs.Needed.{both, one_block}
use Rattle.cf_base.specs.Settings.{Profile, profile_from, setting_fault}
use Rattle.cf_base.specs.declared.kind.Kind.TheVariants.{Moving}
use Rattle.cf_base.specs.declared.needed.BytesNeeded.{BytesNeeded}
use Rattle.paged_heap.specs.Needed.{paged_bytes}
use Rattle.c_base.specs.Needed.{AreNeeded}
use Rattle.c_base.specs.declared.results.NphNeeded.{NphNeeded}

-- what opening a heap with the settings p asks for: the heap, the table of 65,536 ids, and the block of the open heap
abbrev pub IsImagesHeldBytes : Profile → BytesNeeded → Type 0
IsImagesHeldBytes p needed = needed ≡ both (paged_bytes Moving p) (both (one_block (8 * 65536)) (one_block 1512))

-- a call for the memory of a heap with these settings: pages, bytes of a page, bound k, and proxies; `before` and `after` are the caller's numbers
abbrev pub IsImagesNeededCall : ℕ → ℕ → ℕ → ℕ → ℤ → NphNeeded → NphNeeded → Type 0
IsImagesNeededCall pages page_bytes k proxies code before after =
    AreNeeded (setting_fault pages page_bytes k proxies) (IsImagesHeldBytes (profile_from pages page_bytes k proxies)) code before after
