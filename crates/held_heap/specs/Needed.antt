-- The memory that opening a heap asks for, as a call writes it for a caller in C.
use Rattle.std.specs.Prelude.{ℕ, ℤ, ◌*◌}
use Rattle.cf_base.specs.Needed.{both, one_block}
use Rattle.cf_base.specs.Settings.{Profile, profile_from, setting_fault}
use Rattle.cf_base.specs.declared.kind.Kind.{Kind}
use Rattle.cf_base.specs.declared.kind.Kind.TheVariants.{Moving, NonMoving, Tlsf, HalfFit}
use Rattle.cf_base.specs.declared.needed.BytesNeeded.{BytesNeeded}
use Rattle.paged_heap.specs.Needed.{paged_bytes}
use Rattle.tag_heap.specs.Needed.{tag_bytes}
use Rattle.c_base.specs.Needed.{AreNeeded, IsOfHandles}
use Rattle.c_base.specs.declared.results.NphNeeded.{NphNeeded}

-- the memory that an open manager of each kind asks for, without its `Held`
abbrev pub manager_bytes : Kind → Profile → BytesNeeded
manager_bytes Moving p = paged_bytes Moving p
manager_bytes NonMoving p = paged_bytes NonMoving p
manager_bytes Tlsf p = tag_bytes Tlsf p
manager_bytes HalfFit p = tag_bytes HalfFit p

-- the bytes of the block of an open heap of each kind (`Held`)
abbrev pub held_size : Kind → ℕ
held_size Moving = 1528
held_size NonMoving = 1528
held_size Tlsf = 512
held_size HalfFit = 512

-- the memory of an open heap: that of its manager, a block for the handles of `count` numbers, 4 bytes each, and the block of the `Held`
abbrev pub held_bytes : Kind → Profile → ℕ → BytesNeeded
held_bytes kind p count = both (manager_bytes kind p) (both (one_block (4 * count)) (one_block (held_size kind)))

-- these numbers are the memory that opening a heap with the settings p asks for
abbrev pub IsHeldBytes : Kind → Profile → BytesNeeded → Type 0
IsHeldBytes kind p = IsOfHandles p.proxies (held_bytes kind p)

-- a call for the memory of a heap with these settings: pages, bytes of a page, bound k, and proxies
abbrev pub IsNeededCall : Kind → ℕ → ℕ → ℕ → ℕ → ℤ → NphNeeded → NphNeeded → Type 0
IsNeededCall kind pages page_bytes k proxies code before after =
    AreNeeded (setting_fault pages page_bytes k proxies) (IsHeldBytes kind (profile_from pages page_bytes k proxies)) code before after
