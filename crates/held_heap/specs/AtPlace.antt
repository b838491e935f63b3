-- What an exported call that opens a heap does to the heap of a caller in C.
use Rattle.std.specs.Prelude.{◌≡◌, ℕ, ℤ, pos}
use Rattle.cf_base.specs.Settings.{profile_from, setting_fault}
use Rattle.cf_base.specs.declared.kind.Kind.{Kind}
use Rattle.c_base.specs.AtPlace.{IsOpening}
use Rattle.c_base.specs.CallerHeap.{CallerHeap, Closed, Opened, Lent}
use Rattle.held_heap.specs.Calls.{IsFreshHeap}
use Rattle.held_heap.specs.HeldState.{HeldState}

-- A call that opens a heap of this kind with these settings: pages, bytes of a page, bound k, and proxies. On a closed heap it does what `IsOpening` says. On
-- one that is open already it returns 8 (`OPEN`), on a lent one 9 (`LENT`), and changes nothing.
abbrev pub IsOpenCall : Kind → CallerHeap HeldState → ℕ → ℕ → ℕ → ℕ → ℤ → CallerHeap HeldState → Type 0
IsOpenCall kind (Closed last) pages page_bytes k proxies code new =
    IsOpening (setting_fault pages page_bytes k proxies) (IsFreshHeap kind (profile_from pages page_bytes k proxies) last) last code new
IsOpenCall kind (Opened h) pages page_bytes k proxies code new = (code ≡ pos 8) × (new ≡ Opened h)
IsOpenCall kind (Lent h w) pages page_bytes k proxies code new = (code ≡ pos 9) × (new ≡ Lent h w)
