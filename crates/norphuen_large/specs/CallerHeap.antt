-- What a caller in C has for a heap of long objects (`CallerHeap` of `c_base`; it is never lent), and how it is opened and closed.
use Rattle.std.specs.Prelude.{◌≡◌, ℕ, ℤ}
use Rattle.cf_base.specs.Settings.{profile_from, setting_fault}
use Rattle.c_base.specs.AtPlace.{IsOpenBy}
use Rattle.c_base.specs.CallerHeap.{CallerHeap, closed_with}
use Rattle.c_base.specs.Handles.{largest}
use Rattle.c_base.specs.Opening.{Opening}
use Rattle.norphuen_large.specs.Calls.{IsFreshLargeHeap}
use Rattle.norphuen_large.specs.HeldState.{LargeHeldState}
use Rattle.norphuen_large.specs.Needed.{IsLargeHeldBytes}

-- how a heap is opened, with the bound 1 alone; what it needs; and its largest handle
abbrev pub held_opening : Opening LargeHeldState
held_opening = record { takes = λ k. k ≡ 1; is_fresh = IsFreshLargeHeap; needs = IsLargeHeldBytes; last = λ h. largest h.handles }

-- the heap after it is closed, with its largest handle, on which the handles of the next heap depend
abbrev pub large_closed_by : CallerHeap LargeHeldState → CallerHeap LargeHeldState
large_closed_by = closed_with held_opening.last

-- an open with these settings: pages, bytes of a page, and proxies
abbrev pub IsLargeOpenCall : CallerHeap LargeHeldState → ℕ → ℕ → ℕ → ℤ → CallerHeap LargeHeldState → Type 0
IsLargeOpenCall old pages page_bytes proxies code new =
    IsOpenBy (setting_fault pages page_bytes 1 proxies) (IsFreshLargeHeap (profile_from pages page_bytes 1 proxies)) old code new
