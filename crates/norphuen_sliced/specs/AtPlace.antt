-- What an exported call does to the sliced heap of a caller in C: it opens the heap, or lends it.
use Rattle.std.specs.Prelude.{◌≡◌, ℕ, ℤ, pos, ◌&&◌, Bool, true, false, Option, Some, None, nat_le}
use denote.RawPtr.{Ptr}
use Rattle.cf_base.specs.Settings.{Profile, profile_from, setting_fault}
use Rattle.cf_base.specs.declared.settings.SettingFault.{SettingFault}
use Rattle.c_base.specs.AtPlace.{IsOpenedHeap}
use Rattle.c_base.specs.CallerHeap.{CallerHeap, Closed, Opened, Lent}
use Rattle.c_base.specs.Codes.{fault_code}
use Rattle.slice_model.specs.State.{Job, Idle, Clear, Move}
use Rattle.norphuen_sliced.specs.Calls.{IsFreshSlicedHeap}
use Rattle.norphuen_sliced.specs.HeldState.{SlicedHeldState}

-- An open of a closed heap with the valid settings p. The first argument is whether the quantum is 1 to 16,384 words: if not, 19 (`QUANTUM`) is returned, and
-- the heap stays closed.
abbrev pub IsOpenedIn : Bool → Profile → ℕ → ℕ → ℤ → CallerHeap SlicedHeldState → Type 0
IsOpenedIn true p quantum last code new = IsOpenedHeap (IsFreshSlicedHeap p quantum last) last code new
IsOpenedIn false p quantum last code new = (code ≡ pos 19) × (new ≡ Closed last)

-- An open of a closed heap. The first argument is the first setting out of range: its code is returned, and the heap stays closed. If it is `None`,
-- `IsOpenedIn` holds.
abbrev pub IsSlicedOpening : Option SettingFault → Profile → ℕ → ℕ → ℤ → CallerHeap SlicedHeldState → Type 0
IsSlicedOpening (Some e) p quantum last code new = (code ≡ fault_code e) × (new ≡ Closed last)
IsSlicedOpening None p quantum last code new = IsOpenedIn (nat_le 1 quantum && nat_le quantum 16384) p quantum last code new

-- An open with these settings: pages, bytes of a page, proxies, and quantum. On a heap that is open already it returns 8 (`OPEN`), on a lent one 9 (`LENT`),
-- and changes nothing.
abbrev pub IsSlicedOpenCall : CallerHeap SlicedHeldState → ℕ → ℕ → ℕ → ℕ → ℤ → CallerHeap SlicedHeldState → Type 0
IsSlicedOpenCall (Closed last) pages page_bytes proxies quantum code new =
    IsSlicedOpening (setting_fault pages page_bytes 1 proxies) (profile_from pages page_bytes 1 proxies) quantum last code new
IsSlicedOpenCall (Opened h) pages page_bytes proxies quantum code new = (code ≡ pos 8) × (new ≡ Opened h)
IsSlicedOpenCall (Lent h w) pages page_bytes proxies quantum code new = (code ≡ pos 9) × (new ≡ Lent h w)

-- A loan of the open heap h. The first argument is its job. If none is pending the heap is lent, with the same state, and `after` is the address of its words.
-- If one is pending the code is 18 (`BUSY`), and nothing changes: the words of an object in motion are not side by side.
abbrev pub IsLending : Job → SlicedHeldState → ℤ → CallerHeap SlicedHeldState → Ptr → Ptr → Type 0
IsLending Idle h code new before after = (code ≡ pos 0) × (new ≡ Lent h after)
IsLending (Clear k) h code new before after = (code ≡ pos 18) × (new ≡ Opened h) × (after ≡ before)
IsLending (Move q k) h code new before after = (code ≡ pos 18) × (new ≡ Opened h) × (after ≡ before)

-- A call for a loan: of an open heap as `IsLending` says. Else the code is that of `IsCallOnOpen`, the heap stays, and the caller's pointer is unchanged.
abbrev pub IsSlicedLendCall : CallerHeap SlicedHeldState → ℤ → CallerHeap SlicedHeldState → Ptr → Ptr → Type 0
IsSlicedLendCall (Closed last) code new before after = (code ≡ pos 7) × (new ≡ Closed last) × (after ≡ before)
IsSlicedLendCall (Opened h) code new before after = IsLending h.heap.job h code new before after
IsSlicedLendCall (Lent h w) code new before after = (code ≡ pos 9) × (new ≡ Lent h w) × (after ≡ before)
