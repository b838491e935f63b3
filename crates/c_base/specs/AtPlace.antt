-- What an exported call does to the heap of a caller in C: it opens the heap, works on an open one, lends it, ends the loan, or only returns a code.
use Rattle.std.specs.Prelude.{◌≡◌, ℕ, ℤ, pos, Option, Some, None}
use denote.RawPtr.{Ptr}
use Rattle.cf_base.specs.declared.settings.SettingFault.{SettingFault}
use Rattle.c_base.specs.CallerHeap.{CallerHeap, Closed, Opened, Lent}
use Rattle.c_base.specs.Codes.{fault_code}

-- the heap is open, and `holds` is true of its state
abbrev pub IsOpenWith : {T : Type 0} → CallerHeap T → (T → Type 0) → Type 0
IsOpenWith (Closed last) holds = ⊥
IsOpenWith (Opened h) holds = holds h
IsOpenWith (Lent h w) holds = ⊥

-- A call on a heap that returns `code` and leaves the heap `new`. On an open heap it does `step`, a relation of the states before and after it. On a closed
-- one it returns 7 (`CLOSED`), on a lent one 9 (`LENT`). Then the heap stays, and `kept` says that the caller's values do.
abbrev pub IsCallOnOpen : {T : Type 0} → CallerHeap T → ℤ → CallerHeap T → Type 0 → (T → T → Type 0) → Type 0
IsCallOnOpen (Closed last) code new kept step = (code ≡ pos 7) × (new ≡ Closed last) × kept
IsCallOnOpen (Opened h) code new kept step = IsOpenWith new (step h)
IsCallOnOpen (Lent h w) code new kept step = (code ≡ pos 9) × (new ≡ Lent h w) × kept

-- A call that opens a closed heap with valid settings. It returns 0, and `fresh` holds of the new heap; or 10 (`MEMORY`), and the heap is still closed.
abbrev pub IsOpenedHeap : {T : Type 0} → (T → Type 0) → ℕ → ℤ → CallerHeap T → Type 0
IsOpenedHeap fresh last code (Closed now) = (code ≡ pos 10) × (now ≡ last)
IsOpenedHeap fresh last code (Opened h) = (code ≡ pos 0) × fresh h
IsOpenedHeap fresh last code (Lent h w) = ⊥

-- A call that opens a closed heap. If the first argument is `None`, all settings are valid and `IsOpenedHeap` holds. Else it is the first setting out of range:
-- the call returns its code, and the heap stays closed.
abbrev pub IsOpening : {T : Type 0} → Option SettingFault → (T → Type 0) → ℕ → ℤ → CallerHeap T → Type 0
IsOpening (Some e) fresh last code new = (code ≡ fault_code e) × (new ≡ Closed last)
IsOpening None fresh last code new = IsOpenedHeap fresh last code new

-- A call that opens a heap. The first argument is the first setting out of range, or `None`. `fresh last` holds of a heap that was just opened with these settings,
-- where the largest handle of the heap before was `last`. On an open heap the call returns 8 (`OPEN`), on a lent one 9 (`LENT`), and changes nothing.
abbrev pub IsOpenBy : {T : Type 0} → Option SettingFault → (ℕ → T → Type 0) → CallerHeap T → ℤ → CallerHeap T → Type 0
IsOpenBy fault fresh (Closed last) code new = IsOpening fault (fresh last) last code new
IsOpenBy fault fresh (Opened h) code new = (code ≡ pos 8) × (new ≡ Opened h)
IsOpenBy fault fresh (Lent h w) code new = (code ≡ pos 9) × (new ≡ Lent h w)

-- A call that lends a heap. It lends an open heap with the same state, and `after` is the address of the heap's words. On another heap the code is that of
-- `IsCallOnOpen`, and the heap and the caller's pointer stay.
abbrev pub IsLendCall : {T : Type 0} → CallerHeap T → ℤ → CallerHeap T → Ptr → Ptr → Type 0
IsLendCall (Closed last) code new before after = (code ≡ pos 7) × (new ≡ Closed last) × (after ≡ before)
IsLendCall (Opened h) code new before after = (code ≡ pos 0) × (new ≡ Lent h after)
IsLendCall (Lent h w) code new before after = (code ≡ pos 9) × (new ≡ Lent h w) × (after ≡ before)

-- A call that ends a loan. It opens a lent heap, with the state after the caller's writes. On a closed heap it returns 7 (`CLOSED`), on an open one 16
-- (`NOT_LENT`), and the heap stays.
abbrev pub IsReturnCall : {T : Type 0} → CallerHeap T → ℤ → CallerHeap T → Type 0
IsReturnCall (Closed last) code new = (code ≡ pos 7) × (new ≡ Closed last)
IsReturnCall (Opened h) code new = (code ≡ pos 16) × (new ≡ Opened h)
IsReturnCall (Lent h w) code new = (code ≡ pos 0) × (new ≡ Opened h)
