-- What a caller in C has for a heap: a closed heap, an open one, or an open one that is lent. Also which of the three it is, with the codes of calls that it
-- refuses; the address of the block of a loan; and the heap after it is closed. T is the state of a heap.
use Rattle.std.specs.Prelude.{ℕ, ℤ, pos, Bool, true, false, Option, Some, None, Result, Ok, Err}
use denote.RawPtr.{Ptr}

-- The heap of a caller in C: closed, with the largest handle of the heap before; or open in this state. While it is lent, the words of its region are the caller's, and the pointer is their address.
pub data CallerHeap (T : Type 0) : Type 0 where
  Closed : ℕ → CallerHeap T
  Opened : T → CallerHeap T
  Lent : T → Ptr → CallerHeap T

-- the heap of a block that has this state, or of a loan of words at this address; if there is neither, `last` is the largest handle of the heap before
abbrev pub heap_of : {T : Type 0} → Option T → Option T → Ptr → ℕ → CallerHeap T
heap_of (Some h) lent words last = Opened h
heap_of None (Some h) words last = Lent h words
heap_of None None words last = Closed last

-- whether the heap is open, and not lent
abbrev pub opened_now : {T : Type 0} → CallerHeap T → Bool
opened_now (Closed last) = false
opened_now (Opened h) = true
opened_now (Lent h w) = false

-- whether the heap is lent
abbrev pub lent_now : {T : Type 0} → CallerHeap T → Bool
lent_now (Closed last) = false
lent_now (Opened h) = false
lent_now (Lent h w) = true

-- the largest handle of the heap before, if the heap is closed; else the code of a call to open it: 8 (`OPEN`) or 9 (`LENT`)
abbrev pub closed_now : {T : Type 0} → CallerHeap T → Result ℕ ℤ
closed_now (Closed last) = Ok last
closed_now (Opened h) = Err (pos 8)
closed_now (Lent h w) = Err (pos 9)

-- the address of the block of a loan: of the heap at p if it is lent, else q, any address
abbrev pub lent_block_in : {T : Type 0} → CallerHeap T → Ptr → Ptr → Ptr
lent_block_in (Closed last) p q = q
lent_block_in (Opened h) p q = q
lent_block_in (Lent h w) p q = p

-- the code of a call on a heap that is not open: 9 (`LENT`) if it is lent, else 7 (`CLOSED`)
abbrev pub refusal_code : {T : Type 0} → CallerHeap T → ℤ
refusal_code (Closed last) = pos 7
refusal_code (Opened h) = pos 7
refusal_code (Lent h w) = pos 9

-- the heap after it is closed, where `last_of` is its largest handle; the handles of the next heap depend on that one (`base_of`)
abbrev pub closed_with : {T : Type 0} → (T → ℕ) → CallerHeap T → CallerHeap T
closed_with last_of (Closed last) = Closed last
closed_with last_of (Opened h) = Closed (last_of h)
closed_with last_of (Lent h w) = Closed (last_of h)
