-- For `Held`: what it counts from the opening on, and the counts after each call that changes them.
use Rattle.std.specs.Prelude.{ℕ, ◌+◌, ◌-◌, ◌^◌, Option, Some, None, Result, Ok, Err, max, min}
use Rattle.cf_base.specs.declared.results.Freed.{Freed}
use Rattle.cf_base.specs.declared.results.Handle.{Handle}
use Rattle.cf_base.specs.declared.results.NotLive.{NotLive}
use Rattle.cf_base.specs.declared.results.Refusal.{Refusal}
use Rattle.cf_base.specs.declared.results.Refusal.TheVariants as refusal
use Rattle.cf_base.specs.declared.results.Resized.{Resized}
use Rattle.cf_base.specs.declared.results.ResizeFault.{ResizeFault}
use Rattle.cf_base.specs.declared.results.ResizeFault.TheVariants as resize
use Rattle.cf_model.specs.Answers.{usage_in}
use Rattle.cf_model.specs.Families.{family_of, paged, tiled}
use Rattle.cf_model.specs.State.{HeapState, paging_in}
use Rattle.page_model.specs.Arrangement.{free_pages}
use Rattle.c_base.specs.declared.results.NphCounted.{NphCounted}

-- how many pages are free; with blocks, how many bytes are outside used blocks
abbrev pub free_left : HeapState → ℕ
free_left s = elim (family_of s.kind) [ paged ↦ free_pages (paging_in s) s.held | tiled ↦ (usage_in s.kind s).held - (usage_in s.kind s).taken ]

-- the bytes that the live objects asked for
abbrev pub asked_in : HeapState → ℕ
asked_in s = (usage_in s.kind s).asked

-- the counts of a heap that was just opened, with `free` free pages, or with blocks `free` bytes outside used blocks
abbrev pub opening_counts : ℕ → NphCounted
opening_counts free = record { most_asked = 0; least_free = free; moves = 0; unknown = 0; size = 0; proxy = 0; space = 0 }

-- the count after n: n + 1, but at most the largest number of 64 bits
abbrev pub next_count : ℕ → ℕ
next_count n = min (n + 1) (2 ^ 64 - 1)

-- the counts c after a call that left the heap s: `most_asked` is raised to the bytes asked for in s, if these are more, and `least_free` lowered to what is
-- free in s (`free_left`), if that is less
abbrev pub with_peaks : NphCounted → HeapState → NphCounted
with_peaks c s = record c { most_asked = max c.most_asked (asked_in s); least_free = min c.least_free (free_left s) }

-- the counts after a call that moved this object: one more move; unchanged if it moved none
abbrev pub counted_move : NphCounted → Option Handle → NphCounted
counted_move c (Some h) = record c { moves = next_count c.moves }
counted_move c None = c

-- the counts after a malloc with this result, which left the heap s
abbrev pub malloc_counts : NphCounted → Result Handle Refusal → HeapState → NphCounted
malloc_counts c (Ok h) s = with_peaks c s
malloc_counts c (Err refusal.Size) s = record c { size = next_count c.size }
malloc_counts c (Err refusal.Proxy) s = record c { proxy = next_count c.proxy }
malloc_counts c (Err refusal.Space) s = record c { space = next_count c.space }

-- the counts after a free with this result
abbrev pub free_counts : NphCounted → Result Freed NotLive → NphCounted
free_counts c (Ok freed) = counted_move c freed.moved
free_counts c (Err e) = record c { unknown = next_count c.unknown }

-- the counts after a resize with this result, which left the heap s; that a manager with blocks does not resize is not counted
abbrev pub resize_counts : NphCounted → Result Resized ResizeFault → HeapState → NphCounted
resize_counts c (Ok done) s = counted_move (with_peaks c s) done.moved
resize_counts c (Err resize.Unknown) s = record c { unknown = next_count c.unknown }
resize_counts c (Err resize.Kind) s = c
resize_counts c (Err resize.Size) s = record c { size = next_count c.size }
resize_counts c (Err resize.Space) s = record c { space = next_count c.space }
