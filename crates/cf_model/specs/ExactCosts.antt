-- The exact steps of a call, computed from the state before it (`s` or `old`) and the result: with pages also from the order `o` of that state, with blocks from
-- the state `new` after the call. Each comment lists what the steps pay for.
use Rattle.std.specs.Prelude.{ℕ, ◌+◌, ◌-◌, ◌*◌, ◌/◌, Option, None, Some, Result, Ok, Err, if◌then◌else◌, length, min, nat_eq, nat_lt}
use Rattle.std.specs.FinMap.{get}
use Rattle.cf_base.specs.declared.results.Freed.{Freed}
use Rattle.cf_base.specs.declared.results.Handle.{Handle}
use Rattle.cf_base.specs.declared.results.NotLive.{NotLive}
use Rattle.cf_base.specs.declared.results.Refusal.{Refusal}
use Rattle.cf_base.specs.declared.results.Refusal.TheVariants as refusal
use Rattle.cf_base.specs.declared.results.Resized.{Resized}
use Rattle.cf_base.specs.declared.results.ResizeFault.{ResizeFault}
use Rattle.cf_base.specs.declared.results.ResizeFault.TheVariants as resize
use Rattle.cf_base.specs.declared.kind.Kind.{Kind}
use Rattle.block_model.specs.Costs.{carve_steps, find_steps, release_steps}
use Rattle.block_model.specs.Tiling.{block_need}
use Rattle.cf_model.specs.Answers.{place_of}
use Rattle.cf_model.specs.Families.{free_lists_of, list_count_of}
use Rattle.cf_model.specs.State.{HeapState, paging_in}
use Rattle.page_model.specs.Arrangement.{class_at}
use Rattle.page_model.specs.Held.{Placed}
use Rattle.page_model.specs.Image.{slot_for}
use Rattle.page_model.specs.Order.{Order, steps_to_drop, steps_to_fill, steps_to_take, word_steps}
use Rattle.page_model.specs.Paging.{class_for, page_of}
use Rattle.page_model.specs.Steps.{Request}
use Rattle.page_model.specs.WordSteps.{copy_steps, run_steps, slot_steps, wipe_steps}

-- With pages, a malloc of `bytes` bytes: finding the class, taking its next slot, binding a proxy, and writing the header; if refused, only finding the class.
abbrev pub malloc_cost : HeapState → Order → ℕ → Result Handle Refusal → ℕ
malloc_cost s o bytes (Ok h) = 3 + word_steps s.kind + steps_to_take (paging_in s) s.held o (class_for (paging_in s) bytes)
malloc_cost s o bytes (Err e) = 1

-- With pages, leaving the slot of the object x, in a free or a resize. If no object moves in (`None`), the slot is cleared and becomes free. Else the object y
-- moves there, which costs its header, its proxy and the copy, and its own slot becomes free.
abbrev pub leaving_cost : HeapState → Order → Placed → Option Handle → ℕ
leaving_cost s o x None =
    wipe_steps s.kind (slot_for (paging_in s) (length x.bytes)) + steps_to_drop (paging_in s) s.held (class_at (paging_in s) x) (page_of (paging_in s) x.place)
leaving_cost s o x (Some y) =
    1 + word_steps s.kind + slot_steps s.kind (slot_for (paging_in s) (length x.bytes)) + steps_to_fill (paging_in s) s.held o (class_at (paging_in s) x)

-- With pages, a free of object h: reading its proxy and header, finding its class, testing whether an object must move, releasing the number, and leaving the
-- slot; if refused, only the proxy.
abbrev pub free_cost : HeapState → Order → ℕ → Result Freed NotLive → ℕ
free_cost s o h (Ok freed) = elim (get s.held h) [ None ↦ 0 | Some x ↦ 5 + word_steps s.kind + leaving_cost s o x freed.moved ]
free_cost s o h (Err e) = 1

-- Cutting an object of m bytes, whose header is word a, to n bytes: writing the word that byte n is in, and clearing the words after it. Nothing unless n < m.
abbrev pub tail_steps : Kind → ℕ → ℕ → ℕ → ℕ
tail_steps kind a n m = if nat_lt n m then word_steps kind + run_steps kind (a + 2 + n / 8) ((m + 7) / 8 - n / 8 - 1) else 0

-- Copying an object of m bytes to another slot, where it has n bytes: copying the words that hold its first m or n bytes, whichever are fewer,
-- clearing the bytes from n on in the last of these words, writing the header, and changing the proxy.
abbrev pub carrying_cost : Kind → ℕ → ℕ → ℕ
carrying_cost kind m n = copy_steps kind 1 ((min m n + 7) / 8) + tail_steps kind 0 n (8 * ((min m n + 7) / 8)) + word_steps kind + 1

-- With pages, resizing the object x to n bytes: reading the proxy and the header, and finding two classes. Within its class, also cutting it and writing the
-- header. To another class, also testing whether an object must move, taking the next slot, copying x there, and leaving the old slot; `moved` is the object
-- that moves into it.
abbrev pub resized_cost : HeapState → Order → ℕ → Placed → Option Handle → ℕ
resized_cost s o n x moved =
    if nat_eq (class_for (paging_in s) n) (class_at (paging_in s) x) then 3 + 2 * word_steps s.kind + tail_steps s.kind 0 n (length x.bytes)
    else 4 + word_steps s.kind + steps_to_take (paging_in s) s.held o (class_for (paging_in s) n) + carrying_cost s.kind (length x.bytes) n
    + leaving_cost s o x moved

-- With pages, a resize. If refused: `Unknown` costs the proxy; `Size` the proxy and one class; `Space` the proxy, the header, two classes, and the test
-- whether an object must move. `Kind` is a refusal with blocks only.
abbrev pub resize_cost : HeapState → Order → Request → Result Resized ResizeFault → ℕ
resize_cost s o asked (Ok done) = elim (get s.held asked.number) [ None ↦ 0 | Some x ↦ resized_cost s o asked.length x done.moved ]
resize_cost s o asked (Err resize.Unknown) = 1
resize_cost s o asked (Err resize.Kind) = 0
resize_cost s o asked (Err resize.Size) = 2
resize_cost s o asked (Err resize.Space) = 4 + word_steps s.kind

-- With blocks, a malloc of `bytes` bytes from the state `old` to `new`: finding and carving a block, and binding a proxy. Refused for space, only the search;
-- refused for the size or the proxies, nothing.
abbrev pub block_malloc_cost : HeapState → ℕ → Result Handle Refusal → HeapState → ℕ
block_malloc_cost old bytes (Ok h) new =
    carve_steps (free_lists_of old.kind) (list_count_of old.kind) old.words old.tiling (block_need bytes) (place_of new h.0) new.tiling + 2
block_malloc_cost old bytes (Err refusal.Size) new = 0
block_malloc_cost old bytes (Err refusal.Proxy) new = 0
block_malloc_cost old bytes (Err refusal.Space) new = find_steps (free_lists_of old.kind) (list_count_of old.kind) old.tiling (block_need bytes) None

-- With blocks, a free of object h from the state `old` to `new`: reading the proxy and the tag, and releasing the proxy and the block; if refused, only the
-- proxy.
abbrev pub block_free_cost : HeapState → ℕ → Result Freed NotLive → HeapState → ℕ
block_free_cost old h (Ok freed) new = elim (place_of old h) [
  | None ↦ 0
  | Some a ↦ release_steps (free_lists_of old.kind) old.words old.tiling a new.tiling + 4
]
block_free_cost old h (Err e) new = 1
