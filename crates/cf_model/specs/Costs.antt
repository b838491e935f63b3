-- The bounds that `Manager` sets on the steps of a free, a resize, a read and a write; the exact steps of `peek`, `length` and `block`; and relations between
-- the count of steps before and after a call.
use Rattle.std.specs.Prelude.{◌≡◌, ℕ, ◌+◌, ◌*◌, ◌/◌, ◌%◌, ⊤, Option, Some, None, Result, Ok, Err, if◌then◌else◌, nat_eq, max}
use Rattle.step_ledger.specs.Counting.{RoseAtMost}
use Rattle.cf_base.specs.declared.results.Freed.{Freed}
use Rattle.cf_base.specs.declared.results.NotLive.{NotLive}
use Rattle.cf_base.specs.declared.results.Resized.{Resized}
use Rattle.cf_base.specs.declared.results.ResizeFault.{ResizeFault}
use Rattle.cf_base.specs.declared.kind.Kind.{Kind}
use Rattle.cf_base.specs.declared.kind.Kind.TheVariants.{Moving, NonMoving, Tlsf, HalfFit}
use Rattle.page_model.specs.Held.{Placed}
use Rattle.page_model.specs.Order.{word_steps}
use Rattle.cf_model.specs.Families.{paged, tiled, family_of}
use Rattle.cf_model.specs.declared.manager.TheConstants.{FREE_BOUND, RESIZE_BOUND}

-- the count of steps, `old` before a call and `new` after it, rose by at most n if the kind has pages, and by at most m if it has blocks
abbrev pub TakesAtMost : Kind → ℕ → ℕ → ℕ → ℕ → Type 0
TakesAtMost kind old new n m = elim (family_of kind) [ paged ↦ RoseAtMost old new n | tiled ↦ RoseAtMost old new m ]

-- the most steps of a free with pages: 96, plus twice the words of the freed object's slot; 96 if refused
abbrev pub free_bound : Result Freed NotLive → ℕ
free_bound (Ok freed) = FREE_BOUND + 2 * freed.slot_words
free_bound (Err e) = FREE_BOUND

-- the most steps of a free with blocks: 41, plus the words of the freed object's block; 1 if refused
abbrev pub block_free_bound : Result Freed NotLive → ℕ
block_free_bound (Ok freed) = 41 + freed.slot_words
block_free_bound (Err e) = 1

-- the most steps of a resize with pages: 160, plus three times the words of the larger of the old and the new slot; 160 if refused
abbrev pub resize_bound : Result Resized ResizeFault → ℕ
resize_bound (Ok done) = RESIZE_BOUND + 3 * max done.old_slot_words done.slot_words
resize_bound (Err e) = RESIZE_BOUND

-- how many words of an object hold at least one of its `count` bytes from byte `from` on
abbrev pub words_touched : ℕ → ℕ → ℕ
words_touched from count = if nat_eq count 0 then 0 else (from % 8 + count + 7) / 8

-- the most steps of a read or a write of `count` bytes from byte `from` on: 16, plus three times the words that hold one of them
abbrev pub access_bound : ℕ → ℕ → ℕ
access_bound from count = 16 + 3 * words_touched from count

-- With pages, a resize raised the count of steps from `old` to `new` by exactly `cost`, which the manager shows afterwards. With blocks nothing is claimed.
abbrev pub RoseByCost : Kind → ℕ → ℕ → ℕ → Type 0
RoseByCost kind old new cost = elim (family_of kind) [ paged ↦ new ≡ old + cost | tiled ↦ ⊤ ]

-- the exact steps of `peek`, by its result: those of reading one word; none past the region's end
abbrev pub peek_steps : Kind → Option ℕ → ℕ
peek_steps kind None = 0
peek_steps kind (Some word) = word_steps kind

-- the exact steps of `length`, by its result: one for the proxy, and if the handle is live those of reading the header
abbrev pub length_steps : Kind → Option ℕ → ℕ
length_steps kind None = 1
length_steps kind (Some bytes) = 1 + word_steps kind

-- the exact steps of finding a physical block, by the object and the result: one for the proxy; if the handle is live two for the header and one for the class;
-- if the slot has the block one for the entry of the block table
abbrev pub mapped_block_steps : Option Placed → Option ℕ → ℕ
mapped_block_steps None block = 1
mapped_block_steps (Some x) None = 4
mapped_block_steps (Some x) (Some block) = 5

-- the exact steps of `block`: none if the kind has no block table
abbrev pub block_steps : Kind → Option Placed → Option ℕ → ℕ
block_steps Moving object block = 0
block_steps NonMoving object block = mapped_block_steps object block
block_steps Tlsf object block = 0
block_steps HalfFit object block = 0
