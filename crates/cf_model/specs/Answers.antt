-- What the calls of a manager that change nothing (`place`, `block`, `classes`, `figures`, `totals`, `usage`) return in the state `s`; and what `set_bound`
-- does.
use Rattle.std.specs.Prelude.{ℕ, ◌*◌, ◌/◌, Option, Some, None, if◌then◌else◌, length, nat_eq, nat_lt, position, option_map, slice_set}
use Rattle.std.specs.FinMap.{get, len}
use Rattle.cf_base.specs.declared.results.Figures.{Figures}
use Rattle.cf_base.specs.declared.results.Totals.{Totals}
use Rattle.cf_base.specs.declared.kind.Kind.{Kind}
use Rattle.cf_base.specs.declared.kind.Kind.TheVariants.{Moving, NonMoving, Tlsf, HalfFit}
use Rattle.page_model.specs.Held.{Placed, objects}
use Rattle.page_model.specs.Figures.{figures_of, totals_of, asked_bytes}
use Rattle.page_model.specs.Frames.{block_of}
use Rattle.page_model.specs.Image.{slot_for}
use Rattle.page_model.specs.Paging.{classes}
use Rattle.block_model.specs.Tiling.{used_words, used_blocks, free_blocks, largest_free}
use Rattle.cf_model.specs.declared.usage.Usage.{Usage}
use Rattle.cf_model.specs.Families.{paged, tiled, family_of}
use Rattle.cf_model.specs.State.{HeapState, paging_in, region_words}

-- the address of object h: the first word of its slot or block; none if h is not live
abbrev pub place_of : HeapState → ℕ → Option ℕ
place_of s h = option_map (λ (x : Placed). x.place) (get s.held h)

-- The number of the physical block that holds block i of an object's slot. Blocks have four words, and i counts from 0. None if there is no object, or its slot
-- has no block i.
abbrev pub block_of_object : HeapState → Option Placed → ℕ → Option ℕ
block_of_object s None i = None
block_of_object s (Some x) i = if nat_lt i (slot_for (paging_in s) (length x.bytes) / 4) then Some (block_of s.frames x.place i) else None

-- `block_of_object` for object h; always none for the kinds without a block table
abbrev pub block_in : Kind → HeapState → ℕ → ℕ → Option ℕ
block_in Moving s h i = None
block_in NonMoving s h i = block_of_object s (get s.held h) i
block_in Tlsf s h i = None
block_in HalfFit s h i = None

-- the number of size classes; 0 with blocks
abbrev pub classes_in : Kind → HeapState → ℕ
classes_in kind s = elim (family_of kind) [ paged ↦ classes (paging_in s) | tiled ↦ 0 ]

-- the figures of class c; none if there is no such class
abbrev pub figures_in : HeapState → ℕ → Option Figures
figures_in s c = if nat_lt c (classes_in s.kind s) then Some (figures_of (paging_in s) s.held c) else None

-- The figures of a heap with blocks: `live` objects; their bytes as `asked`, those of their blocks as `taken`, and those of the region as `held`; how many
-- blocks are `used` and `free`; and the words of the `largest` free one.
abbrev pub block_totals : HeapState → Totals
block_totals s = record {
  live = len s.held;
  asked = asked_bytes (objects s.held);
  taken = 8 * used_words s.tiling;
  held = 8 * region_words s.profile;
  used = used_blocks s.tiling;
  free = free_blocks s.tiling;
  largest = largest_free s.tiling;
}

-- the figures of a whole heap of this kind
abbrev pub totals_in : Kind → HeapState → Totals
totals_in kind s = elim (family_of kind) [ paged ↦ totals_of (paging_in s) s.held | tiled ↦ block_totals s ]

-- the bytes asked, taken and held, from the figures of a whole heap
abbrev pub usage_of : Totals → Usage
usage_of t = record { asked = t.asked; taken = t.taken; held = t.held }

-- the bytes asked, taken and held of a heap of this kind
abbrev pub usage_in : Kind → HeapState → Usage
usage_in kind s = usage_of (totals_in kind s)

-- the class whose slots have `words` words; none if there is no such class, so always with blocks
abbrev pub class_with : Kind → HeapState → ℕ → Option ℕ
class_with kind s words = elim (family_of kind) [ paged ↦ position (λ w. nat_eq w words) (paging_in s).sizes | tiled ↦ None ]

-- the state s after the class gets the bound k; unchanged if there is no class
abbrev pub with_bound : HeapState → Option ℕ → ℕ → HeapState
with_bound s None k = s
with_bound s (Some c) k = record s { bounds = slice_set s.bounds c k }
