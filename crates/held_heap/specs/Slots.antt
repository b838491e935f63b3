-- For `Held`: how many words the slot or block of a live object has, and over a manager with pages the class of a length.
use Rattle.std.specs.Prelude.{◌≡◌, ℕ, ℤ, Option, option_map}
use Rattle.std.specs.FinMap.{get}
use Rattle.cf_base.specs.Classes.{class_of}
use Rattle.cf_base.specs.declared.kind.Kind.{Kind}
use Rattle.cf_model.specs.Families.{family_of, paged, tiled}
use Rattle.cf_model.specs.State.{HeapState, paging_in}
use Rattle.cf_model.specs.Steps.{slot_in}
use Rattle.paged_heap.specs.Slots as page
use Rattle.step_ledger.specs.Counting.{RoseBy}
use Rattle.tag_heap.specs.Costs.{block_words_steps}
use Rattle.c_base.specs.Handles.{number_in}
use Rattle.c_base.specs.Shown.{class_code, found_code, found_number}
use Rattle.held_heap.specs.HeldState.{HeldState}

-- the words of the slot or block of object n, which its free would return; none if it is not live
abbrev pub slot_words_of : Kind → HeapState → ℕ → Option ℕ
slot_words_of kind s n = option_map (slot_in kind s) (get s.held n)

-- the exact steps of a call for the words of an object's slot or block, by its result
abbrev pub object_words_steps : Kind → Option ℕ → ℕ
object_words_steps kind words = elim (family_of kind) [ paged ↦ page.slot_words_steps kind words | tiled ↦ block_words_steps words ]

-- a call for the words of the slot or block of the object that `handle` names; the heap is unchanged
pub record IsSlotWordsCall (of_kind : Kind) (old : HeldState) (handle before : ℕ) (code : ℤ) (after : ℕ) (new : HeldState) : Type 0 where
  pub by_code : code ≡ found_code (slot_words_of of_kind old.heap (number_in old.handles handle))
  pub by_kind : old.heap.kind ≡ of_kind
  pub by_words : after ≡ found_number (slot_words_of of_kind old.heap (number_in old.handles handle)) before
  pub kept : new.heap ≡ old.heap
  pub same : new.handles ≡ old.handles
  pub counts : new.counts ≡ old.counts
  pub exact : RoseBy 0 new.steps (object_words_steps of_kind (slot_words_of of_kind old.heap (number_in old.handles handle)))

-- a call for the class of an object of `bytes` bytes; the heap is unchanged
pub record IsClassCall (old : HeldState) (bytes before : ℕ) (code : ℤ) (after : ℕ) (new : HeldState) : Type 0 where
  pub by_code : code ≡ class_code (class_of (paging_in old.heap).sizes bytes)
  pub by_class : after ≡ found_number (class_of (paging_in old.heap).sizes bytes) before
  pub kept : new.heap ≡ old.heap
  pub same : new.handles ≡ old.handles
  pub counts : new.counts ≡ old.counts
  pub exact : RoseBy 0 new.steps 1
