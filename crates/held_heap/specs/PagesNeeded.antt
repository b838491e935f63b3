-- How many pages a program needs, as a call writes it for a caller in C, and calls that keep to the needs.
use Rattle.std.specs.Prelude.{◌≡◌, ℕ, ℤ, pos, ◌/◌, ◌<◌, ◌≤◌, ◌⊎◌, List, [], ◌∷◌, Option}
use Rattle.std.specs.FinMap.{empty}
use Rattle.cf_base.specs.Classes.{sizes}
use Rattle.cf_base.specs.declared.kind.Layout.{Layout}
use Rattle.cf_model.specs.Bounds.{Bounds}
use Rattle.cf_model.specs.State.{HeapState, layout_of}
use Rattle.page_model.specs.Held.{objects}
use Rattle.page_model.specs.Paging.{IsPaging, Paging}
use Rattle.quota_model.specs.Admission.{declared_in_all}
use Rattle.quota_model.specs.declared.results.Need.{Need}
use Rattle.sizing.specs.Demands.{KeepsTo}
use Rattle.sizing.specs.Heaps.{IsFresh, ServesHeapMallocs, ServesHeapResizes}
use Rattle.sizing.specs.Needs.{HasFault, HasNoFault}
use Rattle.sizing.specs.Runs.{CanBeRefused}
use Rattle.sizing.specs.declared.by_numbers.NeedsFault.{NeedsFault}
use Rattle.held_heap.specs.Bound.{IsBoundCall}
use Rattle.held_heap.specs.Calls.{IsFreeCall, IsMallocCall, IsResizeCall, IsWriteCall}
use Rattle.held_heap.specs.Codes.{needs_code}
use Rattle.held_heap.specs.HeldState.{HeldState}
use Rattle.c_base.specs.declared.results.NphFreed.{NphFreed}
use Rattle.c_base.specs.declared.results.NphResized.{NphResized}

-- With so many pages of `page_bytes` bytes a fresh heap with slots of this layout, whatever its bounds, refuses no malloc (`mallocs`) and no resize (`resizes`)
-- for space while the program keeps to its needs; with fewer a malloc of some such program is refused (`least`). The needs declare at most 65,536 objects.
pub record AreLeastPages (layout : Layout) (page_bytes : ℕ) (needs : List Need) (pages : ℕ) : Type 0 where
  pub mallocs : (s : HeapState) → IsFresh s → layout_of s.kind ≡ layout → s.profile.page_words ≡ page_bytes / 8 → pages ≤ s.profile.pages
      → ServesHeapMallocs (KeepsTo needs) s
  pub resizes : (s : HeapState) → IsFresh s → layout_of s.kind ≡ layout → s.profile.page_words ≡ page_bytes / 8 → pages ≤ s.profile.pages
      → ServesHeapResizes (KeepsTo needs) s
  pub least : (p : Paging) → IsPaging p → p.page_words ≡ page_bytes / 8 → p.sizes ≡ sizes (page_bytes / 8) layout → p.pages < pages
      → CanBeRefused p (KeepsTo needs) empty
  pub proxies : declared_in_all needs ≤ 65536

-- a refused call for the pages of a program: its cause, the first that holds, and the code of the cause; the caller's number stays
pub record IsPagesRefusal (page_bytes k : ℕ) (needs : List Need) (code : ℤ) (before after : ℕ) : Type 0 where
  pub cause : NeedsFault
  pub fault : HasFault page_bytes k needs cause
  pub by_code : code ≡ needs_code cause
  pub same : after ≡ before

-- a call for the pages of a program with these needs: code 0 and the least number if no cause of a refusal holds, or a refusal
abbrev pub IsPagesCall : Layout → ℕ → ℕ → List Need → ℤ → ℕ → ℕ → Type 0
IsPagesCall layout page_bytes k needs code before after =
    ((code ≡ pos 0) × HasNoFault page_bytes k needs × AreLeastPages layout page_bytes needs after) ⊎ IsPagesRefusal page_bytes k needs code before after

-- a call in C on an open heap, with what the caller has before and after it; `other_call` is one that leaves the manager's heap as it is
pub data CCall : Type 0 where
  malloc_call : (bytes before : ℕ) (code : ℤ) (after : ℕ) → CCall
  free_call : (handle : ℕ) (before : NphFreed) (code : ℤ) (after : NphFreed) → CCall
  resize_call : (handle bytes : ℕ) (before : NphResized) (code : ℤ) (after : NphResized) → CCall
  write_call : (handle from : ℕ) (bytes : List ℕ) (code : ℤ) → CCall
  bound_call : (words k : ℕ) (code : ℤ) → CCall
  other_call : CCall

-- the call leads from the state `old` to `new`
abbrev pub CallLeads : Option Bounds → HeldState → CCall → HeldState → Type 0
CallLeads most old (malloc_call bytes before code after) new = IsMallocCall most old bytes before code after new
CallLeads most old (free_call handle before code after) new = IsFreeCall most old handle before code after new
CallLeads most old (resize_call handle bytes before code after) new = IsResizeCall most old handle bytes before code after new
CallLeads most old (write_call handle from bytes code) new = IsWriteCall most old handle from bytes code new
CallLeads most old (bound_call words k code) new = IsBoundCall old words k code new
CallLeads most old other_call new = new.heap ≡ old.heap

-- from the state s the calls, one after the other, lead to `last`; after each the live objects are within the needs
abbrev pub CallRun : Option Bounds → List Need → HeldState → List CCall → HeldState → Type 0
CallRun most needs s [] last = last ≡ s
CallRun most needs s (call ∷ rest) last = (next : HeldState) × CallLeads most s call next × KeepsTo needs (objects next.heap.held) × CallRun most needs next rest last
