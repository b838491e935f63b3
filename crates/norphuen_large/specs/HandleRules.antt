-- What is true of a heap of long objects and its handles: in every state, and of the handle of a malloc.
use Rattle.std.specs.Prelude.{◌≡◌, ℕ, ◌<◌, None, Some, replicate}
use Rattle.std.specs.FinMap.{get}
use Rattle.large_objects.specs.Large.{KeepsParts}
use Rattle.c_base.specs.HandleRules.{HasHandles}
use Rattle.c_base.specs.Handles.{none, number_in}
use Rattle.norphuen_large.specs.HeldState.{LargeHeldState}

-- the heap keeps its rules, and each number that an object can have has a handle
abbrev pub KeepsLargeHandles : LargeHeldState → Type 0
KeepsLargeHandles h = HasHandles (KeepsParts h.heap) h.heap.inner.profile.proxies h.handles

-- a malloc of `bytes` bytes that leads from `old` to `new` gives this handle: its number had no object before, and has the new one after; the handle is less than `none`
pub record IsNewLargeHandle (old : LargeHeldState) (bytes handle : ℕ) (new : LargeHeldState) : Type 0 where
  pub before : get old.heap.objects (number_in old.handles handle) ≡ None
  pub names : get new.heap.objects (number_in new.handles handle) ≡ Some (replicate bytes 0)
  pub in_range : handle < none
