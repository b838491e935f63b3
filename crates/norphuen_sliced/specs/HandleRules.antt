-- What is true of a sliced heap and its handles: in every state, and of the handle of a malloc.
use Rattle.std.specs.Prelude.{ℕ}
use Rattle.sliced_heap.specs.Shown.{KeepsSlicedRules}
use Rattle.c_base.specs.HandleRules.{HasHandles, IsNewOf}
use Rattle.norphuen_sliced.specs.HeldState.{SlicedHeldState}

-- the heap keeps its rules, and each number that an object can have has a handle
abbrev pub KeepsSlicedHandles : SlicedHeldState → Type 0
KeepsSlicedHandles h = HasHandles (KeepsSlicedRules h.heap) h.heap.profile.proxies h.handles

-- a malloc that leads from `old` to `new` gives this handle: it names the new object, whose number had no object, and is less than `none`
abbrev pub IsNewSlicedHandle : SlicedHeldState → ℕ → SlicedHeldState → Type 0
IsNewSlicedHandle old handle new = IsNewOf old.heap.held old.handles handle new.handles
