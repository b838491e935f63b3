-- What is true of a heap and its handles: in every state, and of the handle of a malloc.
use Rattle.std.specs.Prelude.{ℕ}
use Rattle.cf_model.specs.Rules.{KeepsRules}
use Rattle.c_base.specs.HandleRules.{HasHandles, IsNewOf}
use Rattle.held_heap.specs.HeldState.{HeldState}

-- the heap keeps its rules, and each number that an object can have has a handle
abbrev pub KeepsHandles : HeldState → Type 0
KeepsHandles h = HasHandles (KeepsRules h.heap) h.heap.profile.proxies h.handles

-- a malloc that leads from `old` to `new` gives this handle: it names, before and after, a number that had no object before, and is less than `none`
abbrev pub IsNewHandle : HeldState → ℕ → HeldState → Type 0
IsNewHandle old handle new = IsNewOf old.heap.held old.handles handle new.handles
