-- The codes that a call of the sliced heap returns to C, by the result of the heap's call.
use Rattle.std.specs.Prelude.{ℤ, pos, Result, Ok, Err}
use Rattle.slice_model.specs.declared.refusals.SliceFault.{SliceFault}
use Rattle.slice_model.specs.declared.refusals.SliceFault.TheVariants as fault
use Rattle.slice_model.specs.declared.refusals.SliceRefusal.{SliceRefusal}
use Rattle.slice_model.specs.declared.refusals.SliceRefusal.TheVariants as refusal

-- the code of a malloc that is refused for this cause; 18 (`BUSY`) if only the slot of the pending job is left
abbrev pub slice_refusal_code : SliceRefusal → ℤ
slice_refusal_code refusal.Size = pos 1
slice_refusal_code refusal.Proxy = pos 2
slice_refusal_code refusal.Space = pos 3
slice_refusal_code refusal.Busy = pos 18

-- the code of a malloc with this result
abbrev pub slice_malloc_code : {T : Type 0} → Result T SliceRefusal → ℤ
slice_malloc_code (Ok u) = pos 0
slice_malloc_code (Err e) = slice_refusal_code e

-- the code of a free that is refused for this cause; 18 (`BUSY`) if a job is pending
abbrev pub slice_fault_code : SliceFault → ℤ
slice_fault_code fault.Unknown = pos 4
slice_fault_code fault.Busy = pos 18

-- the code of a free with this result
abbrev pub slice_free_code : {T : Type 0} → Result T SliceFault → ℤ
slice_free_code (Ok u) = pos 0
slice_free_code (Err e) = slice_fault_code e
