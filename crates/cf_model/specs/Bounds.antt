-- The steps that a manager may claim for a malloc, free, resize, read, write, `has_room` and `totals` (`Bounds`).
use Rattle.std.specs.Prelude.{ℕ, ⊤, Option, Some, None, Result}
use Rattle.cf_base.specs.declared.results.Handle.{Handle}
use Rattle.cf_base.specs.declared.results.Freed.{Freed}
use Rattle.cf_base.specs.declared.results.NotLive.{NotLive}
use Rattle.cf_base.specs.declared.results.Refusal.{Refusal}
use Rattle.cf_base.specs.declared.results.AccessFault.{AccessFault}
use Rattle.cf_base.specs.declared.results.Resized.{Resized}
use Rattle.cf_base.specs.declared.results.ResizeFault.{ResizeFault}
use Rattle.cf_base.specs.declared.results.Totals.{Totals}
use Rattle.cf_model.specs.State.{HeapState}

-- For each of these calls its most steps, as a function of its result; `access` is a read or a write, `room` is `has_room`. A resize has its new length in bytes as
-- another argument; an access has two, the first byte and the count of bytes. The numbers of an access are exact. So are `room_exact`, by the heap, the bytes
-- asked for and the result, and `totals_exact`, by the heap.
pub record Bounds : Type 0 where
  pub malloc : Result Handle Refusal → ℕ
  pub free : Result Freed NotLive → ℕ
  pub resize : ℕ → Result Resized ResizeFault → ℕ
  pub access : ℕ → ℕ → Result (Unit {0}) AccessFault → ℕ
  pub room : Result (Unit {0}) Refusal → ℕ
  pub room_exact : HeapState → ℕ → Result (Unit {0}) Refusal → ℕ
  pub totals : Totals → ℕ
  pub totals_exact : HeapState → ℕ

-- the claim p holds of the manager's own bounds, if it has any
abbrev pub ByOwn : Option Bounds → (Bounds → Type 0) → Type 0
ByOwn None p = ⊤
ByOwn (Some most) p = p most
