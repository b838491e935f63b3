-- Each call of the manager keeps the kind and the settings of its heap.
use Rattle.std.proofs.Common.{◌≡◌, ℕ, List, Option, Some, None, refl, ap}
use Rattle.std.specs.Prelude.{Result, Ok, Err}
use Rattle.cf_base.specs.Settings.{Profile}
use Rattle.cf_base.specs.declared.results.AccessFault.{AccessFault}
use Rattle.cf_base.specs.declared.results.Freed.{Freed}
use Rattle.cf_base.specs.declared.results.Handle.{Handle}
use Rattle.cf_base.specs.declared.results.NotLive.{NotLive}
use Rattle.cf_base.specs.declared.results.Refusal.{Refusal}
use Rattle.cf_base.specs.declared.results.Resized.{Resized}
use Rattle.cf_base.specs.declared.results.ResizeFault.{ResizeFault}
use Rattle.cf_base.specs.declared.kind.Kind.{Kind}
use Rattle.cf_base.specs.declared.kind.Kind.TheVariants.{Moving, NonMoving, Tlsf, HalfFit}
use Rattle.cf_model.specs.Answers.{with_bound}
use Rattle.cf_model.specs.State.{HeapState}
use Rattle.cf_model.specs.Steps.{IsFreeStep, IsLeftByRefusal, IsMallocStep, IsResizeStep, IsWriteStep, KeepsSettings, Position}
use Rattle.page_model.specs.Steps.{Request}

-- the kind and the settings
abbrev pub settings : HeapState → Kind × Profile
settings s = (s.kind, s.profile)

rest : (old new : HeapState) → KeepsSettings old new → settings new ≡ settings old
rest old new k = (λ i. (k.kind i, k.profile i))

left : (kind : Kind) (old new : HeapState) → IsLeftByRefusal kind old new → settings new ≡ settings old
left Moving old new is = ap settings is
left NonMoving old new is = ap settings is
left Tlsf old new is = ap settings is
left HalfFit old new is = ap settings is

pub malloc_settings : (old new : HeapState) (bytes : ℕ) (r : Result Handle Refusal) → IsMallocStep old bytes r new → settings new ≡ settings old
malloc_settings old new bytes (Ok h) step = ap settings step.whole
malloc_settings old new bytes (Err e) step = ap settings step.1

pub free_settings : (old new : HeapState) (number : ℕ) (r : Result Freed NotLive) → IsFreeStep old number r new → settings new ≡ settings old
free_settings old new number (Ok f) step = rest old new step.rest
free_settings old new number (Err e) step = ap settings step.1

pub resize_settings : (old new : HeapState) (asked : Request) (r : Result Resized ResizeFault) → IsResizeStep old asked r new → settings new ≡ settings old
resize_settings old new asked (Ok done) step = ap settings step.whole
resize_settings old new asked (Err e) step = left old.kind old new step.1

pub write_settings : (old new : HeapState) (position : Position) (bytes : List ℕ) (r : Result (Unit {0}) AccessFault) → IsWriteStep old position bytes r new
    → settings new ≡ settings old
write_settings old new position bytes (Ok u) step = ap settings step.whole
write_settings old new position bytes (Err e) step = ap settings step.1

pub bound_settings : (s : HeapState) (o : Option ℕ) (k : ℕ) → settings (with_bound s o k) ≡ settings s
bound_settings s None k = refl
bound_settings s (Some c) k = refl
