-- The number of a kind, and the most steps of a call, as a caller in C gets them before the call. Each most is the bound that the contract of the call has
-- (`Calls`): the manager's own bound of a call that succeeds. A refused call takes at most as many.
use Rattle.std.specs.Prelude.{◌≡◌, ℕ, ◌≤◌, Option, Some, None, Ok, Err}
use Rattle.cf_base.specs.declared.results.AccessFault.{AccessFault}
use Rattle.cf_base.specs.declared.results.Handle.{Handle}
use Rattle.cf_base.specs.declared.results.NotLive.{NotLive}
use Rattle.cf_base.specs.declared.results.Refusal.{Refusal}
use Rattle.cf_base.specs.declared.results.ResizeFault.{ResizeFault}
use Rattle.cf_base.specs.declared.results.Totals.{Totals}
use Rattle.cf_base.specs.declared.kind.Kind.{Kind}
use Rattle.cf_base.specs.declared.kind.Kind.TheVariants.{Moving, NonMoving, Tlsf, HalfFit}
use Rattle.cf_model.specs.Bounds.{Bounds, ByOwn}
use Rattle.cf_model.specs.Costs.{length_steps}
use Rattle.paged_heap.specs.Most.{page_bounds}
use Rattle.tag_heap.specs.Costs.{block_bounds}

-- the bounds of the manager of each kind
abbrev pub bounds_of : Kind → Option Bounds
bounds_of Moving = Some (page_bounds Moving)
bounds_of NonMoving = Some (page_bounds NonMoving)
bounds_of Tlsf = Some block_bounds
bounds_of HalfFit = Some block_bounds

-- the number that a library has for the kind of its heaps
abbrev pub kind_code : Kind → ℕ
kind_code Moving = 0
kind_code NonMoving = 1
kind_code Tlsf = 2
kind_code HalfFit = 3

-- the most steps of a malloc
pub record IsMostMalloc (most : Option Bounds) (steps : ℕ) : Type 0 where
  pub done : ByOwn most (λ b. (h : Handle) → steps ≡ b.malloc (Ok h))
  pub refused : ByOwn most (λ b. (e : Refusal) → b.malloc (Err e) ≤ steps)

-- the most steps of a free of an object whose slot or block has `slot_words` words
pub record IsMostFree (most : Option Bounds) (slot_words steps : ℕ) : Type 0 where
  pub done : ByOwn most (λ b. (moved : Option Handle) → steps ≡ b.free (Ok (record { slot_words = slot_words; moved = moved })))
  pub refused : ByOwn most (λ b. (e : NotLive) → b.free (Err e) ≤ steps)

-- the most steps of a resize to `bytes` bytes, from a slot of `old` words to one of `new` words
pub record IsMostResize (most : Option Bounds) (bytes old new steps : ℕ) : Type 0 where
  pub done : ByOwn most (λ b. (moved : Option Handle) → steps ≡ b.resize bytes (Ok (record { old_slot_words = old; slot_words = new; moved = moved })))
  pub refused : ByOwn most (λ b. (e : ResizeFault) → b.resize bytes (Err e) ≤ steps)

-- the most steps of a read or a write of `count` bytes from byte `from` on; if it succeeds it takes just these
pub record IsMostAccess (most : Option Bounds) (from count steps : ℕ) : Type 0 where
  pub done : ByOwn most (λ b. (u : Unit {0}) → steps ≡ b.access from count (Ok u))
  pub refused : ByOwn most (λ b. (e : AccessFault) → b.access from count (Err e) ≤ steps)

-- the most steps of a call that asks whether a malloc would be refused
pub record IsMostRoom (most : Option Bounds) (steps : ℕ) : Type 0 where
  pub done : ByOwn most (λ b. (u : Unit {0}) → steps ≡ b.room (Ok u))
  pub refused : ByOwn most (λ b. (e : Refusal) → b.room (Err e) ≤ steps)

-- the most steps of a call for the figures of a heap with this many free pages or blocks
abbrev pub IsMostTotals : Option Bounds → ℕ → ℕ → Type 0
IsMostTotals most free steps = ByOwn most (λ b. (t : Totals) → t.free ≡ free → steps ≡ b.totals t)

-- the most steps of a call for the length of an object
pub record IsMostLength (kind : Kind) (steps : ℕ) : Type 0 where
  pub done : (bytes : ℕ) → steps ≡ length_steps kind (Some bytes)
  pub refused : length_steps kind None ≤ steps
