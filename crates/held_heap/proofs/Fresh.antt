-- For `Held::open`: a closed manager that is opened has no objects, uses its pages or blocks in the opening order, and has counted 0 steps; C's handles are
-- those of a new heap (`IsFreshHeap`).
use Rattle.std.proofs.Common.{◌≡◌, ap, refl}
use Rattle.std.specs.Prelude.{ℕ, List, IsSome}
use Rattle.cf_base.specs.Settings.{profile_of}
use Rattle.cf_base.specs.declared.settings.Settings.{Settings}
use Rattle.cf_model.specs.Ordered.{KeepsPromise}
use Rattle.cf_model.specs.Rules.{KeepsRules}
use Rattle.cf_model.specs.State.{HeapState}
use Rattle.cf_model.specs.Steps.{IsEmptyHeap}
use Rattle.cf_model.proofs.CallerLemmas.{opened_in_order}
use Rattle.held_heap.specs.Calls.{IsFreshHeap}
use Rattle.held_heap.specs.Counts.{free_left, opening_counts}
use Rattle.c_base.specs.HandleRules.{AreFirstHandles}

-- a manager that promises an order is opened with the settings s: it is fresh, with a count of 0 and these handles
pub fresh_from_closed : (s : Settings) (last : ℕ) (handles : List ℕ) (free : ℕ) → AreFirstHandles s.proxies last handles → (old new : HeapState) → IsSome old.order
    → IsEmptyHeap old.kind s new → KeepsPromise old new → KeepsRules new → free ≡ free_left new → IsFreshHeap old.kind (profile_of s) last (record { heap = new; steps = 0; handles = handles; counts = opening_counts free })
fresh_from_closed s last handles free first old new some opened promise rules is =
    record { words = opened.words; whole = opened_in_order s old new some opened promise; rules = rules; steps = refl; handles = first; counts = ap opening_counts is }
