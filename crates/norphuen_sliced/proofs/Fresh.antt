-- For `Held::open`: a heap that is opened has no objects, uses all in the opening order, and has counted 0 steps (`IsFreshSlicedHeap`).
use Rattle.std.proofs.Common.{◌≡◌, refl}
use Rattle.std.specs.Prelude.{ℕ, List}
use Rattle.cf_base.specs.Settings.{profile_of}
use Rattle.cf_base.specs.declared.settings.Settings.{Settings}
use Rattle.sliced_heap.specs.Shown.{KeepsSlicedRules, SlicedState, opened_state}
use Rattle.c_base.specs.HandleRules.{AreFirstHandles}
use Rattle.norphuen_sliced.specs.Calls.{IsFreshSlicedHeap}

pub fresh : (s : Settings) (quantum last : ℕ) (handles : List ℕ) → AreFirstHandles s.proxies last handles → (new : SlicedState) → new ≡ opened_state s quantum
    → KeepsSlicedRules new → IsFreshSlicedHeap (profile_of s) quantum last (record { heap = new; steps = 0; handles = handles })
fresh s quantum last handles first new opened rules = record { heap = opened; rules = rules; steps = refl; handles = first }
