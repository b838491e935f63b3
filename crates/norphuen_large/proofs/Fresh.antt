-- For `Held::open`: a heap that is opened has no objects, has counted 0 steps, and has its first handles (`IsFreshLargeHeap`).
use Rattle.std.proofs.Common.{◌≡◌, ℕ, List, refl, subst}
use Rattle.cf_base.specs.Settings.{profile_of}
use Rattle.cf_base.specs.declared.kind.Kind.{Kind}
use Rattle.cf_base.specs.declared.kind.Kind.TheVariants.{Moving}
use Rattle.cf_base.specs.declared.settings.Settings.{Settings}
use Rattle.cf_model.specs.Steps.{IsEmptyHeap}
use Rattle.large_objects.specs.Large.{KeepsParts, LargeState}
use Rattle.large_objects.specs.LargeSteps.{IsEmptyLarge}
use Rattle.c_base.specs.HandleRules.{AreFirstHandles}
use Rattle.norphuen_large.specs.Calls.{IsFreshLargeHeap}

pub fresh : (s : Settings) (last : ℕ) (handles : List ℕ) → AreFirstHandles s.proxies last handles → (old new : LargeState) → old.inner.kind ≡ Moving
    → IsEmptyLarge old s new → KeepsParts new → IsFreshLargeHeap (profile_of s) last (record { heap = new; steps = 0; handles = handles })
fresh s last handles first old new kind opened rules =
    let inner = subst (λ (k : Kind). IsEmptyHeap k s new.inner) kind opened.inner in record {
      open_now = opened.open_now;
      none = opened.none;
      words = inner.words;
      order = inner.order;
      whole = inner.whole;
      rules = rules;
      steps = refl;
      handles = first;
    }
