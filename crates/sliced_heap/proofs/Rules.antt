-- For `is_open` and the clauses `rules`: a heap that is open and valid keeps the rules that callers see (`KeepsSlicedRules`).
use Rattle.std.proofs.Common.{◌≡◌, ℕ, List, Option, Some, None, refl, sym, ◌∙◌, subst}
use Rattle.std.specs.Prelude.{IsTrue, is_some, option_map}
use Rattle.std.proofs.lemmas.Bool.{false≢true}
use Rattle.std.specs.FinMap.{get}
use Rattle.cf_base.proofs.MapValues.{get-map_values}
use Rattle.page_model.specs.Bytes.{AreBytes}
use Rattle.page_model.specs.Held.{Held, Placed, objects}
use Rattle.sliced_heap.specs.Heap.{sliced_seen}
use Rattle.sliced_heap.specs.Layout.{IsValid, sliced_state_of}
use Rattle.sliced_heap.specs.Shown.{IsValidSlicedIn, KeepsSlicedRules, sliced_shown}
use Rattle.sliced_heap.specs.declared.open_heap.OpenHeap.{OpenHeap}
use Rattle.sliced_heap.proofs.Facts.{held_bytes, plan_ok}
use Rattle.sliced_heap.proofs.OrderFacts.{order_ok}

all_bytes : (m : Held) → ((q : ℕ) (x : Placed) → get m q ≡ Some x → AreBytes x.bytes) → (q : ℕ) (v : List ℕ) → get (objects m) q ≡ Some v → AreBytes v
all_bytes m each q v there = go (get m q) (each q) (sym (get-map_values (λ (x : Placed). x.bytes) m q) ∙ there)
  where
    go : (o : Option Placed) → ((x : Placed) → o ≡ Some x → AreBytes x.bytes) → option_map (λ (x : Placed). x.bytes) o ≡ Some v → AreBytes v
    go None each e = absurd (let z : None ≡ Some v = e in cc)
    go (Some x) each e = (let z : Some x.bytes ≡ Some v = e in let is : x.bytes ≡ v = cc in subst AreBytes is (each x refl))

pub keeps : (h : OpenHeap) → IsValid (sliced_seen h) → KeepsSlicedRules (sliced_shown (Some h))
keeps h k = record {
  plan = plan_ok (sliced_seen h) k;
  consistent = record { kept = k.kept; words = k.words; bytes = all_bytes (sliced_state_of (sliced_seen h)).held (held_bytes (sliced_seen h) k) };
  region = k.words_long;
  order = order_ok (sliced_seen h) k;
}

pub keeps_open : (o : Option OpenHeap) → IsValidSlicedIn o → IsTrue (is_some o) → KeepsSlicedRules (sliced_shown o)
keeps_open None k open_now = absurd (false≢true open_now)
keeps_open (Some h) k open_now = keeps h k
