use Rattle.std.proofs.Common.{◌≡◌, ℕ, Some, None, length, get_or, replicate, arith, sym, ◌∙◌, ap, inl, inr}
use Rattle.std.specs.Ordering.{nat_cmp}
use Rattle.std.specs.FinMap.{get, get-empty}
use Rattle.std.proofs.lemmas.Bool.{cases_lt}
use Rattle.std.proofs.lemmas.List.{get_or-replicate, get_or_past, length-replicate}
use Rattle.cf_base.proofs.Values.{map_values-empty}
use Rattle.page_model.specs.Held.{Placed}
use Rattle.page_model.proofs.CallerLemmas.{sound_empty}
use Rattle.slice_model.proofs.runs.an_empty_heap_is_consistent.Goals as goal

zero_at : (n w : ℕ) → get_or (replicate {A = ℕ} n 0) w 0 ≡ 0
zero_at n w = elim (cases_lt w n) [
  | inl lt ↦ get_or-replicate {A = ℕ} n w 0 0 lt
  | inr past ↦ (let len : length (replicate {A = ℕ} n 0) ≡ n = length-replicate {A = ℕ} n 0 in get_or_past {X = ℕ} (replicate n 0) w 0 (omega arith))
]

pub returns : goal.returns
returns c = λ plan n. record {
  kept = record { numbers = λ h x there. absurd (let e : Some x ≡ None = sym there ∙ get-empty nat_cmp h in cc); job = tt; sound = sound_empty plan.paging };
  words = record {
    held = λ h x there. absurd (let e : Some x ≡ None = sym there ∙ get-empty nat_cmp h in cc);
    done = λ k e. absurd (let e' : None ≡ Some k = e in cc);
    zeros = λ w _ _. zero_at n w;
  };
  bytes = λ h v there. absurd (let e : Some v ≡ None = sym there ∙ ap (λ o. get o h) (map_values-empty (λ (x : Placed). x.bytes)) ∙ get-empty nat_cmp h in cc);
}
