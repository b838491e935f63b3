-- For `least_quota`: what is said of the settings that the heap returns, of an admission or of the first need that is too large, is said of the profile that
-- contracts show; and if none is too large and the needs can't be asked, they are more objects than a task has proxies. Also: if the test whether there is a
-- value fails, there is none.
use Rattle.std.proofs.Common.{◌≡◌, ℕ, ◌<◌, List, None, refl, sym, ◌∙◌, subst, inl, inr}
use Rattle.std.specs.Prelude.{◌≤◌, Bool, IsSome, Option, Some, false, is_some, length}
use Rattle.std.proofs.lemmas.Bool.{cases_lt, false≢true}
use Rattle.cf_base.specs.Settings.{Profile}
use Rattle.quota_model.specs.Admission.{CanBeAsked, IsAdmission, IsEnough, declared_in_all, first_large}
use Rattle.quota_model.specs.declared.results.Admission.{Admission}
use Rattle.quota_model.specs.declared.results.Admission.TheVariants.{Yes}
use Rattle.quota_model.specs.declared.results.Need.{Need}
use Rattle.quota_heap.specs.State.{QuotaState}
use Rattle.norphuen_tasks.specs.Calls.{IsLeastQuota}

module _ (q : Profile) (s : QuotaState) (e : q ≡ s.profile) (needs : List Need) where
  pub right_at : (quota : ℕ) (a : Admission) → IsAdmission (record { profile = q; quota = quota }) needs a → IsAdmission (record { profile = s.profile; quota = quota }) needs a
  right_at quota a right = subst (λ (p : Profile). IsAdmission (record { profile = p; quota = quota }) needs a) e right

  pub least_at : length needs ≤ 64 → (quota : ℕ) → IsAdmission (record { profile = q; quota = quota }) needs Yes
      × ((less : ℕ) → less < quota → ¬ IsEnough (record { profile = q; quota = less }) needs) → IsLeastQuota s needs quota
  least_at few quota both = record {
    few = few;
    enough = right_at quota Yes both.0;
    least = subst (λ (p : Profile). (less : ℕ) → less < quota → ¬ IsEnough (record { profile = p; quota = less }) needs) e both.1;
  }

  pub large_at : IsSome (first_large q needs) → IsSome (first_large s.profile needs)
  large_at large = subst (λ (p : Profile). IsSome (first_large p needs)) e large

  pub none_at : first_large q needs ≡ None → first_large s.profile needs ≡ None
  none_at none = subst (λ (p : Profile). first_large p needs ≡ None) e none

  -- if no object is larger than a page and the needs can't be asked, they are more objects than there are proxies
  pub many_at : first_large q needs ≡ None → ¬ CanBeAsked q needs → s.profile.proxies < declared_in_all needs
  many_at none never = subst (λ (p : Profile). p.proxies < declared_in_all needs) e (elim (cases_lt q.proxies (declared_in_all needs)) [
    | inl lt ↦ lt
    | inr le ↦ absurd (never (record { none_large = none; few = le }))
  ])

-- if the test whether there is a value is false, there is none
pub not_some : {X : Type 0} (o : Option X) (b : Bool) → b ≡ is_some o → b ≡ false → o ≡ None
not_some None b is fails = refl
not_some (Some x) b is fails = absurd (false≢true (sym fails ∙ is))
