-- For proofs about `IsShared` and `AreQuotas`: both hold while no task has an object, with sixteen quotas of 0 pages; and quotas stay valid when one is set to
-- a number of pages that isn't refused. Also, the elements and the sum of a list of zeros.
use Rattle.std.proofs.Common.{◌≡◌, ℕ, zero, suc, Bool, true, false, cond, ◌<◌, ◌≤◌, List, Some, None, length, get_or, replicate, set, arith, ap, sym, ◌∙◌, refl}
use Rattle.std.proofs.Common.{inl, inr, subst}
use Rattle.std.specs.Prelude.{count_by, nat_eq, nat_lt, sum}
use Rattle.std.proofs.lemmas.Bool.{cases_eq, cases_lt, false≢true}
use Rattle.std.proofs.lemmas.List.{get_or-set_other, get_or-set_same, length-replicate, length-set}
use Rattle.std.proofs.lemmas.List.Sums.{sum_by-cons}
use Rattle.std.specs.Ordering.{nat_cmp}
use Rattle.std.specs.FinMap.{empty, get, get-empty}
use Rattle.cf_base.specs.Settings.{Profile}
use Rattle.cf_base.proofs.Maps.{equal_maps}
use Rattle.cf_base.proofs.Tests.{lt_yes}
use Rattle.cf_base.proofs.Values.{map_values-empty, no_values}
use Rattle.page_model.specs.Arrangement.{IsSound, live, pages_needed}
use Rattle.page_model.specs.Held.{Held, Placed, objects}
use Rattle.page_model.specs.Paging.{Paging, class_for}
use Rattle.page_model.proofs.CallerLemmas.{sound_empty}
use Rattle.quota_model.specs.Parts.{key_of, objects_of_task}
use Rattle.quota_model.specs.Refusals.{quota_refusal, task_paging}
use Rattle.quota_model.specs.Shared.{AreQuotas, IsShared}
use Rattle.quota_model.specs.declared.results.QuotaFault.TheVariants.{Sum, Used}
use Rattle.quota_model.proofs.Ceilings.{pages_of_none, pages_same}
use Rattle.quota_model.proofs.TaskParts.{get_part, get_part_past}

pub no_part : (task : ℕ) → objects_of_task empty task ≡ empty
no_part task = equal_maps _ _ (λ q. elim (cases_lt q 65536) [
  | inl lt ↦ get_part empty task q lt ∙ get-empty nat_cmp (key_of task q) ∙ sym (get-empty nat_cmp q)
  | inr le ↦ get_part_past empty task q le ∙ sym (get-empty nat_cmp q)
])

needed_none : (p : Paging) → pages_needed p (objects empty) ≡ 0
unfolding pages_needed live
needed_none p =
    pages_same p (live p (objects empty)) (λ c. 0) (λ c. ap (λ o. live p o c) (map_values-empty (λ (x : Placed). x.bytes))
    ∙ ap (count_by (λ v. nat_eq (class_for p (length v)) c)) no_values) ∙ pages_of_none p

pub zeros : (n i : ℕ) → get_or (replicate {A = ℕ} n 0) i 0 ≡ 0
zeros zero i = refl
zeros (suc n) zero = refl
zeros (suc n) (suc i) = zeros n i

pub sum_zeros_list : (n : ℕ) → sum (replicate {A = ℕ} n 0) ≡ 0
sum_zeros_list zero = refl
sum_zeros_list (suc n) = (let a = sum_by-cons (λ (k : ℕ). k) 0 (replicate {A = ℕ} n 0) in let rest = sum_zeros_list n in omega arith)

pub first_shared : (s : Profile) → IsShared s empty
first_shared s = record {
  tasks = λ key x f. absurd (let none : get (empty {R = nat_cmp}) key ≡ None = get-empty nat_cmp key in let e : Some x ≡ None = sym f ∙ none in cc);
  numbers = λ key x f. absurd (let none : get (empty {R = nat_cmp}) key ≡ None = get-empty nat_cmp key in let e : Some x ≡ None = sym f ∙ none in cc);
  sound = λ task. subst (IsSound (task_paging s)) (sym (no_part task)) (sound_empty (task_paging s));
  apart = λ key x other y f. absurd (let none : get (empty {R = nat_cmp}) key ≡ None = get-empty nat_cmp key in let e : Some x ≡ None = sym f ∙ none in cc);
}

pub first_quotas : (s : Profile) → AreQuotas s (replicate 16 0) empty
first_quotas s = record {
  many = length-replicate {A = ℕ} 16 0;
  all = (let a = sum_zeros_list 16 in omega arith);
  enough = λ task. (
      let a : pages_needed (task_paging s) (objects (objects_of_task empty task)) ≡ pages_needed (task_paging s) (objects empty) =
      ap (λ m. pages_needed (task_paging s) (objects m)) (no_part task) in
      let b = needed_none (task_paging s) in
      omega arith);
}

both_pass : (a b : Bool) → cond a (Some Sum) (cond b (Some Used) None) ≡ None → (a ≡ false) × (b ≡ false)
both_pass true b e = absurd (let e' : Some Sum ≡ None = e in cc)
both_pass false true e = absurd (let e' : Some Used ≡ None = e in cc)
both_pass false false e = (refl, refl)

pub granted_quotas : (s : Profile) (quotas : List ℕ) (m : Held) (task pages : ℕ) → task < 16 → AreQuotas s quotas m
    → quota_refusal s quotas task pages (objects (objects_of_task m task)) ≡ None → AreQuotas s (set quotas task pages) m
granted_quotas s quotas m task pages lt are granted =
    let both = both_pass (nat_lt s.pages (sum (set quotas task pages))) (nat_lt pages (pages_needed (task_paging s) (objects (objects_of_task m task)))) granted in
    record {
      many = length-set quotas task pages ∙ are.many;
      all = elim (cases_lt s.pages (sum (set quotas task pages))) [
        | inl more ↦ absurd (false≢true (sym both.0 ∙ lt_yes s.pages (sum (set quotas task pages)) more))
        | inr fine ↦ fine
      ];
      enough = λ other. elim (cases_eq other task) [
        | inl is ↦ (
            let many = are.many in
            let here : get_or (set quotas task pages) other 0 ≡ pages = ap (λ t. get_or (set quotas task pages) t 0) is
            ∙ get_or-set_same quotas task pages 0 (omega arith) in
            let e : pages_needed (task_paging s) (objects (objects_of_task m other)) ≡ pages_needed (task_paging s) (objects (objects_of_task m task)) =
            ap (λ t. pages_needed (task_paging s) (objects (objects_of_task m t))) is in
            let le : pages_needed (task_paging s) (objects (objects_of_task m task)) ≤ pages =
            elim (cases_lt pages (pages_needed (task_paging s) (objects (objects_of_task m task)))) [
              | inl more ↦ absurd (false≢true (sym both.1 ∙ lt_yes _ _ more))
              | inr fine ↦ fine
            ] in
            omega arith)
        | inr ne ↦ (
            let e = get_or-set_other quotas task other pages 0 ne in
            let le = are.enough other in
            omega arith)
      ];
    }
