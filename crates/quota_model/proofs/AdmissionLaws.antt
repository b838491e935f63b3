-- For `there_is_one_admission`: a quota is enough if and only if all declared objects need at most its pages; which declared malloc is refused first; and the
-- admission test has one result.
use Rattle.std.proofs.Common.{◌≡◌, ℕ, zero, suc, Bool, ◌-◌, ◌<◌, ◌≤◌, List, [], ◌∷◌, Option, Some, None, length, take}
use Rattle.std.proofs.Common.{arith, ap, sym, ◌∙◌, inl, inr, refl, subst}
use Rattle.std.specs.Prelude.{◌↔◌, count_by, nat_eq}
use Rattle.std.proofs.lemmas.Bool.{cases_lt}
use Rattle.std.proofs.Math.Seq.{take-length}
use Rattle.std.specs.Ordering.{nat_cmp}
use Rattle.std.specs.FinMap.{empty, get-empty, len-empty}
use Rattle.cf_base.proofs.Values.{no_values}
use Rattle.page_model.specs.Paging.{Paging, class_for}
use Rattle.quota_model.specs.Admission.{CanBeAsked, IsAdmission, IsEnough, Share, count_of_class, first_large, first_refused_for_space}
use Rattle.quota_model.specs.Admission.{in_order, live_of, mallocs, pages_needed_by}
use Rattle.quota_model.specs.Refusals.{task_paging}
use Rattle.quota_model.specs.declared.results.Admission.{Admission}
use Rattle.quota_model.specs.declared.results.Admission.TheVariants.{Yes, No, Size, Proxies}
use Rattle.quota_model.specs.declared.results.Need.{Need}
use Rattle.quota_model.proofs.Ceilings.{count-cons, pages_grow, pages_of_none}
use Rattle.quota_model.proofs.Declared.{all_fit, declared_is, length-in_order}
use Rattle.quota_model.proofs.EnoughPages.{is_enough}
use Rattle.quota_model.proofs.InOrder.{Agrees, IsInOrderAt, are_within, runs_short, shown}

count_takes : (f : ℕ → Bool) (ns : List ℕ) (i j : ℕ) → i ≤ j → count_by f (take i ns) ≤ count_by f (take j ns)
count_takes f ns zero j le = omega arith
count_takes f ns (suc i) zero le = absurd (omega arith)
count_takes f [] (suc i) (suc j) le = omega arith
count_takes f (n ∷ ns) (suc i) (suc j) le = (
    let a = count-cons f n (take i ns) in
    let b = count-cons f n (take j ns) in
    let c = count_takes f ns i j (omega arith) in
    omega arith)

-- longer prefixes need no fewer pages
pub takes_grow : (p : Paging) (ns : List ℕ) (i j : ℕ) → i ≤ j → pages_needed_by p (take i ns) ≤ pages_needed_by p (take j ns)
takes_grow p ns i j le = pages_grow p (count_of_class p (take i ns)) (count_of_class p (take j ns)) (λ c. count_takes (λ n. nat_eq (class_for p n) c) ns i j le)

pub takes_below : (p : Paging) (ns : List ℕ) (i : ℕ) → i ≤ length ns → pages_needed_by p (take i ns) ≤ pages_needed_by p ns
takes_below p ns i le = subst (λ xs. pages_needed_by p (take i ns) ≤ pages_needed_by p xs) (take-length ns) (takes_grow p ns i (length ns) le)

nothing_agrees : Agrees (empty {R = nat_cmp}) 0 []
nothing_agrees = record {
  fresh = λ h le. get-empty nat_cmp h;
  count = len-empty nat_cmp (List ℕ);
  counts = λ f. ap (count_by (λ (v : List ℕ). f (length v))) no_values;
}

module _ (t : Share) (needs : List Need) (asked : CanBeAsked t.profile needs) where
  whole_shown : IsInOrderAt (task_paging t.profile) t.quota [] (in_order needs) 0 (first_refused_for_space t empty 0 (in_order needs))
  whole_shown =
      let count = length-in_order needs in
      let few = asked.few in
      let none = pages_of_none (task_paging t.profile) in
      shown t (in_order needs) empty 0 [] (all_fit t.profile needs asked.none_large) (omega arith) nothing_agrees (omega arith)

  pub enough_iff : IsEnough t needs ↔ (pages_needed_by (task_paging t.profile) (in_order needs) ≤ t.quota)
  enough_iff = (λ enough. go enough (first_refused_for_space t empty 0 (in_order needs)) refl whole_shown, λ le. is_enough t needs le)
    where
      go : IsEnough t needs → (x : Option ℕ) → first_refused_for_space t empty 0 (in_order needs) ≡ x → IsInOrderAt (task_paging t.profile) t.quota [] (in_order needs) 0 x
          → pages_needed_by (task_paging t.profile) (in_order needs) ≤ t.quota
      go enough None e x = x
      go enough (Some nth) e x =
          let count = length-in_order needs in
          let few = asked.few in
          let within = are_within t needs (in_order needs) empty 0 (λ h le. get-empty nat_cmp h) (omega arith) (λ m. (
          let none : live_of empty m ≡ 0 = ap (count_by (λ v. nat_eq (length v) m)) no_values in
          let d = declared_is needs m in
          omega arith)) in
          absurd (enough (mallocs 0 (in_order needs)) within (runs_short t (in_order needs) empty 0 nth e))

  none_from : (x : Option ℕ) → IsInOrderAt (task_paging t.profile) t.quota [] (in_order needs) 0 x → pages_needed_by (task_paging t.profile) (in_order needs) ≤ t.quota
      → x ≡ None
  none_from None shown le = refl
  none_from (Some nth) shown le =
      let f = shown.2 in
      let w = f.within in
      let past : t.quota < pages_needed_by (task_paging t.profile) (take (suc shown.0) (in_order needs)) = f.past in
      let below = takes_below (task_paging t.profile) (in_order needs) (suc shown.0) (omega arith) in
      absurd (omega arith)

  pub none_iff : (first_refused_for_space t empty 0 (in_order needs) ≡ None) ↔ (pages_needed_by (task_paging t.profile) (in_order needs) ≤ t.quota)
  none_iff = (
    λ e. subst (λ (x : Option ℕ). IsInOrderAt (task_paging t.profile) t.quota [] (in_order needs) 0 x) e whole_shown,
    none_from (first_refused_for_space t empty 0 (in_order needs)) whole_shown,
  )

  -- malloc number `nth`, counted from 1, is the first with which the mallocs so far need more pages than the quota has
  abbrev pub IsFirst : ℕ → Type 0
  IsFirst nth = (1 ≤ nth) × (nth ≤ length (in_order needs)) × (pages_needed_by (task_paging t.profile) (take (nth - 1) (in_order needs)) ≤ t.quota)
      × (t.quota < pages_needed_by (task_paging t.profile) (take nth (in_order needs)))

  first_from : (nth : ℕ) → IsInOrderAt (task_paging t.profile) t.quota [] (in_order needs) 0 (Some nth) → IsFirst nth
  first_from nth shown =
      let is = shown.1 in
      let f = shown.2 in
      let w = f.within in
      let e : nth - 1 ≡ shown.0 = omega arith in
      let e' : nth ≡ suc shown.0 = omega arith in (
        omega arith,
        omega arith,
        subst (λ x. pages_needed_by (task_paging t.profile) (take x (in_order needs)) ≤ t.quota) (sym e) f.enough,
        subst (λ x. t.quota < pages_needed_by (task_paging t.profile) (take x (in_order needs))) (sym e') f.past,
      )

  some_from : (x : Option ℕ) → IsInOrderAt (task_paging t.profile) t.quota [] (in_order needs) 0 x → (nth : ℕ) → IsFirst nth → x ≡ Some nth
  some_from None shown nth first =
      let past = first.3 in
      let below = takes_below (task_paging t.profile) (in_order needs) nth first.1 in
      absurd (let le : pages_needed_by (task_paging t.profile) (in_order needs) ≤ t.quota = shown in omega arith)
  some_from (Some other) shown nth first =
      let f = first_from other shown in
      elim (cases_lt nth other) [
        | inl lt ↦ absurd (
            let a = takes_grow (task_paging t.profile) (in_order needs) nth (other - 1) (omega arith) in
            let b = first.3 in
            let c = f.2 in
            omega arith)
        | inr ge ↦ elim (cases_lt other nth) [
          | inl lt ↦ absurd (
              let a = takes_grow (task_paging t.profile) (in_order needs) other (nth - 1) (let x = first.0 in omega arith) in
              let b = f.3 in
              let c = first.2 in
              omega arith)
          | inr le ↦ (let is : other ≡ nth = omega arith in ap Some is)
        ]
      ]

  pub some_iff : (nth : ℕ) → (first_refused_for_space t empty 0 (in_order needs) ≡ Some nth) ↔ IsFirst nth
  some_iff nth = (
    λ e. first_from nth (subst (λ (x : Option ℕ). IsInOrderAt (task_paging t.profile) t.quota [] (in_order needs) 0 x) e whole_shown),
    λ first. some_from (first_refused_for_space t empty 0 (in_order needs)) whole_shown nth first,
  )

module _ (t : Share) (needs : List Need) where
  yes_or_no : (nth : ℕ) → CanBeAsked t.profile needs → IsEnough t needs → first_refused_for_space t empty 0 (in_order needs) ≡ Some nth → ⊥
  yes_or_no nth asked enough short =
      let le = (enough_iff t needs asked).0 enough in
      let none = (none_iff t needs asked).1 le in
      let e : None ≡ Some nth = sym none ∙ short in
      cc

  large_or_not : (entry : ℕ) {A : Type 0} → CanBeAsked t.profile needs → first_large t.profile needs ≡ Some entry → A
  large_or_not entry asked large = absurd (let none = asked.none_large in let e : None ≡ Some entry = sym none ∙ large in cc)

  pub one_answer : (a b : Admission) → IsAdmission t needs a → IsAdmission t needs b → a ≡ b
  one_answer Yes Yes x y = refl
  one_answer Yes (No nth) x y = absurd (yes_or_no nth x.0 x.1 y.1)
  one_answer Yes (Size entry) x y = large_or_not entry x.0 y
  one_answer Yes Proxies x y = absurd (let few = x.0 in let f = few.few in let m = y.1 in omega arith)
  one_answer (No nth) Yes x y = absurd (yes_or_no nth y.0 y.1 x.1)
  one_answer (No nth) (No other) x y = (let e : Some nth ≡ Some other = sym x.1 ∙ y.1 in let is : nth ≡ other = cc in ap No is)
  one_answer (No nth) (Size entry) x y = large_or_not entry x.0 y
  one_answer (No nth) Proxies x y = absurd (let few = x.0 in let f = few.few in let m = y.1 in omega arith)
  one_answer (Size entry) Yes x y = large_or_not entry y.0 x
  one_answer (Size entry) (No nth) x y = large_or_not entry y.0 x
  one_answer (Size entry) (Size other) x y = (let e : Some entry ≡ Some other = sym x ∙ y in let is : entry ≡ other = cc in ap Size is)
  one_answer (Size entry) Proxies x y = absurd (let e : Some entry ≡ None = sym x ∙ y.0 in cc)
  one_answer Proxies Yes x y = absurd (let few = y.0 in let f = few.few in let m = x.1 in omega arith)
  one_answer Proxies (No nth) x y = absurd (let few = y.0 in let f = few.few in let m = x.1 in omega arith)
  one_answer Proxies (Size entry) x y = absurd (let e : None ≡ Some entry = sym x.0 ∙ y in cc)
  one_answer Proxies Proxies x y = refl
