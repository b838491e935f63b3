-- For `AdmissionLaws`: of the declared mallocs, made in order, the first that is refused for space is the first with which the objects need more pages than the
-- quota has. These mallocs are within what is declared (`CallsAreWithin`).
use Rattle.std.proofs.Common.{◌≡◌, ◌≢◌, ℕ, suc, Bool, true, false, cond, ◌+◌, ◌<◌, ◌≤◌, List, [], ◌∷◌, ◌++◌, Option, Some, None, length, replicate, take}
use Rattle.std.proofs.Common.{arith, ap, sym, ◌∙◌, inl, inr, refl, subst}
use Rattle.std.specs.Prelude.{count_by, nat_eq, nat_lt, ◌⊎◌}
use Rattle.std.proofs.lemmas.Bool.{cases_lt}
use Rattle.std.proofs.lemmas.List.{append-nil, append_assoc, length-replicate}
use Rattle.std.specs.FinMap.{get, insert, len, values}
use Rattle.cf_base.specs.Classes.{need}
use Rattle.cf_base.specs.declared.results.Refusal.{Refusal}
use Rattle.cf_base.specs.declared.results.Refusal.TheVariants as refusal
use Rattle.cf_base.proofs.Maps.{get_insert_other, len_fresh}
use Rattle.cf_base.proofs.Ranges.{one}
use Rattle.cf_base.proofs.Sums.{sum_by-inserted}
use Rattle.cf_base.proofs.Tests.{eq_no, eq_yes, lt_no, lt_yes}
use Rattle.page_model.specs.Arrangement.{live, pages_needed_with}
use Rattle.page_model.specs.Held.{Objects}
use Rattle.page_model.specs.Paging.{Paging, class_for}
use Rattle.quota_model.specs.Admission.{CallsAreWithin, MeetsRefusalForSpace, Share, count_of_class, declared, first_refused_for_space, granted, is_short, live_of, mallocs}
use Rattle.quota_model.specs.Admission.{pages_needed_by}
use Rattle.quota_model.specs.Refusals.{malloc_refusal, task_paging}
use Rattle.quota_model.specs.declared.results.Need.{Need}
use Rattle.quota_model.proofs.Ceilings.{count-append, count-cons, pages_same}
use Rattle.quota_model.proofs.Contained.{times}
use Rattle.quota_model.proofs.Declared.{AllFit}
use Rattle.quota_model.proofs.EnoughPages.{live_of-inserted}

-- if objects of the lengths in `pre` and then in `rest` are made, length i of `rest` is the first with which they need more pages than the quota has
pub record FirstPast (p : Paging) (quota : ℕ) (pre rest : List ℕ) (i : ℕ) : Type 0 where
  pub within : i < length rest
  pub enough : pages_needed_by p (pre ++ take i rest) ≤ quota
  pub past : quota < pages_needed_by p (pre ++ take (suc i) rest)

-- what a result of `first_refused_for_space` means: None if `pre` and `rest` are within the quota; else the number of the first length of `rest` past the
-- quota, counted from k + 1 on
abbrev pub IsInOrderAt : Paging → ℕ → List ℕ → List ℕ → ℕ → Option ℕ → Type 0
IsInOrderAt p quota pre rest k None = pages_needed_by p (pre ++ rest) ≤ quota
IsInOrderAt p quota pre rest k (Some nth) = (i : ℕ) × (nth ≡ k + suc i) × FirstPast p quota pre rest i

lifted : (p : Paging) (quota : ℕ) (pre : List ℕ) (n : ℕ) (ns : List ℕ) (k : ℕ) (x : Option ℕ) → IsInOrderAt p quota (pre ++ n ∷ []) ns (k + 1) x
    → IsInOrderAt p quota pre (n ∷ ns) k x
lifted p quota pre n ns k None shown = subst (λ xs. pages_needed_by p xs ≤ quota) (append_assoc pre (n ∷ []) ns) shown
lifted p quota pre n ns k (Some nth) shown =
    let i : ℕ = shown.0 in
    let is = shown.1 in
    let f = shown.2 in
    let w = f.within in (
      suc shown.0,
      omega arith,
      record {
        within = omega arith;
        enough = subst (λ xs. pages_needed_by p xs ≤ quota) (append_assoc pre (n ∷ []) (take shown.0 ns)) f.enough;
        past = subst (λ xs. quota < pages_needed_by p xs) (append_assoc pre (n ∷ []) (take (suc shown.0) ns)) f.past;
      },
    )

-- There are k objects o, all with numbers below k, and as many of each length as `pre` has.
pub record Agrees (o : Objects) (k : ℕ) (pre : List ℕ) : Type 0 where
  pub fresh : (h : ℕ) → k ≤ h → get o h ≡ None
  pub count : len o ≡ k
  pub counts : (f : ℕ → Bool) → count_by (λ v. f (length v)) (values o) ≡ count_by f pre

agrees_more : (o : Objects) (k : ℕ) (pre : List ℕ) (n : ℕ) → Agrees o k pre → Agrees (insert o k (replicate n 0)) (k + 1) (pre ++ n ∷ [])
agrees_more o k pre n a =
    let none = a.fresh k (omega arith) in
    record {
      fresh = λ h le. get_insert_other o k (replicate n 0) h (omega arith) ∙ a.fresh h (omega arith);
      count = len_fresh o k (replicate n 0) none ∙ ap (λ x. x + 1) a.count;
      counts = λ f. (
          let i = sum_by-inserted (λ v. one (f (length v))) o k (replicate n 0) none in
          let e : one (f (length (replicate n 0))) ≡ one (f n) = ap (λ x. one (f x)) (length-replicate {A = ℕ} n 0) in
          let before = a.counts f in
          let j = count-append f pre (n ∷ []) in
          let l = count-cons f n [] in
          let z : count_by f [] ≡ 0 = refl in
          omega arith);
    }

module _ (t : Share) where
  needed_is : (o : Objects) (k : ℕ) (pre : List ℕ) (n : ℕ) → Agrees o k pre
      → pages_needed_with (task_paging t.profile) o n ≡ pages_needed_by (task_paging t.profile) (pre ++ n ∷ [])
  unfolding pages_needed_with live
  needed_is o k pre n a =
      pages_same (task_paging t.profile) (λ c. live (task_paging t.profile) o c + one (nat_eq (class_for (task_paging t.profile) n) c))
      (count_of_class (task_paging t.profile) (pre ++ n ∷ []))
      (λ c. (
      let f : ℕ → Bool = λ m. nat_eq (class_for (task_paging t.profile) m) c in
      let before = a.counts f in
      let j = count-append f pre (n ∷ []) in
      let l = count-cons f n [] in
      let z : count_by f [] ≡ 0 = refl in
      omega arith))

  refusal_is : (o : Objects) (k : ℕ) (pre : List ℕ) (n : ℕ) → Agrees o k pre → need n ≤ t.profile.page_words → k < t.profile.proxies
      → malloc_refusal t.profile t.quota o n ≡ cond (nat_lt t.quota (pages_needed_by (task_paging t.profile) (pre ++ n ∷ []))) (Some refusal.Space) None
  refusal_is o k pre n a fits few =
      let x = lt_no t.profile.page_words (need n) fits in
      let few' : len o ≢ t.profile.proxies = (let c = a.count in omega arith) in
      let y = eq_no (len o) t.profile.proxies few' in
      let z = needed_is o k pre n a in
      rw (x, y, z)

  pub shown : (rest : List ℕ) (o : Objects) (k : ℕ) (pre : List ℕ) → AllFit t.profile.page_words rest → k + length rest ≤ t.profile.proxies → Agrees o k pre
      → pages_needed_by (task_paging t.profile) pre ≤ t.quota → IsInOrderAt (task_paging t.profile) t.quota pre rest k (first_refused_for_space t o k rest)
  shown [] o k pre fit few a le = subst (λ xs. pages_needed_by (task_paging t.profile) xs ≤ t.quota) (sym (append-nil pre)) le
  shown (n ∷ ns) o k pre fit few a le =
      let r = refusal_is o k pre n a fit.0 (omega arith) in
      elim (cases_lt t.quota (pages_needed_by (task_paging t.profile) (pre ++ n ∷ []))) [
        | inl more ↦ (
            let e : malloc_refusal t.profile t.quota o n ≡ Some refusal.Space = r ∙ ap (λ b. cond b (Some refusal.Space) None) (lt_yes _ _ more) in
            subst (λ (x : Option Refusal). IsInOrderAt (task_paging t.profile) t.quota pre (n ∷ ns) k
            (cond (is_short x) (Some (k + 1)) (first_refused_for_space t (granted x o k n) (k + 1) ns))) (sym e) (
              0,
              omega arith,
              record {
                within = omega arith;
                enough = subst (λ xs. pages_needed_by (task_paging t.profile) xs ≤ t.quota) (sym (append-nil pre)) le;
                past = more;
              },
            ))
        | inr fine ↦ (
            let e : malloc_refusal t.profile t.quota o n ≡ None = r ∙ ap (λ b. cond b (Some refusal.Space) None) (lt_no _ _ fine) in
            subst (λ (x : Option Refusal). IsInOrderAt (task_paging t.profile) t.quota pre (n ∷ ns) k
            (cond (is_short x) (Some (k + 1)) (first_refused_for_space t (granted x o k n) (k + 1) ns))) (sym e)
            (lifted (task_paging t.profile) t.quota pre n ns k (first_refused_for_space t (insert o k (replicate n 0)) (k + 1) ns)
            (shown ns (insert o k (replicate n 0)) (k + 1) (pre ++ n ∷ []) fit.1 (omega arith) (agrees_more o k pre n a) fine)))
      ]

  -- mallocs of the lengths in `rest` are within the needs
  pub are_within : (needs : List Need) (rest : List ℕ) (o : Objects) (k : ℕ) → ((h : ℕ) → k ≤ h → get o h ≡ None) → k + length rest ≤ t.profile.proxies
      → ((m : ℕ) → live_of o m + times m rest ≤ declared needs m) → CallsAreWithin t needs o (mallocs k rest)
  are_within needs [] o k fresh few le = tt
  are_within needs (n ∷ ns) o k fresh few le =
      let none = fresh k (omega arith) in
      let some = le n in
      let here = count-cons (λ m. nat_eq m n) n ns in
      let yes : one (nat_eq n n) ≡ 1 = (let y : nat_eq n n ≡ true = eq_yes n n refl in rw y) in (
        (none, omega arith, omega arith),
        elim (malloc_refusal t.profile t.quota o n) as (λ (r : Option Refusal). CallsAreWithin t needs (granted r o k n) (mallocs (k + 1) ns)) [
          | Some e ↦ are_within needs ns o (k + 1) (λ h l. fresh h (omega arith)) (omega arith)
              (λ m. (let a = le m in let b = count-cons (λ q. nat_eq q m) n ns in omega arith))
          | None ↦ are_within needs ns (insert o k (replicate n 0)) (k + 1)
              (λ h l. get_insert_other o k (replicate n 0) h (omega arith) ∙ fresh h (omega arith)) (omega arith)
              (λ m. (let a = le m in let b = count-cons (λ q. nat_eq q m) n ns in let c = live_of-inserted o k n m none in omega arith))
        ],
      )

  short_or_not : (r : Option Refusal) → (is_short r ≡ false) ⊎ (r ≡ Some refusal.Space)
  short_or_not None = inl refl
  short_or_not (Some refusal.Size) = inl refl
  short_or_not (Some refusal.Proxy) = inl refl
  short_or_not (Some refusal.Space) = inr refl

  -- if `first_refused_for_space` finds a malloc, one of the mallocs is refused for space (`MeetsRefusalForSpace`)
  pub runs_short : (rest : List ℕ) (o : Objects) (k nth : ℕ) → first_refused_for_space t o k rest ≡ Some nth → MeetsRefusalForSpace t o (mallocs k rest)
  runs_short [] o k nth e = absurd (let e' : None ≡ Some nth = e in cc)
  runs_short (n ∷ ns) o k nth e = elim (short_or_not (malloc_refusal t.profile t.quota o n)) [
    | inl granted' ↦ inr (runs_short ns (granted (malloc_refusal t.profile t.quota o n) o k n) (k + 1) nth (sym
        (ap (λ b. cond b (Some (k + 1)) (first_refused_for_space t (granted (malloc_refusal t.profile t.quota o n) o k n) (k + 1) ns)) granted') ∙ e))
    | inr short ↦ inl short
  ]
