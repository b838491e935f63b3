-- For proofs about admission: if the declared objects together need at most the quota's pages, no malloc within the declared numbers is refused for space,
-- whatever was allocated and freed before. Also, counts over a mapped list, and the live objects of a length when one is added.
use Rattle.std.proofs.Common.{◌≡◌, ℕ, Bool, true, false, cond, ◌+◌, ◌<◌, ◌≤◌, List, [], ◌∷◌, Option, Some, None, length, map, replicate}
use Rattle.std.proofs.Common.{arith, ap, sym, ◌∙◌, inl, inr, refl}
use Rattle.std.specs.Prelude.{IsSome, count_by, nat_eq, nat_lt}
use Rattle.std.proofs.lemmas.Bool.{cases_eq, cases_lt, false≢true}
use Rattle.std.proofs.lemmas.List.{length-map, length-replicate}
use Rattle.std.specs.FinMap.{empty, entries, get, insert, len, len-entries, remove, values}
use Rattle.cf_base.specs.Classes.{need}
use Rattle.cf_base.specs.declared.results.Refusal.{Refusal}
use Rattle.cf_base.specs.declared.results.Refusal.TheVariants as refusal
use Rattle.cf_base.proofs.Ranges.{one}
use Rattle.cf_base.proofs.Sums.{sum_by-inserted, sum_by-removed}
use Rattle.cf_base.proofs.Tests.{eq_yes, eq_no, lt_no, lt_yes}
use Rattle.cf_base.proofs.Values.{no_values}
use Rattle.page_model.specs.Arrangement.{live, pages_needed_with}
use Rattle.page_model.specs.Held.{Objects}
use Rattle.page_model.specs.Paging.{class_for}
use Rattle.quota_model.specs.Admission.{CallsAreWithin, Call, CanBeAsked, IsEnough, IsRefusedForSpace, IsWithin, MeetsRefusalForSpace, Share, objects_left, asks, count_of_class, declared, frees, granted}
use Rattle.quota_model.specs.Admission.{in_order, live_of, pages_needed_by}
use Rattle.quota_model.specs.Refusals.{malloc_refusal, task_paging}
use Rattle.quota_model.specs.declared.results.Need.{Need}
use Rattle.quota_model.proofs.Ceilings.{count-cons, pages_grow}
use Rattle.quota_model.proofs.Contained.{contained, times}
use Rattle.quota_model.proofs.Declared.{AllFit, all_fit, declared_is, length-in_order}

pick_space : (a b c : Bool) → cond a (Some refusal.Size) (cond b (Some refusal.Proxy) (cond c (Some refusal.Space) None)) ≡ Some refusal.Space → c ≡ true
pick_space true b c e = absurd (let e' : Some refusal.Size ≡ Some refusal.Space = e in cc)
pick_space false true c e = absurd (let e' : Some refusal.Proxy ≡ Some refusal.Space = e in cc)
pick_space false false true e = refl
pick_space false false false e = absurd (let e' : None ≡ Some refusal.Space = e in cc)

pub count-map : {X : Type 0} (g : X → ℕ) (f : ℕ → Bool) (xs : List X) → count_by f (map g xs) ≡ count_by (λ x. f (g x)) xs
count-map g f [] = refl
count-map g f (x ∷ xs) = (let a = count-cons f (g x) (map g xs) in let b = count-cons (λ y. f (g y)) x xs in let c = count-map g f xs in omega arith)

none_large : (P : ℕ) (ns : List ℕ) → AllFit P ns → count_by (λ n. nat_lt P (need n)) ns ≡ 0
none_large P [] fit = refl
none_large P (n ∷ ns) fit =
    let a = count-cons (λ n. nat_lt P (need n)) n ns in
    let b : one (nat_lt P (need n)) ≡ 0 = (let e = lt_no P (need n) fit.0 in rw e) in
    let c = none_large P ns fit.1 in
    omega arith

all_counted : (ns : List ℕ) → count_by (λ n. true) ns ≡ length ns
all_counted [] = refl
all_counted (n ∷ ns) = (let a = count-cons (λ m. true) n ns in let b = all_counted ns in omega arith)

-- the lengths of the objects
abbrev lengths : Objects → List ℕ
lengths o = map length (values o)

-- an object that is added counts among those of its length
pub live_of-inserted : (o : Objects) (h n m : ℕ) → get o h ≡ None → live_of (insert o h (replicate n 0)) m ≡ live_of o m + one (nat_eq n m)
live_of-inserted o h n m none =
    let a = sum_by-inserted (λ v. one (nat_eq (length v) m)) o h (replicate n 0) none in
    let b : one (nat_eq (length (replicate {A = ℕ} n 0)) m) ≡ one (nat_eq n m) = ap (λ k. one (nat_eq k m)) (length-replicate {A = ℕ} n 0) in
    omega arith

module _ (t : Share) (needs : List Need) where
  -- of each length at most the declared number of objects are live
  abbrev IsBounded : Objects → Type 0
  IsBounded o = (n : ℕ) → live_of o n ≤ declared needs n

  short_passes : (o : Objects) (n : ℕ) → malloc_refusal t.profile t.quota o n ≡ Some refusal.Space → t.quota < pages_needed_with (task_paging t.profile) o n
  short_passes o n e =
      let yes = pick_space _ _ (nat_lt t.quota (pages_needed_with (task_paging t.profile) o n)) e in
      elim (cases_lt t.quota (pages_needed_with (task_paging t.profile) o n)) [
        | inl lt ↦ lt
        | inr le ↦ absurd (let no = lt_no t.quota (pages_needed_with (task_paging t.profile) o n) le in false≢true (sym no ∙ yes))
      ]

  with_one : (o : Objects) (n : ℕ) → IsBounded o → live_of o n + 1 ≤ declared needs n → (k : ℕ) → times k (n ∷ lengths o) ≤ times k (in_order needs)
  with_one o n bounded within k =
      let a = count-cons (λ m. nat_eq m k) n (lengths o) in
      let b = count-map length (λ m. nat_eq m k) (values o) in
      let d = declared_is needs k in
      let here = bounded k in
      elim (cases_eq n k) [
        | inl is ↦ (
            let e : one (nat_eq n k) ≡ 1 = (let y = eq_yes n k is in rw y) in
            let w : live_of o k + 1 ≤ declared needs k = rw is at within in
            omega arith)
        | inr ne ↦ (let e : one (nat_eq n k) ≡ 0 = (let y = eq_no n k ne in rw y) in omega arith)
      ]

  needed_within : (o : Objects) (n : ℕ) → IsBounded o → live_of o n + 1 ≤ declared needs n
      → pages_needed_with (task_paging t.profile) o n ≤ pages_needed_by (task_paging t.profile) (in_order needs)
  unfolding pages_needed_with live
  needed_within o n bounded within =
      pages_grow (task_paging t.profile) (λ c. live (task_paging t.profile) o c + one (nat_eq (class_for (task_paging t.profile) n) c))
      (count_of_class (task_paging t.profile) (in_order needs))
      (λ c. (
      let f : ℕ → Bool = λ m. nat_eq (class_for (task_paging t.profile) m) c in
      let a = contained (n ∷ lengths o) (in_order needs) (with_one o n bounded within) f in
      let b = count-cons f n (lengths o) in
      let d = count-map length f (values o) in
      omega arith))

  -- a malloc of a declared object is not refused
  pub granted_within : CanBeAsked t.profile needs → pages_needed_by (task_paging t.profile) (in_order needs) ≤ t.quota → (o : Objects) (n : ℕ) → IsBounded o
      → live_of o n + 1 ≤ declared needs n → malloc_refusal t.profile t.quota o n ≡ None
  granted_within asked enough o n bounded within =
      let most = contained (n ∷ lengths o) (in_order needs) (with_one o n bounded within) in
      let few = asked.few in
      let large : ℕ → Bool = λ m. nat_lt t.profile.page_words (need m) in
      let fits : need n ≤ t.profile.page_words = elim (cases_lt t.profile.page_words (need n)) [
        | inl more ↦ absurd (
            let a = most large in
            let b = count-cons large n (lengths o) in
            let d : one (large n) ≡ 1 = (let y = lt_yes t.profile.page_words (need n) more in rw y) in
            let e = none_large t.profile.page_words (in_order needs) (all_fit t.profile needs asked.none_large) in
            omega arith)
        | inr le ↦ le
      ] in
      let some : len o < t.profile.proxies = (
      let a = most (λ m. true) in
      let b = all_counted (n ∷ lengths o) in
      let d = all_counted (in_order needs) in
      let e = length-in_order needs in
      let g : length (lengths o) ≡ len o = length-map (values o) length ∙ length-map (entries o) (λ x. x.1) ∙ sym (len-entries o) in
      omega arith) in
      let space = needed_within o n bounded within in
      let size : nat_lt t.profile.page_words (need n) ≡ false = lt_no _ _ fits in
      let proxy : nat_eq (len o) t.profile.proxies ≡ false = eq_no _ _ (λ e. omega arith) in
      let pages : nat_lt t.quota (pages_needed_with (task_paging t.profile) o n) ≡ false = lt_no _ _ (omega arith) in
      λ i. cond (size i) (Some refusal.Size) (cond (proxy i) (Some refusal.Proxy) (cond (pages i) (Some refusal.Space) None))

  module _ (enough : pages_needed_by (task_paging t.profile) (in_order needs) ≤ t.quota) where
    not_short : (o : Objects) → IsBounded o → (call : Call) → IsWithin t needs o call → ¬ IsRefusedForSpace t o call
    not_short o bounded (asks h n) w e = (let a = short_passes o n e in let b = needed_within o n bounded w.2 in omega arith)
    not_short o bounded (frees h) w e = e

    granted_bounded : (o : Objects) → IsBounded o → (h n : ℕ) → get o h ≡ None → live_of o n + 1 ≤ declared needs n → (r : Option Refusal)
        → IsBounded (granted r o h n)
    granted_bounded o bounded h n none within (Some e) = bounded
    granted_bounded o bounded h n none within None = λ m. (
        let a = live_of-inserted o h n m none in
        let here = bounded m in
        elim (cases_eq n m) [
          | inl is ↦ (
              let e : one (nat_eq n m) ≡ 1 = (let y = eq_yes n m is in rw y) in
              let w : live_of o m + 1 ≤ declared needs m = rw is at within in
              omega arith)
          | inr ne ↦ (let e : one (nat_eq n m) ≡ 0 = (let y = eq_no n m ne in rw y) in omega arith)
        ])

    removed_bounded : (o : Objects) → IsBounded o → (h : ℕ) (r : Option (List ℕ)) → get o h ≡ r → IsSome r → IsBounded (remove o h)
    removed_bounded o bounded h None is some = absurd (false≢true some)
    removed_bounded o bounded h (Some v) is some = λ m. (
        let a = sum_by-removed (λ v. one (nat_eq (length v) m)) o h v is in
        let here = bounded m in
        omega arith)

    stays_bounded : (o : Objects) → IsBounded o → (call : Call) → IsWithin t needs o call → IsBounded (objects_left t o call)
    stays_bounded o bounded (asks h n) w = granted_bounded o bounded h n w.0 w.2 (malloc_refusal t.profile t.quota o n)
    stays_bounded o bounded (frees h) w = removed_bounded o bounded h (get o h) refl w

    never_short : (calls : List Call) (o : Objects) → IsBounded o → CallsAreWithin t needs o calls → ¬ MeetsRefusalForSpace t o calls
    never_short [] o bounded w e = e
    never_short (call ∷ rest) o bounded w e = elim e [
      | inl now ↦ not_short o bounded call w.0 now
      | inr later ↦ never_short rest (objects_left t o call) (stays_bounded o bounded call w.0) w.1 later
    ]

    pub is_enough : IsEnough t needs
    is_enough calls w = never_short calls empty (λ n. (
        let none : live_of empty n ≡ 0 = ap (count_by (λ v. nat_eq (length v) n)) no_values in
        omega arith)) w
