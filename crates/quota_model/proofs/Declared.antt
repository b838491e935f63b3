-- For proofs about admission: the list of the declared mallocs in order has each length as often as the entries declare it; if no entry is too large, each of
-- these objects fits a page. Also, if `position` finds no element that passes a test, none passes it.
use Rattle.std.proofs.Common.{◌≡◌, ℕ, zero, suc, Bool, true, false, cond, ◌*◌, ◌<◌, ◌≤◌, List, [], ◌∷◌, ◌++◌, Some, None, length, get_or, replicate}
use Rattle.std.proofs.Common.{arith, ap, sym, ◌∙◌, inl, inr, refl}
use Rattle.std.specs.Prelude.{⊤, count_by, nat_eq, nat_lt, position, sum_by}
use Rattle.std.proofs.lemmas.Bool.{cases_lt, false≢true}
use Rattle.std.specs.List.{position_or_len}
use Rattle.std.proofs.lemmas.List.Sums.{sum_by-cons, fails_before_first}
use Rattle.std.proofs.lemmas.List.Folds.{sum_by-replicate}
use Rattle.std.proofs.lemmas.List.{length-append, length-replicate}
use Rattle.cf_base.specs.Classes.{need}
use Rattle.cf_base.specs.Settings.{Profile}
use Rattle.cf_base.proofs.Tests.{lt_yes}
use Rattle.quota_model.specs.Admission.{declared, declared_in_all, first_large, in_order}
use Rattle.quota_model.specs.declared.results.Need.{Need}
use Rattle.quota_model.proofs.Ceilings.{count-append}
use Rattle.quota_model.proofs.Contained.{times}

times_cond : (b : Bool) (k : ℕ) → k * cond b 1 0 ≡ cond b k 0
times_cond true k = omega arith
times_cond false k = omega arith

-- the declared mallocs whose length passes a test are those of the entries whose length does
pub counted_by : (f : ℕ → Bool) (needs : List Need) → count_by f (in_order needs) ≡ sum_by (λ (e : Need). cond (f e.bytes) e.count 0) needs
counted_by f [] = refl
counted_by f (e ∷ es) =
    let a = sum_by-cons (λ (d : Need). cond (f d.bytes) d.count 0) e es in
    let b = count-append f (replicate e.count e.bytes) (in_order es) in
    let c = sum_by-replicate (λ m. cond (f m) 1 0) e.count e.bytes in
    let d = times_cond (f e.bytes) e.count in
    let rest = counted_by f es in
    omega arith

-- a length occurs in the list of declared mallocs as often as the entries declare it
pub declared_is : (needs : List Need) (n : ℕ) → declared needs n ≡ times n (in_order needs)
declared_is needs n = sym (counted_by (λ m. nat_eq m n) needs)

pub length-in_order : (needs : List Need) → length (in_order needs) ≡ declared_in_all needs
length-in_order [] = refl
length-in_order (e ∷ es) =
    let a = sum_by-cons (λ (d : Need). d.count) e es in
    let b = length-append (replicate e.count e.bytes) (in_order es) in
    let c = length-replicate {A = ℕ} e.count e.bytes in
    let rest = length-in_order es in
    omega arith

-- an object of each of these lengths fits a page of P words
abbrev pub AllFit : ℕ → List ℕ → Type 0
AllFit P [] = ⊤
AllFit P (n ∷ ns) = (need n ≤ P) × AllFit P ns

fit_again : (P k n : ℕ) (ns : List ℕ) → need n ≤ P → AllFit P ns → AllFit P (replicate k n ++ ns)
fit_again P zero n ns le rest = rest
fit_again P (suc k) n ns le rest = (le, fit_again P k n ns le rest)

-- if `position` finds no element that passes f, f is false for each
pub all_fail : {X : Type 0} (f : X → Bool) (xs : List X) → position f xs ≡ None → (i : ℕ) (d : X) → i < length xs → f (get_or xs i d) ≡ false
all_fail f xs none i d lt = elim (cases_lt (position_or_len f xs) (length xs)) [
  | inl found ↦ absurd (
      let e : nat_lt (position_or_len f xs) (length xs) ≡ true = lt_yes (position_or_len f xs) (length xs) found in
      let g : Some (position_or_len f xs) ≡ None = sym (ap (λ b. cond b (Some (position_or_len f xs)) None) e) ∙ none in
      cc)
  | inr past ↦ fails_before_first f xs i d (omega arith)
]

fit_by_index : (P : ℕ) (d : Need) (needs : List Need) → ((i : ℕ) → i < length needs → nat_lt P (need (get_or needs i d).bytes) ≡ false)
    → AllFit P (in_order needs)
fit_by_index P d [] each = tt
fit_by_index P d (e ∷ es) each =
    fit_again P e.count e.bytes (in_order es) (elim (cases_lt P (need e.bytes)) [
      | inl more ↦ absurd (let no : nat_lt P (need e.bytes) ≡ false = each 0 (omega arith) in false≢true (sym no ∙ lt_yes P (need e.bytes) more))
      | inr le ↦ le
    ])
    (fit_by_index P d es (λ i lt. each (suc i) (omega arith)))

pub all_fit : (s : Profile) (needs : List Need) → first_large s needs ≡ None → AllFit s.page_words (in_order needs)
all_fit s [] none = tt
all_fit s (e ∷ es) none = fit_by_index s.page_words e (e ∷ es) (λ i lt. all_fail (λ (d : Need). nat_lt s.page_words (need d.bytes)) (e ∷ es) none i e lt)
