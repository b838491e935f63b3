-- For `first_of` and mode `run`, which uses the first manager of a kind in a list: which one that is, or that there is none, so that a closed one is used; and
-- that all managers keep their kinds and promises of an order if the one used does.
use Rattle.std.proofs.Common.{◌≡◌, ◌∙◌, ◌+◌, ◌<◌, ◌≤◌, ℕ, true, false, List, Option, Some, None, refl, sym, ap, length, get_or, set, map, arith, inl, inr, is_some}
use Rattle.std.proofs.lemmas.Bool.{cases_lt}
use Rattle.std.proofs.lemmas.List.{get_or-map, length-map}
use Rattle.std.proofs.lemmas.List.Quantifiers.{position-Some}
use Rattle.std.proofs.Math.Seq.{map-set_same}
use Rattle.cf_base.proofs.Positions.{position_is, position_none}
use Rattle.run_model.specs.Terms.{closed_state, HalfFit, HeapState, Kind, Moving, NonMoving, Tlsf}
use Rattle.cf_model.specs.Ordered.{KeepsPromise}
use Rattle.top_call.specs.FirstOfKind.{chosen_manager, first_of_kind, same_kind, with_chosen_manager}

pub are_same : (one other : Kind) → same_kind one other ≡ true → one ≡ other
are_same Moving Moving is = refl
are_same NonMoving NonMoving is = refl
are_same Tlsf Tlsf is = refl
are_same HalfFit HalfFit is = refl
are_same _ _ is = cc

-- A loop over managers, by their states.
module _ {X : Type 0} (f : X → HeapState) (kind : Kind) (xs : List X) where
  -- none below i is of the kind
  abbrev pub NoneBelow : ℕ → Type 0
  NoneBelow i = (k : ℕ) (d : HeapState) → k < i → same_kind (get_or (map f xs) k d).kind kind ≡ false

  seen_kind : (i : ℕ) (x : X) (d : HeapState) → i < length xs → x ≡ get_or xs i x → (get_or (map f xs) i d).kind ≡ (f x).kind
  seen_kind i x d lt is = ap (λ (h : HeapState). h.kind) (get_or-map f xs i x d lt ∙ sym (ap f is))

  pub none_more : (i : ℕ) (x : X) → i < length xs → x ≡ get_or xs i x → same_kind (f x).kind kind ≡ false → NoneBelow i → NoneBelow (i + 1)
  none_more i x lt is other none k d below = elim (cases_lt k i) [
    | inl before ↦ none k d before
    | inr from ↦ (
        let here : k ≡ i = omega (arith, below, from) in
        rw here (ap (λ l. same_kind l kind) (seen_kind i x d lt is) ∙ other))
  ]

  pub first_here : (i : ℕ) (x : X) → i < length xs → x ≡ get_or xs i x → same_kind (f x).kind kind ≡ true → NoneBelow i
      → first_of_kind kind (map f xs) ≡ Some i
  first_here i x lt is same none =
      position_is (λ h. same_kind h.kind kind) (map f xs) i (f x) (omega (arith, lt, length-map xs f)) (λ k below. none k (f x) below)
      (ap (λ l. same_kind l kind) (seen_kind i x (f x) lt is) ∙ same)

  pub none_there : (i : ℕ) → length xs ≤ i → NoneBelow i → first_of_kind kind (map f xs) ≡ None
  none_there i past none =
      position_none (λ h. same_kind h.kind kind) (map f xs) (closed_state kind)
      (λ k below. none k (closed_state kind) (omega (arith, below, past, length-map xs f)))

-- the first of the kind is one of them, and of the kind
pub first_within : (kind : Kind) (heaps : List HeapState) (i : ℕ) → first_of_kind kind heaps ≡ Some i → i < length heaps
first_within kind heaps i is = (position-Some (λ (h : HeapState). same_kind h.kind kind) heaps i (closed_state kind) is).0

first_kind : (kind : Kind) (heaps : List HeapState) (i : ℕ) → first_of_kind kind heaps ≡ Some i → (get_or heaps i (closed_state kind)).kind ≡ kind
first_kind kind heaps i is =
    are_same (get_or heaps i (closed_state kind)).kind kind (position-Some (λ (h : HeapState). same_kind h.kind kind) heaps i (closed_state kind) is).1

module _ (kind : Kind) (heaps : List HeapState) where
  abbrev chosen_at : Option ℕ → HeapState
  chosen_at first = elim first [ None ↦ closed_state kind | Some i ↦ get_or heaps i (closed_state kind) ]

  kind_at : (first : Option ℕ) → first_of_kind kind heaps ≡ first → (chosen_at first).kind ≡ kind
  kind_at None is = refl
  kind_at (Some i) is = first_kind kind heaps i is

  pub chosen_kind : (chosen_manager kind heaps).kind ≡ kind
  chosen_kind = kind_at (first_of_kind kind heaps) refl

  kinds_at : (new : HeapState) → new.kind ≡ kind → (first : Option ℕ) → first_of_kind kind heaps ≡ first
      → map (λ (h : HeapState). h.kind) (elim first [ None ↦ heaps | Some i ↦ set heaps i new ]) ≡ map (λ h. h.kind) heaps
  kinds_at new same None is = refl
  kinds_at new same (Some i) is =
      map-set_same (λ (h : HeapState). h.kind) heaps i new (closed_state kind) (same ∙ sym (first_kind kind heaps i is))

  -- the managers keep their kinds if the chosen one does
  pub chosen_kinds : (new : HeapState) → new.kind ≡ (chosen_manager kind heaps).kind → map (λ h. h.kind) (with_chosen_manager kind heaps new) ≡ map (λ h. h.kind) heaps
  chosen_kinds new same = kinds_at new (same ∙ chosen_kind) (first_of_kind kind heaps) refl

  orders_at : (new : HeapState) → (first : Option ℕ) → KeepsPromise (chosen_at first) new
      → map (λ (h : HeapState). is_some h.order) (elim first [ None ↦ heaps | Some i ↦ set heaps i new ]) ≡ map (λ h. is_some h.order) heaps
  orders_at new None same = refl
  orders_at new (Some i) same = map-set_same (λ (h : HeapState). is_some h.order) heaps i new (closed_state kind) same

  -- the managers keep their promises if the chosen one does
  pub chosen_orders : (new : HeapState) → KeepsPromise (chosen_manager kind heaps) new
      → map (λ h. is_some h.order) (with_chosen_manager kind heaps new) ≡ map (λ h. is_some h.order) heaps
  chosen_orders new same = orders_at new (first_of_kind kind heaps) same

  -- the first of the kind is chosen
  pub chosen_first : (i : ℕ) → first_of_kind kind heaps ≡ Some i → chosen_manager kind heaps ≡ get_or heaps i (closed_state kind)
  chosen_first i is = ap chosen_at is

  pub with_first : (i : ℕ) (new : HeapState) → first_of_kind kind heaps ≡ Some i → with_chosen_manager kind heaps new ≡ set heaps i new
  with_first i new is = ap (λ (first : Option ℕ). elim first [ None ↦ heaps | Some j ↦ set heaps j new ]) is

  -- if no manager is of the kind, the chosen one is closed
  pub chosen_none : first_of_kind kind heaps ≡ None → chosen_manager kind heaps ≡ closed_state kind
  chosen_none is = ap chosen_at is

  pub with_none : (new : HeapState) → first_of_kind kind heaps ≡ None → with_chosen_manager kind heaps new ≡ heaps
  with_none new is = ap (λ (first : Option ℕ). elim first [ None ↦ heaps | Some j ↦ set heaps j new ]) is
