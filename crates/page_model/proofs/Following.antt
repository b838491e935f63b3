-- For the law `an_order_leaves_no_choice`: two mallocs of one length, or two frees of one object, that follow the same order take the same slot or move the
-- same object, and leave the same order.
use Rattle.std.proofs.Common.{◌≡◌, ℕ, List, [], ◌∷◌, Option, Some, None, arith, refl, sym, ◌∙◌, ap, subst, inl, inr}
use Rattle.std.specs.FinMap.{get}
use Rattle.std.proofs.lemmas.Bool.{cases_eq, cases_lt}
use Rattle.cf_base.proofs.Maps.{found_once}
use Rattle.page_model.specs.Held.{Held, Placed}
use Rattle.page_model.specs.Paging.{Paging, class_for, page_of, address_of}
use Rattle.page_model.specs.Arrangement.{IsSound, class_at}
use Rattle.page_model.specs.Order.{Order, FreeFollows, IsLeastFree, IsLeastTaken, IsNextToMove, MallocFollows, SlotFollows, TakesNext}
use Rattle.page_model.specs.Order.{not_full_in, slot_freed}
use Rattle.page_model.specs.Steps.{CallResult, Moves, RemovesObject, Request, without}

same_front : (xs : List ℕ) (x y : ℕ) (rest more : List ℕ) → xs ≡ x ∷ rest → xs ≡ y ∷ more → (x ≡ y) × (rest ≡ more)
same_front xs x y rest more a b = (let e : x ∷ rest ≡ y ∷ more = sym a ∙ b in (cc, cc))

not_both_fronts : (xs : List ℕ) (x : ℕ) (rest : List ℕ) → xs ≡ [] → xs ≡ x ∷ rest → ⊥
not_both_fronts xs x rest none some = (let e : [] ≡ x ∷ rest = sym none ∙ some in cc)

module _ (p : Paging) (m : Held) where
  -- a page has one lowest free slot
  least_free_once : (c page slot other : ℕ) → IsLeastFree p m c page slot → IsLeastFree p m c page other → slot ≡ other
  least_free_once c page slot other a b = elim (cases_lt slot other) [
    | inl lt ↦ absurd (a.free (b.least slot lt))
    | inr ge ↦ elim (cases_lt other slot) [
      | inl lt ↦ absurd (b.free (a.least other lt))
      | inr le ↦ omega arith
    ]
  ]

  -- and one lowest taken slot
  least_taken_once : (c page slot other : ℕ) → IsLeastTaken p m c page slot → IsLeastTaken p m c page other → slot ≡ other
  least_taken_once c page slot other a b = elim (cases_lt slot other) [
    | inl lt ↦ absurd (b.least slot lt a.taken)
    | inr ge ↦ elim (cases_lt other slot) [
      | inl lt ↦ absurd (a.least other lt b.taken)
      | inr le ↦ omega arith
    ]
  ]

  -- there is one next slot, and one order after it is taken
  pub next_once : (c a b : ℕ) (old new next : Order) → TakesNext p m old c a new → TakesNext p m old c b next → (a ≡ b) × (new ≡ next)
  next_once c a b old new next (inl s) (inl t) =
      let (page, rest) = same_front (not_full_in old c) s.page t.page s.rest t.rest s.front t.front in
      let slot = least_free_once c s.page s.slot t.slot s.least (subst (λ g. IsLeastFree p m c g t.slot) (sym page) t.least) in
      let address : a ≡ b = s.address ∙ ap (λ g. address_of p c g s.slot) page ∙ ap (address_of p c t.page) slot ∙ sym t.address in
      let sl = s.left in let tl = t.left in
      (address, cc)
  next_once c a b old new next (inr s) (inr t) =
      let (page, rest) = same_front old.pool s.page t.page s.rest t.rest s.front t.front in
      let address : a ≡ b = s.address ∙ ap (λ g. address_of p c g 0) page ∙ sym t.address in
      let sl = s.left in let tl = t.left in
      (address, cc)
  next_once c a b old new next (inl s) (inr t) = absurd (not_both_fronts (not_full_in old c) s.page s.rest t.none s.front)
  next_once c a b old new next (inr s) (inl t) = absurd (not_both_fronts (not_full_in old c) t.page t.rest s.none t.front)

pub malloc_once : (p : Paging) (m : Held) (asked other : Request) (place elsewhere : ℕ) (old new next : Order)
    → MallocFollows p m asked place old new → MallocFollows p m other elsewhere old next → asked.length ≡ other.length
    → (asked.number ≡ other.number) × (place ≡ elsewhere) × (new ≡ next)
malloc_once p m asked other place elsewhere old new next s t same =
    let (number, rest) = same_front old.spare asked.number other.number s.rest t.rest s.number t.number in
    let again : TakesNext p m (record old { spare = s.rest }) (class_for p asked.length) elsewhere next =
    subst (λ r. TakesNext p m (record old { spare = r }) (class_for p asked.length) elsewhere next) (sym rest)
    (subst (λ n. TakesNext p m (record old { spare = t.rest }) (class_for p n) elsewhere next) (sym same) t.taken) in
    let (at, left) = next_once p m (class_for p asked.length) place elsewhere (record old { spare = s.rest }) new next s.taken again in
    (number, at, left)

module _ (p : Paging) (m : Held) (sound : IsSound p m) where
  -- there is one next object to move
  pub mover_once : (o : Order) (c q r : ℕ) (y z : Placed) → get m q ≡ Some y → get m r ≡ Some z → IsNextToMove p m o c y → IsNextToMove p m o c z → q ≡ r
  mover_once o c q r y z there here s t =
      let (page, rest) = same_front (not_full_in o c) s.page t.page s.rest t.rest s.front t.front in
      let slot = least_taken_once p m c s.page s.slot t.slot s.least (subst (λ g. IsLeastTaken p m c g t.slot) (sym page) t.least) in
      let place : y.place ≡ z.place = s.address ∙ ap (λ g. address_of p c g s.slot) page ∙ ap (address_of p c t.page) slot ∙ sym t.address in
      elim (cases_eq r q) [
        | inl is ↦ sym is
        | inr ne ↦ absurd (sound.own_place q y r z there here ne place)
      ]

  -- there is one order after an object is removed
  pub slot_once : (x : Placed) (moved other : Option ℕ) (old new next : Order) → Moves p m x moved → Moves p m x other
      → SlotFollows p m x moved old new → SlotFollows p m x other old next → (moved ≡ other) × (new ≡ next)
  slot_once x None None old new next a b s t = (refl, s ∙ sym t)
  slot_once x None (Some r) old new next a b s t = absurd (a b.0)
  slot_once x (Some q) None old new next a b s t = absurd (b a.0)
  slot_once x (Some q) (Some r) old new next a b (y, there, first, s) (z, here, second, t) =
      let number = mover_once old (class_at p x) q r y z there here first second in
      let same : y ≡ z = found_once m r y z (ap (get m) (sym number) ∙ there) here in
      (ap Some number, s ∙ ap (λ (w : Placed). slot_freed p m old (class_at p x) (page_of p w.place)) same ∙ sym t)

  free_again : (h : ℕ) (after other : CallResult) (old new next : Order) → RemovesObject p m h after → FreeFollows p m h after.moved old new
      → RemovesObject p m h other → FreeFollows p m h other.moved old next → (after ≡ other) × (new ≡ next)
  free_again h after other old new next r s u t =
      let x = r.freed in
      let first : s.object ≡ x = found_once m h s.object x s.found r.found in
      let second : t.object ≡ x = found_once m h t.object x t.found r.found in
      let third : u.freed ≡ x = found_once m h u.freed x u.found r.found in
      let (moved, between) = slot_once x after.moved other.moved old s.between t.between r.moves
      (subst (λ z. Moves p m z other.moved) third u.moves)
      (subst (λ z. SlotFollows p m z after.moved old s.between) first s.slot)
      (subst (λ z. SlotFollows p m z other.moved old t.between) second t.slot) in
      let held : after.held ≡ other.held = r.left ∙ ap (without m h x.place) moved ∙ ap (λ (z : Placed). without m h z.place other.moved) (sym third) ∙ sym u.left in
      let whole : after ≡ other = λ i. record { held = held i; moved = moved i } in
      (whole, s.number ∙ ap (λ (o : Order). record o { spare = h ∷ o.spare }) between ∙ sym t.number)

pub free_once : (p : Paging) (m : Held) (h : ℕ) (after other : CallResult) (old new next : Order) → IsSound p m
    → RemovesObject p m h after → FreeFollows p m h after.moved old new
    → RemovesObject p m h other → FreeFollows p m h other.moved old next
    → (after ≡ other) × (new ≡ next)
free_once p m h after other old new next sound = free_again p m sound h after other old new next
