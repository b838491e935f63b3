-- When a list has exactly the numbers below a limit that no object has (`AreSpare`), before and after a malloc, a free and a resize. An order with such a list
-- and the right pages is one of the arrangement, whatever the bounds of the classes.
use Rattle.std.proofs.Common.{◌≡◌, ◌≢◌, ℕ, ◌+◌, ◌<◌, List, ◌∷◌, Option, Some, None, length, arith, sym, ◌∙◌, ap, subst, inl, inr}
use Rattle.std.specs.Prelude.{nat_eq}
use Rattle.std.specs.List.{Contains, IsDistinct}
use Rattle.std.proofs.lemmas.Bool.{cases_eq}
use Rattle.std.specs.FinMap.{get, insert, len, remove}
use Rattle.cf_base.proofs.Maps.{get_insert_other, get_remove_other, get_removed, len_fresh, len_rebound}
use Rattle.cf_base.proofs.Searches.{len_without}
use Rattle.cf_base.proofs.Members.{contains_cases, contains_head, contains_tail, distinct_cons, distinct_head, distinct_tail}
use Rattle.page_model.specs.Held.{Held, Placed}
use Rattle.page_model.specs.Paging.{IsPaging, Paging, class_for}
use Rattle.page_model.specs.Arrangement.{IsSound, objects_on, count_on}
use Rattle.page_model.specs.Order.{IsOrderOf, Order}
use Rattle.page_model.specs.Steps.{Moves, without}
use Rattle.page_model.proofs.FreeSteps.{mover_is_other}
use Rattle.page_model.proofs.OrderLists.{ListsPages}

-- the numbers below the limit that no object has, each once
pub record AreSpare (m : Held) (limit : ℕ) (spare : List ℕ) : Type 0 where
  pub below : (h : ℕ) → Contains spare h → (h < limit) × (get m h ≡ None)
  pub once : IsDistinct nat_eq spare
  pub all : length spare + len m ≡ limit

pub numbers_spare : (p : Paging) (m : Held) (limit : ℕ) (o : Order) → IsOrderOf p m limit o → AreSpare m limit o.spare
numbers_spare p m limit o is = record { below = is.spare; once = is.spare_once; all = is.spare_all }

-- an order that lists the pages and the spare numbers of an arrangement is an order of it
pub order_is : (p : Paging) (m : Held) (limit : ℕ) (o : Order) → ListsPages p m o → AreSpare m limit o.spare → IsOrderOf p m limit o
order_is p m limit o pages numbers = record {
  pool = pages.pool;
  pool_once = pages.pool_once;
  as_many = pages.as_many;
  not_full = λ c g lt. pages.not_full c lt g;
  not_full_once = pages.not_full_once;
  spare = numbers.below;
  spare_once = numbers.once;
  spare_all = numbers.all;
}

-- with other bounds of the classes, it is still an order of the arrangement
pub order_bounded : (p : Paging) (bounds : List ℕ) (m : Held) (limit : ℕ) (o : Order) → IsOrderOf p m limit o
    → IsOrderOf (record p { bounds = bounds }) m limit o
unfolding objects_on count_on class_for
order_bounded p bounds m limit o is = record {
  pool = is.pool;
  pool_once = is.pool_once;
  as_many = is.as_many;
  not_full = is.not_full;
  not_full_once = is.not_full_once;
  spare = is.spare;
  spare_once = is.spare_once;
  spare_all = is.spare_all;
}

-- if a malloc uses the first free number, the others stay free
pub spare_given : (m : Held) (limit h : ℕ) (rest : List ℕ) (x : Placed) → AreSpare m limit (h ∷ rest) → AreSpare (insert m h x) limit rest
spare_given m limit h rest x are =
    let none = (are.below h (contains_head h rest)).1 in
    record {
      below = λ g there. (
          let was = are.below g (contains_tail g h rest there) in
          let ne : g ≢ h = λ e. distinct_head h rest are.once (subst (λ q. Contains rest q) e there) in
          (was.0, get_insert_other m h x g ne ∙ was.1));
      once = distinct_tail h rest are.once;
      all = (let more = len_fresh m h x none in let a = are.all in omega arith);
    }

-- each free number stays free
pub spare_same : (n m : Held) (limit : ℕ) (spare : List ℕ) → ((g : ℕ) → get m g ≡ None → get n g ≡ None) → len n ≡ len m → AreSpare m limit spare
    → AreSpare n limit spare
spare_same n m limit spare same long are = record {
  below = λ g there. (let was = are.below g there in (was.0, same g was.1));
  once = are.once;
  all = (let a = are.all in omega arith);
}

module _ (p : Paging) (ok : IsPaging p) (m : Held) (s : IsSound p m) (h : ℕ) (x : Placed) (found : get m h ≡ Some x) where
  pub none_stays : (moved : Option ℕ) → Moves p m x moved → (g : ℕ) → get m g ≡ None → get (without m h x.place moved) g ≡ None
  none_stays None never g none = elim (cases_eq g h) [
    | inl e ↦ rw e (get_removed m h)
    | inr ne ↦ get_remove_other m h g ne ∙ none
  ]
  none_stays (Some q) (must, (y, there, may)) g none =
      let ne : g ≢ q = λ e. (let z : Some y ≡ None = sym there ∙ ap (get m) (sym e) ∙ none in cc) in
      rw there (get_insert_other (remove m h) q _ g ne ∙ elim (cases_eq g h) [
        | inl e ↦ rw e (get_removed m h)
        | inr other ↦ get_remove_other m h g other ∙ none
      ])

  pub none_freed : (moved : Option ℕ) → Moves p m x moved → get (without m h x.place moved) h ≡ None
  none_freed None never = get_removed m h
  none_freed (Some q) (must, (y, there, may)) =
      let ne = mover_is_other p ok m s h x found q y there must may in
      rw there (get_insert_other (remove m h) q _ h (λ e. ne (sym e)) ∙ get_removed m h)

  pub len_less : (moved : Option ℕ) → Moves p m x moved → len (without m h x.place moved) + 1 ≡ len m
  len_less None never = sym (len_without m h x found)
  len_less (Some q) (must, (y, there, may)) =
      let ne = mover_is_other p ok m s h x found q y there must may in
      let same : len (without m h x.place (Some q)) ≡ len (remove m h) =
      rw there (len_rebound (remove m h) q _ y (get_remove_other m h q ne ∙ there)) in
      let less = len_without m h x found in
      omega arith

  -- if a free makes its number the first one, the list has the free numbers
  pub spare_freed : (limit : ℕ) (spare : List ℕ) (moved : Option ℕ) → Moves p m x moved → h < limit → AreSpare m limit spare
      → AreSpare (without m h x.place moved) limit (h ∷ spare)
  spare_freed limit spare moved moves below are = record {
    below = λ g there. elim (contains_cases g h spare there) [
      | inl e ↦ (rw e below, rw e (none_freed moved moves))
      | inr later ↦ (let was = are.below g later in (was.0, none_stays moved moves g was.1))
    ];
    once = distinct_cons h spare (λ there. (let z : Some x ≡ None = sym found ∙ (are.below h there).1 in cc)) are.once;
    all = (let less = len_less moved moves in let a = are.all in omega arith);
  }

  -- a resized object keeps its number
  pub spare_resized : (limit : ℕ) (spare : List ℕ) (moved : Option ℕ) → Moves p m x moved → (y : Placed) → AreSpare m limit spare
      → AreSpare (insert (without m h x.place moved) h y) limit spare
  spare_resized limit spare moved moves y are =
      spare_same (insert (without m h x.place moved) h y) m limit spare
      (λ g none. (
      let ne : g ≢ h = λ e. (let z : Some x ≡ None = sym found ∙ ap (get m) (sym e) ∙ none in cc) in
      get_insert_other (without m h x.place moved) h y g ne ∙ none_stays moved moves g none))
      (let more = len_fresh (without m h x.place moved) h y (none_freed moved moves) in let less = len_less moved moves in omega arith)
      are

  pub spare_in_place : (limit : ℕ) (spare : List ℕ) (y : Placed) → AreSpare m limit spare → AreSpare (insert m h y) limit spare
  spare_in_place limit spare y are =
      spare_same (insert m h y) m limit spare
      (λ g none. (
      let ne : g ≢ h = λ e. (let z : Some x ≡ None = sym found ∙ ap (get m) (sym e) ∙ none in cc) in
      get_insert_other m h y g ne ∙ none))
      (len_rebound m h y x found) are
