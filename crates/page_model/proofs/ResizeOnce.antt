-- For the law `an_order_leaves_no_choice`: two resizes of one object to one length that follow the same order leave the same objects and the same order, within
-- the class and to another one.
use Rattle.std.proofs.Common.{◌≡◌, ℕ, Some, sym, ◌∙◌, ap, subst, inl, inr}
use Rattle.std.specs.FinMap.{get, insert}
use Rattle.cf_base.proofs.Maps.{found_once, get_inserted}
use Rattle.page_model.specs.Held.{Held, Placed}
use Rattle.page_model.specs.Paging.{IsPaging, Paging, class_for}
use Rattle.page_model.specs.Arrangement.{IsSound, class_at}
use Rattle.page_model.specs.Order.{Order, ResizeFollows, SlotFollows, TakesNext}
use Rattle.page_model.specs.Steps.{ChangesClass, CallResult, Moves, RefitsObject, Request, ResizesInPlace, resized_at, without}
use Rattle.page_model.proofs.Following.{next_once, slot_once}
use Rattle.page_model.proofs.Resizing.{change_is}

-- a resize of x to another class turns the order `old` into `new`: it takes a slot, which leaves `between`, then frees the old slot
record Changed (p : Paging) (m : Held) (asked : Request) (x : Placed) (after : CallResult) (old new : Order) : Type 0 where
  place : ℕ
  between : Order
  taken : TakesNext p m old (class_for p asked.length) place between
  moves : Moves p m x after.moved
  slot : SlotFollows p m x after.moved between new
  held : after.held ≡ insert (without m asked.number x.place after.moved) asked.number (resized_at place x asked.length)

module _ (p : Paging) (ok : IsPaging p) (m : Held) (s : IsSound p m) (asked : Request) where
  changed : (after : CallResult) (old new : Order) (r : ChangesClass p m asked after) → ResizeFollows p m asked after old new
      → Changed p m asked r.object after old new
  changed after old new r f =
      let x = r.object in
      let same : f.object ≡ x = found_once m asked.number f.object x f.found r.found in
      let (place, between, at, taken, slot) = f.changes (λ e. r.other (e ∙ ap (class_at p) same)) in
      let is = change_is p ok m s asked after r in
      let here : get after.held asked.number ≡ Some (resized_at r.place x asked.length) = ap (λ n. get n asked.number) is.1
      ∙ get_inserted (without m asked.number x.place after.moved) asked.number (resized_at r.place x asked.length) in
      let one : Some (resized_at r.place x asked.length) ≡ Some (resized_at place f.object asked.length) = sym here ∙ at in
      let objects : resized_at r.place x asked.length ≡ resized_at place f.object asked.length = cc in
      let places : r.place ≡ place = ap (λ (y : Placed). y.place) objects in
      record {
        place = place;
        between = between;
        taken = taken;
        moves = is.0;
        slot = subst (λ y. SlotFollows p m y after.moved between new) same slot;
        held = is.1 ∙ ap (λ a. insert (without m asked.number x.place after.moved) asked.number (resized_at a x asked.length)) places;
      }

  changed_once : (x : Placed) (after other : CallResult) (old new next : Order) → Changed p m asked x after old new → Changed p m asked x other old next
      → (after ≡ other) × (new ≡ next)
  changed_once x after other old new next a b =
      let (places, orders) = next_once p m (class_for p asked.length) a.place b.place old a.between b.between a.taken b.taken in
      let (moved, news) = slot_once p m s x after.moved other.moved a.between new next a.moves b.moves a.slot
      (subst (λ o. SlotFollows p m x other.moved o next) (sym orders) b.slot) in
      let held : after.held ≡ other.held = a.held
      ∙ ap (λ q. insert (without m asked.number x.place q) asked.number (resized_at a.place x asked.length)) moved
      ∙ ap (λ z. insert (without m asked.number x.place other.moved) asked.number (resized_at z x asked.length)) places ∙ sym b.held in
      let whole : after ≡ other = λ i. record { held = held i; moved = moved i } in
      (whole, news)

  stayed_once : (after other : CallResult) → ResizesInPlace p m asked after → ResizesInPlace p m asked other → after ≡ other
  stayed_once after other r t =
      let same : r.object ≡ t.object = found_once m asked.number r.object t.object r.found t.found in
      let held : after.held ≡ other.held = r.placed
      ∙ ap (λ (y : Placed). insert m asked.number (resized_at y.place y asked.length)) same ∙ sym t.placed in
      let moved : after.moved ≡ other.moved = r.still ∙ sym t.still in
      λ i. record { held = held i; moved = moved i }

  stayed_order : (after : CallResult) (old new : Order) → ResizesInPlace p m asked after → ResizeFollows p m asked after old new → new ≡ old
  stayed_order after old new r f = f.stays (r.same ∙ ap (class_at p) (found_once m asked.number r.object f.object r.found f.found))

  not_both : (after other : CallResult) → ResizesInPlace p m asked after → ChangesClass p m asked other → ⊥
  not_both after other r t = t.other (r.same ∙ ap (class_at p) (found_once m asked.number r.object t.object r.found t.found))

  refits_once : (after other : CallResult) (old new next : Order) → RefitsObject p m asked after → ResizeFollows p m asked after old new
      → RefitsObject p m asked other → ResizeFollows p m asked other old next → (after ≡ other) × (new ≡ next)
  refits_once after other old new next (inl r) f (inl t) g =
      (stayed_once after other r t, stayed_order after old new r f ∙ sym (stayed_order other old next t g))
  refits_once after other old new next (inl r) f (inr t) g = absurd (not_both after other r t)
  refits_once after other old new next (inr r) f (inl t) g = absurd (not_both other after t r)
  refits_once after other old new next (inr r) f (inr t) g =
      let same : t.object ≡ r.object = found_once m asked.number t.object r.object t.found r.found in
      changed_once r.object after other old new next (changed after old new r f)
      (subst (λ y. Changed p m asked y other old next) same (changed other old next t g))

pub resize_once : (p : Paging) (m : Held) (asked : Request) (after other : CallResult) (old new next : Order) → IsPaging p → IsSound p m
    → RefitsObject p m asked after → ResizeFollows p m asked after old new
    → RefitsObject p m asked other → ResizeFollows p m asked other old next
    → (after ≡ other) × (new ≡ next)
resize_once p m asked after other old new next ok s = refits_once p ok m s asked after other old new next
