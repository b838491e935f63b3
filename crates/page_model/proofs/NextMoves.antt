-- For `OrderSteps`: if a free must move an object, the next one of the order can move; else none does (`HasLeft`). The page whose slot becomes free then has
-- one object less.
use Rattle.std.proofs.Common.{◌≡◌, ℕ, ◌+◌, ◌/◌, ◌%◌, ◌<◌, List, ◌∷◌, Option, Some, None, arith, refl, sym, ◌∙◌, ap, subst, inl, inr}
use Rattle.std.specs.Prelude.{◌⊎◌}
use Rattle.std.specs.List.{Contains}
use Rattle.std.specs.FinMap.{get}
use Rattle.cf_base.proofs.Ranges.{one}
use Rattle.cf_base.proofs.Members.{contains_head, contains_nil, empty_or_not}
use Rattle.page_model.specs.Held.{Held, Placed}
use Rattle.page_model.specs.Paging.{Paging, IsPaging, address_of, classes, page_of, slots_of, slot_words}
use Rattle.page_model.specs.Arrangement.{IsSlotAt, IsSound, class_at, is_on, not_full_pages, objects_on}
use Rattle.page_model.specs.Order.{IsLeastTaken, IsNextToMove, IsTaken, Order, SlotFollows, not_full_in, slot_freed}
use Rattle.page_model.specs.Steps.{MayFill, Moves, MustMove, without}
use Rattle.page_model.proofs.Addresses.{address_is_slot, slot_is_address}
use Rattle.page_model.proofs.Counting.{on_page}
use Rattle.page_model.proofs.NextSlots.{least_below}
use Rattle.page_model.proofs.OpenPages.{classed, open_page, some_move, taken_or_vacant}
use Rattle.page_model.proofs.OrderLists.{IsList}
use Rattle.page_model.proofs.Parts.{freed_counts, moved_counts}

-- a free of x follows the order o: it moves object `moved`, or none; the slot that becomes free is that of `left`, x or the object that moves
pub record HasLeft (p : Paging) (m : Held) (h : ℕ) (x : Placed) (o : Order) : Type 0 where
  pub moved : Option ℕ
  pub moves : Moves p m x moved
  pub left : Placed
  pub class : class_at p left ≡ class_at p x
  pub follows : SlotFollows p m x moved o (slot_freed p m o (class_at p x) (page_of p left.place))
  pub counts : (d g : ℕ) → objects_on p (without m h x.place moved) d g + one (is_on p d g left) ≡ objects_on p m d g

-- the object of class c that is next to move by the order o, on a page that isn't full
record HasMover (p : Paging) (m : Held) (c : ℕ) (o : Order) : Type 0 where
  number : ℕ
  object : Placed
  there : get m number ≡ Some object
  next : IsNextToMove p m o c object
  class : class_at p object ≡ c
  less : objects_on p m c (page_of p object.place) < slots_of p c

module _ (p : Paging) (ok : IsPaging p) (m : Held) (s : IsSound p m) (o : Order) where
  module _ (c : ℕ) (lt : c < classes p) (is : IsList p m c (not_full_in o c)) where
    -- if an object of class c is on the page, one of the page's slots is taken
    taken_slot : (page : ℕ) → 0 < objects_on p m c page → (k : ℕ) × (k < slots_of p c) × IsTaken m (address_of p c page k)
    taken_slot page some =
        let f = on_page p m c page some in
        let slot = subst (λ d. IsSlotAt p d (f.1).place) f.4 (s.slots f.0 f.1 f.2) in
        let a = slot_is_address p ok c lt (f.1).place slot in
        let k = (f.1).place % p.page_words / slot_words p c in
        (k, a.1, (f.0, f.1, f.2, subst (λ g. (f.1).place ≡ address_of p c g k) f.3 a.0))

    free_or_taken : (a : ℕ) → (¬ IsTaken m a) ⊎ IsTaken m a
    free_or_taken a = elim (taken_or_vacant m a) [
      | inl taken ↦ inr taken
      | inr none ↦ inl (λ (q, y, there, is). none q y there is)
    ]

    least_taken : (page : ℕ) → 0 < objects_on p m c page → (k : ℕ) × (k < slots_of p c) × IsLeastTaken p m c page k
    least_taken page some =
        let t = taken_slot page some in
        elim (least_below (λ k. ¬ IsTaken m (address_of p c page k)) (λ k. IsTaken m (address_of p c page k))
        (λ k. free_or_taken (address_of p c page k)) (t.0 + 1)) [
          | inr found ↦ (found.0, (let a = t.1 in let b = found.1 in omega arith), record { taken = found.2; least = found.3 })
          | inl all ↦ absurd (all t.0 (omega arith) t.2)
        ]

    mover_on : (page : ℕ) (rest : List ℕ) → not_full_in o c ≡ page ∷ rest → HasMover p m c o
    mover_on page rest front =
        let (within, (some, less)) = (is page).0 (subst (λ xs. Contains xs page) (sym front) (contains_head page rest)) in
        let k = least_taken page some in
        let (q, y, there, at) = (k.2).taken in
        let on : page_of p y.place ≡ page = ap (page_of p) at ∙ (address_is_slot p ok c lt page k.0 within k.1).1 in
        record {
          number = q;
          object = y;
          there = there;
          next = record { page = page; slot = k.0; rest = rest; front = front; least = k.2; address = at };
          class = classed p ok c lt page within m s some q y there on;
          less = rw on less;
        }

    mover : 0 < not_full_pages p m c → HasMover p m c o
    mover some = elim (empty_or_not (not_full_in o c)) [
      | inr front ↦ mover_on front.0 front.1 front.2
      | inl none ↦ absurd (
          let g = open_page p m c some in
          let there = (is g.0).1 ((g.1).within, ((g.1).some, (g.1).less)) in
          contains_nil g.0 (subst (λ xs. Contains xs g.0) none there))
    ]

  -- a free of a live object
  module _ (h : ℕ) (x : Placed) (found : get m h ≡ Some x) (is : IsList p m (class_at p x) (not_full_in o (class_at p x))) where
    lt : class_at p x < classes p
    lt = (s.slots h x found).class

    left_alone : (¬ MustMove p m x) → HasLeft p m h x o
    left_alone never = record {
      moved = None;
      moves = never;
      left = x;
      class = refl;
      follows = refl;
      counts = freed_counts p ok m s h x found;
    }

    left_filled : MustMove p m x → HasLeft p m h x o
    left_filled must =
        let some : 0 < not_full_pages p m (class_at p x) = (let k = ok.some (class_at p x) lt in let e = must.many in omega arith) in
        let y = mover (class_at p x) lt is some in
        let may : MayFill p m x y.object = record { class = y.class; not_full = y.less } in
        record {
          moved = Some y.number;
          moves = (must, (y.object, y.there, may));
          left = y.object;
          class = y.class;
          follows = (y.object, y.there, y.next, refl);
          counts = moved_counts p ok m s h x found y.number y.object y.there must may;
        }

    pub slot_left : HasLeft p m h x o
    slot_left = by (some_move p ok m s h x found)
      where
        by : (moved : Option ℕ) × Moves p m x moved → HasLeft p m h x o
        by (None, never) = left_alone never
        by (Some q, (must, filler)) = left_filled must
