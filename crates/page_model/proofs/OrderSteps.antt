-- For the laws of `order.rt`: a malloc, a free and a resize that have a number and a slot can follow the order, and leave an order of the new arrangement
-- (`CanMalloc`, `CanFree`, `CanResize`). An order stays one if an object gets other bytes of its class. An added object is one more on its page.
use Rattle.std.proofs.Common.{◌≡◌, ◌≢◌, ℕ, ◌+◌, ◌<◌, List, ◌∷◌, Option, Some, None, length, arith, refl, sym, ◌∙◌, ap, subst, inl, inr}
use Rattle.std.proofs.lemmas.Bool.{cases_eq}
use Rattle.std.proofs.lemmas.List.{length-replicate}
use Rattle.std.specs.FinMap.{get, insert, len}
use Rattle.cf_base.proofs.Maps.{get_inserted}
use Rattle.cf_base.proofs.Ranges.{one}
use Rattle.cf_base.proofs.Searches.{fresh_key}
use Rattle.cf_base.proofs.Members.{contains_head, empty_or_not}
use Rattle.page_model.specs.Held.{Held, Placed}
use Rattle.page_model.specs.Paging.{Paging, IsPaging, class_for, classes, page_of}
use Rattle.page_model.specs.Arrangement.{IsSound, LacksRoom, class_at, is_on, objects_on}
use Rattle.page_model.specs.Order.{FreeFollows, IsOrderOf, MallocFollows, Order, ResizeFollows, not_full_in, slot_freed}
use Rattle.page_model.specs.Steps.{IsFreePlace, CallResult, Moves, RefitsObject, Request, resized, resized_at, without, zeros_at}
use Rattle.page_model.proofs.NextMoves.{HasLeft, slot_left}
use Rattle.page_model.proofs.NextSlots.{HasNext, next_slot}
use Rattle.page_model.proofs.OrderFree.{freed_at, listed_freed, spare_kept}
use Rattle.page_model.proofs.OrderLists.{HasOneMore, ListsPages, list_same, one_more, pages_listed, still_listed, renumbered}
use Rattle.page_model.proofs.OrderNumbers.{AreSpare, none_freed, numbers_spare, order_is, spare_freed, spare_given, spare_in_place, spare_resized}
use Rattle.page_model.proofs.Parts.{in_place_counts}
use Rattle.page_model.proofs.Placing.{objects_on-inserted, sound_placed}
use Rattle.page_model.proofs.Resizing.{changes_class, class-resized, length-resized}

-- an object that is added is one more, of its class on its page
pub one_added : (p : Paging) (m : Held) (h : ℕ) (x : Placed) → get m h ≡ None → HasOneMore p m (insert m h x) (class_at p x) (page_of p x.place)
one_added p m h x none = one_more p m (insert m h x) x (λ d g. sym (objects_on-inserted p m h x none d g))

-- a malloc of n bytes can follow the order
pub record CanMalloc (p : Paging) (m : Held) (n limit : ℕ) (o : Order) : Type 0 where
  pub number : ℕ
  pub place : ℕ
  pub new : Order
  pub below : number < limit
  pub unused : get m number ≡ None
  pub free : IsFreePlace p m n place
  pub follows : MallocFollows p m (record { number = number; length = n }) place o new
  pub is_order : IsOrderOf p (insert m number (zeros_at place n)) limit new

-- a free of x can follow the order
pub record CanFree (p : Paging) (m : Held) (h : ℕ) (x : Placed) (limit : ℕ) (o : Order) : Type 0 where
  pub moved : Option ℕ
  pub new : Order
  pub moves : Moves p m x moved
  pub follows : FreeFollows p m h moved o new
  pub is_order : IsOrderOf p (without m h x.place moved) limit new

-- a resize can follow the order
pub record CanResize (p : Paging) (m : Held) (asked : Request) (limit : ℕ) (o : Order) : Type 0 where
  pub after : CallResult
  pub new : Order
  pub step : RefitsObject p m asked after
  pub follows : ResizeFollows p m asked after o new
  pub is_order : IsOrderOf p after.held limit new

module _ (p : Paging) (ok : IsPaging p) (m : Held) (s : IsSound p m) (limit : ℕ) (o : Order) (is : IsOrderOf p m limit o) where
  pages : ListsPages p m o
  pages = pages_listed p m limit o is

  numbers : AreSpare m limit o.spare
  numbers = numbers_spare p m limit o is

  given : (n h : ℕ) (rest : List ℕ) → o.spare ≡ h ∷ rest → class_for p n < classes p → (¬ LacksRoom p m (class_for p n)) → CanMalloc p m n limit o
  given n h rest first lt room =
      let next = next_slot p ok m s n (record o { spare = rest }) (renumbered p m o rest pages) lt room in
      let are : AreSpare m limit (h ∷ rest) = subst (AreSpare m limit) first numbers in
      let top = are.below h (contains_head h rest) in
      let x : Placed = zeros_at next.place n in
      let class : class_at p x ≡ class_for p n = ap (class_for p) (length-replicate {A = ℕ} n 0) in
      let more : HasOneMore p m (insert m h x) (class_for p n) (page_of p next.place) =
      subst (λ c. HasOneMore p m (insert m h x) c (page_of p next.place)) class (one_added p m h x top.1) in
      record {
        number = h;
        place = next.place;
        new = next.new;
        below = top.0;
        unused = top.1;
        free = next.free;
        follows = record { rest = rest; number = first; taken = next.taken };
        is_order = order_is p (insert m h x) limit next.new (next.listed (insert m h x) more)
            (subst (AreSpare (insert m h x) limit) (sym next.spare) (spare_given m limit h rest x are));
      }

  -- with a number and a slot left, a malloc can follow
  pub can_malloc : (n : ℕ) → class_for p n < classes p → len m < limit → (¬ LacksRoom p m (class_for p n)) → CanMalloc p m n limit o
  can_malloc n lt few room = elim (empty_or_not o.spare) [
    | inr first ↦ given n first.0 first.1 first.2 lt room
    | inl none ↦ absurd (let all = is.spare_all in let z = ap length none in omega arith)
  ]

  -- a free of each live object can follow
  pub can_free : (h : ℕ) (x : Placed) → get m h ≡ Some x → h < limit → CanFree p m h x limit o
  can_free h x found below =
      let c = class_at p x in
      let l = slot_left p ok m s o h x found (pages.not_full c (s.slots h x found).class) in
      let n : Held = without m h x.place l.moved in
      let between : Order = slot_freed p m o c (page_of p l.left.place) in
      let new : Order = record between { spare = h ∷ between.spare } in
      let more : HasOneMore p n m c (page_of p l.left.place) = subst (λ d. HasOneMore p n m d (page_of p l.left.place)) l.class (one_more p n m l.left l.counts) in
      let listed = listed_freed p ok m s n c (page_of p l.left.place) more o pages in
      let kept = spare_kept p m o c (page_of p l.left.place) in
      record {
        moved = l.moved;
        new = new;
        moves = l.moves;
        follows = record { object = x; found = found; between = between; slot = l.follows; number = refl };
        is_order = order_is p n limit new (renumbered p n between (h ∷ between.spare) listed)
            (subst (λ r. AreSpare n limit (h ∷ r)) (sym kept) (spare_freed p ok m s h x found limit o.spare l.moved l.moves below numbers));
      }

  -- an order stays one if an object gets other bytes of its class in its slot
  pub order_in_place : (h n : ℕ) (x : Placed) → get m h ≡ Some x → class_for p n ≡ class_at p x → (v : List ℕ) → length v ≡ n
      → IsOrderOf p (insert m h (record { place = x.place; bytes = v })) limit o
  order_in_place h n x found same v long =
      let y : Placed = record { place = x.place; bytes = v } in
      order_is p (insert m h y) limit o (still_listed p (insert m h y) m o (in_place_counts p m h n x found same v long) pages)
      (spare_in_place p ok m s h x found limit o.spare y numbers)

  module _ (h n : ℕ) (x : Placed) (found : get m h ≡ Some x) where
    abbrev asked : Request
    asked = record { number = h; length = n }

    -- a resize within the class changes nothing
    stays : class_for p n ≡ class_at p x → CanResize p m asked limit o
    stays same = record {
      after = record { held = insert m h (resized_at x.place x n); moved = None };
      new = o;
      step = inl (record { object = x; found = found; same = same; placed = refl; still = refl });
      follows = record { object = x; found = found; stays = λ _. refl; changes = λ other. absurd (other same) };
      is_order = order_in_place h n x found same (resized x.bytes n) (length-resized x.bytes n);
    }

    module _ (other : class_for p n ≢ class_at p x) (next : HasNext p m n o) where
      abbrev y : Placed
      y = resized_at next.place x n

      abbrev c : ℕ
      c = class_at p x

      spare : (k : ℕ) × (k < len m + 1) × (get m k ≡ None)
      spare = fresh_key (len m + 1) m (omega arith)

      -- the arrangement with both objects
      abbrev both : Held
      both = insert m spare.0 y

      sound_both : IsSound p both
      sound_both = sound_placed p m spare.0 y spare.2 ok s (subst (λ k. IsFreePlace p m k next.place) (sym (length-resized x.bytes n)) next.free)

      more_both : HasOneMore p m both (class_for p n) (page_of p next.place)
      more_both = subst (λ d. HasOneMore p m both d (page_of p next.place)) (class-resized p next.place n x) (one_added p m spare.0 y spare.2)

      listed_both : ListsPages p both next.new
      listed_both = next.listed both more_both

      same_class : (g : ℕ) → objects_on p m c g ≡ objects_on p both c g
      same_class g = sym (more_both.others c g (inr other))

      leaves : HasLeft p m h x next.new
      leaves = slot_left p ok m s next.new h x found
          (list_same p m both c (not_full_in next.new c) same_class (listed_both.not_full c (s.slots h x found).class))

      abbrev rest : Held
      rest = without m h x.place leaves.moved

      abbrev final : Held
      final = insert rest h y

      gone : get rest h ≡ None
      gone = none_freed p ok m s h x found leaves.moved leaves.moves

      counts : (d g : ℕ) → objects_on p final d g + one (is_on p d g leaves.left) ≡ objects_on p both d g
      counts d g =
          let a = objects_on-inserted p rest h y gone d g in
          let b = leaves.counts d g in
          let e = objects_on-inserted p m spare.0 y spare.2 d g in
          omega arith

      abbrev page : ℕ
      page = page_of p leaves.left.place

      listed_final : ListsPages p final (slot_freed p m next.new c page)
      listed_final = subst (λ u. ListsPages p final (freed_at p u next.new c page)) (sym (same_class page))
          (listed_freed p ok both sound_both final c page
          (subst (λ d. HasOneMore p final both d page) leaves.class (one_more p final both leaves.left counts)) next.new listed_both)

      -- a resize to another class takes the next slot, and leaves the old one
      moves_on : CanResize p m asked limit o
      moves_on =
          let new : Order = slot_freed p m next.new c page in
          let kept : new.spare ≡ o.spare = spare_kept p m next.new c page ∙ next.spare in
          record {
            after = record { held = final; moved = leaves.moved };
            new = new;
            step = inr (changes_class p ok m s h n next.place spare.0 x leaves.moved found other spare.2 next.free leaves.moves);
            follows = record {
              object = x;
              found = found;
              stays = λ same. absurd (other same);
              changes = λ _. (next.place, next.new, get_inserted rest h y, next.taken, leaves.follows);
            };
            is_order = order_is p final limit new listed_final
                (subst (AreSpare final limit) (sym kept) (spare_resized p ok m s h x found limit o.spare leaves.moved leaves.moves y numbers));
          }

    -- a resize can follow, if another class has a slot left
    pub can_resize : class_for p n < classes p → (class_for p n ≢ class_at p x → ¬ LacksRoom p m (class_for p n)) → CanResize p m asked limit o
    can_resize lt room = elim (cases_eq (class_for p n) (class_at p x)) [
      | inl same ↦ stays same
      | inr other ↦ moves_on other (next_slot p ok m s n o pages lt (room other))
    ]
