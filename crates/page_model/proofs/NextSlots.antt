-- For `OrderSteps`: if a class has a slot left, the order determines the next one (`HasNext`). Once it is taken, the order lists the free and the partly full
-- pages of the new arrangement. Also the least number with a property, for `NextMoves` too.
use Rattle.std.proofs.Common.{◌≡◌, ℕ, Bool, true, false, zero, suc, ◌+◌, ◌<◌, List, [], ◌∷◌, arith, refl, sym, ◌∙◌, ap, subst, inl, inr}
use Rattle.std.specs.Prelude.{◌⊎◌, nat_eq, if◌then◌else◌}
use Rattle.std.specs.List.{Contains}
use Rattle.std.proofs.lemmas.Bool.{cases_eq, cases_lt}
use Rattle.cf_base.proofs.Members.{contains_head, contains_nil, empty_or_not}
use Rattle.page_model.specs.Held.{Held}
use Rattle.page_model.specs.Paging.{Paging, IsPaging, address_of, class_for, classes, page_of, slots_of}
use Rattle.page_model.specs.Arrangement.{IsSound, LacksRoom, not_full_pages, objects_on, count_on}
use Rattle.page_model.specs.Order.{IsLeastFree, IsTaken, Order, TakesNext, not_full_in, with_not_full}
use Rattle.page_model.specs.Steps.{IsFreePlace}
use Rattle.page_model.proofs.Addresses.{address_is_slot}
use Rattle.page_model.proofs.Counting.{nothing_on}
use Rattle.page_model.proofs.OpenPages.{open_page, taken_or_vacant, vacant_where_less}
use Rattle.page_model.proofs.OrderLists.{HasOneMore, ListsPages}
use Rattle.page_model.proofs.OrderTake.{listed_free, listed_open}
use Rattle.page_model.proofs.PageCounts.{slots_some}

-- if A or B holds of each number: the least number below n of which B holds; if there is none, A holds of all
pub least_below : (A B : ℕ → Type 0) → ((k : ℕ) → A k ⊎ B k) → (n : ℕ) → ((k : ℕ) → k < n → A k) ⊎ ((k : ℕ) × (k < n) × B k × ((j : ℕ) → j < k → A j))
least_below A B test zero = inl (λ k lt. absurd (omega arith))
least_below A B test (suc n) = elim (least_below A B test n) [
  | inr found ↦ inr (found.0, (let lt = found.1 in omega arith), found.2, found.3)
  | inl all ↦ elim (test n) [
    | inr here ↦ inr (n, omega arith, here, all)
    | inl last ↦ inl (λ k lt. elim (cases_eq k n) [
      | inl is ↦ rw is last
      | inr ne ↦ all k (omega arith)
    ])
  ]
]

-- the next slot for an object of n bytes, and the order after it is taken
pub record HasNext (p : Paging) (m : Held) (n : ℕ) (o : Order) : Type 0 where
  pub place : ℕ
  pub new : Order
  pub taken : TakesNext p m o (class_for p n) place new
  pub free : IsFreePlace p m n place
  pub spare : new.spare ≡ o.spare
  pub listed : (with_it : Held) → HasOneMore p m with_it (class_for p n) (page_of p place) → ListsPages p with_it new

spare_either : (b : Bool) (x y : Order) (spare : List ℕ) → x.spare ≡ spare → y.spare ≡ spare → (if b then x else y).spare ≡ spare
spare_either true x y spare a b = a
spare_either false x y spare a b = b

module _ (p : Paging) (ok : IsPaging p) (m : Held) (s : IsSound p m) where
  -- the slot is taken, or free
  taken_or_free : (a : ℕ) → IsTaken m a ⊎ (¬ IsTaken m a)
  taken_or_free a = elim (taken_or_vacant m a) [
    | inl taken ↦ inl taken
    | inr none ↦ inr (λ (q, y, there, is). none q y there is)
  ]

  least_free : (c page v : ℕ) → (¬ IsTaken m (address_of p c page v)) → (k : ℕ) × (k < v + 1) × IsLeastFree p m c page k
  least_free c page v free =
      elim (least_below (λ k. IsTaken m (address_of p c page k)) (λ k. ¬ IsTaken m (address_of p c page k))
      (λ k. taken_or_free (address_of p c page k)) (v + 1)) [
        | inr found ↦ (found.0, found.1, record { free = found.2; least = found.3 })
        | inl all ↦ absurd (free (all v (omega arith)))
      ]

  module _ (n : ℕ) (o : Order) (is : ListsPages p m o) (lt : class_for p n < classes p) where
    -- on the first partly full page
    next_open : (page : ℕ) (rest : List ℕ) → not_full_in o (class_for p n) ≡ page ∷ rest → HasNext p m n o
    next_open page rest front =
        let c = class_for p n in
        let (within, (some, less)) = (is.not_full c lt page).0 (subst (λ xs. Contains xs page) (sym front) (contains_head page rest)) in
        let v = vacant_where_less p ok c lt page within m s some less in
        let k = least_free c page v.0 (λ (q, y, there, is). v.2 q y there is) in
        let below : k.0 < slots_of p c = (let a = v.1 in let b = k.1 in omega arith) in
        let at = address_is_slot p ok c lt page k.0 within below in
        let on = at.1 in
        record {
          place = address_of p c page k.0;
          new = if nat_eq (objects_on p m c page + 1) (slots_of p c) then with_not_full o c rest else o;
          taken = inl (record { page = page; slot = k.0; rest = rest; address = refl; front = front; least = k.2; left = refl });
          free = record { slot = at.0; unused = λ q y there e. (k.2).free (q, y, there, e); choice = inl (rw on some, rw on less) };
          spare = spare_either (nat_eq (objects_on p m c page + 1) (slots_of p c)) (with_not_full o c rest) o o.spare refl refl;
          listed = λ with_it more. listed_open p m with_it c page (subst (HasOneMore p m with_it c) on more) lt o is rest front;
        }

    -- on the first free page
    next_free : not_full_in o (class_for p n) ≡ [] → not_full_pages p m (class_for p n) ≡ 0 → (page : ℕ) (rest : List ℕ) → o.pool ≡ page ∷ rest → HasNext p m n o
    next_free none full page rest front =
        let c = class_for p n in
        let (within, bare) = (is.pool page).0 (subst (λ xs. Contains xs page) (sym front) (contains_head page rest)) in
        let slots = slots_some p ok c lt in
        let at = address_is_slot p ok c lt page 0 within slots in
        let on = at.1 in
        record {
          place = address_of p c page 0;
          new = record (if nat_eq (slots_of p c) 1 then o else with_not_full o c (page ∷ [])) { pool = rest };
          taken = inr (record { page = page; rest = rest; address = refl; none = none; front = front; left = refl });
          free = record {
            slot = at.0;
            unused = λ q y there e. nothing_on p m page bare q y there (ap (page_of p) e ∙ on);
            choice = inr (full, rw on bare);
          };
          spare = spare_either (nat_eq (slots_of p c) 1) o (with_not_full o c (page ∷ [])) o.spare refl refl;
          listed = λ with_it more. listed_free p m with_it c page (subst (HasOneMore p m with_it c) on more) lt o is rest none front slots;
        }

    no_open : not_full_in o (class_for p n) ≡ [] → not_full_pages p m (class_for p n) ≡ 0
    no_open none = elim (cases_lt 0 (not_full_pages p m (class_for p n))) [
      | inl some ↦ absurd (
          let g = open_page p m (class_for p n) some in
          let there = (is.not_full (class_for p n) lt g.0).1 ((g.1).within, ((g.1).some, (g.1).less)) in
          contains_nil g.0 (subst (λ xs. Contains xs g.0) none there))
      | inr le ↦ omega arith
    ]

    all_taken : o.pool ≡ [] → (page : ℕ) → page < p.pages → 0 < count_on p m page
    all_taken none page within = elim (cases_lt 0 (count_on p m page)) [
      | inl some ↦ some
      | inr le ↦ absurd (contains_nil page (subst (λ xs. Contains xs page) none ((is.pool page).1 (within, omega arith))))
    ]

    pub next_slot : (¬ LacksRoom p m (class_for p n)) → HasNext p m n o
    next_slot room = elim (empty_or_not (not_full_in o (class_for p n))) [
      | inr front ↦ next_open front.0 front.1 front.2
      | inl none ↦ elim (empty_or_not o.pool) [
        | inr front ↦ next_free none (no_open none) front.0 front.1 front.2
        | inl bare ↦ absurd (room (record { full = no_open none; taken = all_taken bare }))
      ]
    ]
