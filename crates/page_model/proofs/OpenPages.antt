-- A partly full page (`IsOpen`) has a free slot (`IsVacant`); the page of a free slot isn't full. All objects of a page have one class. A class has a partly
-- full page exactly if its count of them isn't 0, and has a slot left if an address is free for it. If a free must move an object, there is one that it may
-- move.
use Rattle.std.proofs.Common.{◌≡◌, ◌≢◌, ℕ, zero, suc, true, ◌+◌, ◌/◌, ◌%◌, ◌<◌, ◌≤◌, Option, Some, None, arith, refl, sym, ◌∙◌, ap, inl, inr}
use Rattle.std.specs.Prelude.{◌⊎◌, ◌&&◌, count_by, nat_eq, nat_lt}
use Rattle.std.proofs.lemmas.Bool.{cases_eq, cases_lt, false≢true, and_parts as both, eqb-true}
use Rattle.std.proofs.lemmas.Bool.Decides.{nat_tests}
use Rattle.std.specs.FinMap.{get, remove, values}
use Rattle.cf_base.proofs.Maps.{get_remove_other, some_removed}
use Rattle.cf_base.proofs.Ranges.{some_in_range}
use Rattle.cf_base.proofs.Tests.{eq_yes}
use Rattle.page_model.specs.Arrangement.{IsSlotAt, IsSound, LacksRoom, class_at, not_full_pages, objects_on}
use Rattle.page_model.specs.Held.{Held, Placed}
use Rattle.page_model.specs.Order.{IsTaken}
use Rattle.page_model.specs.Paging.{IsPaging, Paging, address_of, bound_of, class_for, classes, page_of, slot_words, slots_of}
use Rattle.page_model.specs.Steps.{IsFreePlace, Moves}
use Rattle.page_model.proofs.Counting.{none_counted, on_page, part_yes, some_counted}
use Rattle.page_model.proofs.Freeing.{objects_on-left}
use Rattle.page_model.proofs.Addresses.{address_is_slot}
use Rattle.page_model.proofs.PageCounts.{size_some}
use Rattle.page_model.proofs.Totals.{page_below}
use Rattle.cf_base.proofs.Searches.{counted_in_range, search_below}

-- no object is at the address
abbrev pub IsVacant : Held → ℕ → Type 0
IsVacant m a = (q : ℕ) (y : Placed) → get m q ≡ Some y → y.place ≢ a

pub taken_or_vacant : (m : Held) (a : ℕ) → IsTaken m a ⊎ IsVacant m a
taken_or_vacant m a = elim (cases_eq (count_by (λ (x : Placed). nat_eq x.place a) (values m)) 0) [
  | inl none ↦ inr (λ q y there is. false≢true (sym (none_counted (λ (x : Placed). nat_eq x.place a) m q y there none) ∙ eq_yes y.place a is))
  | inr ne ↦ inl (
      let o = some_counted (λ (x : Placed). nat_eq x.place a) m (omega arith) in
      (o.0, o.1, o.2, eqb-true (o.1).place a o.3))
]

-- the page is partly full, with objects of the class
pub record IsOpen (p : Paging) (m : Held) (c page : ℕ) : Type 0 where
  pub within : page < p.pages
  pub some : 0 < objects_on p m c page
  pub less : objects_on p m c page < slots_of p c

-- if a page is partly full with a class, the class's count of partly full pages isn't 0
pub open_counts : (p : Paging) (m : Held) (c page : ℕ) → IsOpen p m c page → 0 < not_full_pages p m c
unfolding not_full_pages
open_counts p m c page o = some_in_range (λ g. nat_lt 0 (objects_on p m c g) && nat_lt (objects_on p m c g) (slots_of p c)) 0 p.pages page (omega arith)
    (omega (arith, o.within)) (part_yes (objects_on p m c page) (slots_of p c) o.some o.less)

-- if a class's count of partly full pages isn't 0, a page is partly full with it
pub open_page : (p : Paging) (m : Held) (c : ℕ) → 0 < not_full_pages p m c → (page : ℕ) × IsOpen p m c page
unfolding not_full_pages
open_page p m c some =
    let at = counted_in_range (λ g. nat_lt 0 (objects_on p m c g) && nat_lt (objects_on p m c g) (slots_of p c)) 0 p.pages some in
    let tests = both (nat_lt 0 (objects_on p m c at.0)) (nat_lt (objects_on p m c at.0) (slots_of p c)) at.3 in
    let first = tests.0 in
    let second = tests.1 in
    (at.0, record { within = omega (arith, at.2); some = grind (arith, nat_tests); less = grind (arith, nat_tests) })

module _ (p : Paging) (ok : IsPaging p) (c : ℕ) (lt : c < classes p) (page : ℕ) (within : page < p.pages) where
  -- if the first n slots are taken, at least n objects of the class are on the page
  used_are_few : (n : ℕ) (m : Held) → n ≤ slots_of p c → ((q : ℕ) (y : Placed) → get m q ≡ Some y → page_of p y.place ≡ page → class_at p y ≡ c)
      → ((k : ℕ) → k < n → IsTaken m (address_of p c page k)) → n ≤ objects_on p m c page
  used_are_few zero m le classed used = omega arith
  used_are_few (suc n) m le classed used =
      let last = used n (omega arith) in
      let at = address_is_slot p ok c lt page n within (omega arith) in
      let on : page_of p (last.1).place ≡ page = ap (page_of p) last.3 ∙ at.1 in
      let class = classed last.0 last.1 last.2 on in
      let less = objects_on-left p m last.0 last.1 last.2 c class in
      let less' : objects_on p (remove m last.0) c page + 1 ≡ objects_on p m c page = rw (← on) less in
      let rest = used_are_few n (remove m last.0) (omega arith)
      (λ q y there. classed q y (some_removed m last.0 q y there).1)
      (λ k below. other m last.0 last.1 k n (omega arith) (omega arith) below last.2 last.3 (used k (omega arith))) in
      omega arith
    where
      other : (m : Held) (h : ℕ) (x : Placed) (k n : ℕ) → n < slots_of p c → k < slots_of p c → k < n → get m h ≡ Some x → x.place ≡ address_of p c page n
          → IsTaken m (address_of p c page k) → IsTaken (remove m h) (address_of p c page k)
      other m h x k n in_n in_k below some at used =
          let a = address_is_slot p ok c lt page n within in_n in
          let b = address_is_slot p ok c lt page k within in_k in
          let ne : used.0 ≢ h = λ is. (
          let there : get m h ≡ Some used.1 = ap (get m) (sym is) ∙ used.2 in
          let same : Some used.1 ≡ Some x = sym there ∙ some in
          let same' : used.1 ≡ x = cc in
          let places : address_of p c page k ≡ address_of p c page n = sym used.3 ∙ ap (λ (y : Placed). y.place) same' ∙ at in
          let slots : k ≡ n = sym b.2 ∙ ap (λ w. w % p.page_words / slot_words p c) places ∙ a.2 in
          omega arith) in
          (used.0, used.1, get_remove_other m h used.0 ne ∙ used.2, used.3)

  module _ (m : Held) (s : IsSound p m) (some : 0 < objects_on p m c page) where
    -- every object of the page is of its class
    pub classed : (q : ℕ) (y : Placed) → get m q ≡ Some y → page_of p y.place ≡ page → class_at p y ≡ c
    classed q y there on = (let o = on_page p m c page some in s.one_class q y o.0 o.1 there o.2 (on ∙ sym o.3) ∙ o.4)

    -- a page with fewer objects than slots has a free slot
    pub vacant_where_less : objects_on p m c page < slots_of p c → (k : ℕ) × (k < slots_of p c) × IsVacant m (address_of p c page k)
    vacant_where_less less = elim (search_below (λ k. IsTaken m (address_of p c page k)) (λ k. IsVacant m (address_of p c page k))
        (λ k. taken_or_vacant m (address_of p c page k)) (slots_of p c)) [
          | inr found ↦ found
          | inl all ↦ absurd (let l = used_are_few (slots_of p c) m (omega arith) classed all in omega arith)
        ]

-- a page with a vacant slot isn't full
pub less_where_vacant : (p : Paging) → IsPaging p → (c : ℕ) (m : Held) → IsSound p m → (a : ℕ) → IsSlotAt p c a → IsVacant m a
    → objects_on p m c (page_of p a) < slots_of p c
less_where_vacant p ok c m s a slot vacant = page_below p c (page_of p a) m a (size_some p ok c slot.class) s slot refl vacant

-- if there is a free place, the class has a slot left
pub place_is_room : (p : Paging) (m : Held) (n a : ℕ) → IsFreePlace p m n a → LacksRoom p m (class_for p n) → ⊥
place_is_room p m n a free lacks = elim free.choice [
  | inl (some, less) ↦ (
      let room = open_counts p m (class_for p n) (page_of p a) (record { within = free.slot.page; some = some; less = less }) in
      let full = lacks.full in
      omega arith)
  | inr (_, bare) ↦ (let some = lacks.taken (page_of p a) free.slot.page in omega arith)
]

-- a free moves no object, or there is one that it may move
pub some_move : (p : Paging) → IsPaging p → (m : Held) → IsSound p m → (h : ℕ) (x : Placed) → get m h ≡ Some x → (moved : Option ℕ) × Moves p m x moved
some_move p ok m s h x there = elim (cases_eq (objects_on p m (class_at p x) (page_of p x.place)) (slots_of p (class_at p x))) [
  | inr ne ↦ (None, λ must. ne must.full)
  | inl full ↦ elim (cases_lt 1 (slots_of p (class_at p x))) [
    | inr single ↦ (None, λ must. (let several = must.several in omega arith))
    | inl several ↦ elim (cases_eq (not_full_pages p m (class_at p x)) (bound_of p (class_at p x))) [
      | inr ne ↦ (None, λ must. ne must.many)
      | inl many ↦ (
          let class = (s.slots h x there).class in
          let some = ok.some (class_at p x) class in
          let at = open_page p m (class_at p x) (omega arith) in
          let on = on_page p m (class_at p x) at.0 (at.1).some in
          let less : objects_on p m (class_at p x) (page_of p (on.1).place) < slots_of p (class_at p x) = (let e = on.3 in let l = (at.1).less in rw e l) in
          (Some on.0, (record { full = full; several = several; many = many }, (on.1, on.2, record { class = on.4; not_full = less }))))
    ]
  ]
]
