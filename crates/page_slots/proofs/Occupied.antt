-- What follows if the objects are at the used slots of the tables (`Occupies`): the pages with objects of a class, those without objects, and the address of
-- each object. They still are if an object gets another number, or other bytes of its class.
use Rattle.std.proofs.Common.{◌≡◌, ℕ, true, ◌<◌, List, Some, None, arith, refl, sym, ◌∙◌, ap, subst, inl, inr}
use Rattle.std.proofs.lemmas.Bool.{cases_eq, cases_lt}
use Rattle.std.proofs.lemmas.Option.{slice_get_within}
use Rattle.std.specs.FinMap.{get, insert, remove}
use Rattle.cf_base.proofs.Maps.{get_inserted, some_inserted, get_remove_other, some_removed}
use Rattle.class_lists.specs.declared.Which.TheVariants.{Full, NotFull}
use Rattle.page_model.specs.Held.{Held, Placed}
use Rattle.page_model.specs.Paging.{Paging, IsPaging, classes, page_of, address_of}
use Rattle.page_model.specs.Arrangement.{class_at, objects_on, count_on, IsSlotAt, IsSound}
use Rattle.page_model.proofs.CallerLemmas.{address_is_slot, slot_is_address, on_page, standing, objects_on-exchanged}
use Rattle.cf_base.proofs.Values.{still}
use Rattle.page_slots.specs.Tables.{Tables, IsOf, IsUsed, IsFreePage, slot_at, slots_on}
use Rattle.page_slots.specs.Occupying.{Occupies, FitPagesShared, class_table}
use Rattle.page_slots.proofs.Pages.{listed_page, listed_class, of_list}

pub used_along : (t : Tables) (c d g page s slot : ℕ) → c ≡ d → g ≡ page → s ≡ slot → IsUsed t c g s → IsUsed t d page slot
used_along t c d g page s slot a b e u =
    subst (λ s. IsUsed t d page s) e (subst (λ g. IsUsed t d g s) b (subst (λ c. IsUsed t c g s) a u))

-- a free page is of no class
pub free_of_none : (t : Tables) (c page : ℕ) → IsFreePage t page → IsOf t c page → ⊥
free_of_none t c page f (inl h) = f.unlisted c Full h
free_of_none t c page f (inr h) = f.unlisted c NotFull h

module _ (p : Paging) (ok : IsPaging p) (t : Tables) (serve : FitPagesShared p t) where
  -- a page of a class is one of the pages
  pub of_below : (c page : ℕ) → IsOf t c page → (c < classes p) × (page < p.pages)
  of_below c page of =
      let w = of_list (class_table p) t serve.tables c page of in
      let lt = listed_page (class_table p) t serve.tables c page w.0 w.1.listed in
      let e = serve.pages in
      (listed_class (class_table p) t serve.tables c page w.0 w.1.listed, omega arith)

  -- a used slot has an address
  pub used_address : (c page slot : ℕ) → IsUsed t c page slot
      → IsSlotAt p c (address_of p c page slot) × (page_of p (address_of p c page slot) ≡ page) × (slot_at (class_table p) c (address_of p c page slot) ≡ slot)
  used_address c page slot u =
      let b = of_below c page u.of in
      let w = of_list (class_table p) t serve.tables c page u.of in
      let lt = slice_get_within (slots_on t page) slot true u.used in
      let e = w.1.slots in
      address_is_slot p ok c b.0 page slot b.1 (omega arith)

  module _ (m : Held) (o : Occupies p m t) where
    -- a page with an object of a class is of that class
    pub counts_of : (c page : ℕ) → 0 < objects_on p m c page → IsOf t c page
    counts_of c page some =
        let f = on_page p m c page some in
        let u = o.stands f.0 f.1 f.2 in
        (used_along t (class_at p f.1) c (page_of p f.1.place) page _ _ f.4 f.3 refl u).of

    pub none_counts : (c page : ℕ) → ¬ IsOf t c page → objects_on p m c page ≡ 0
    none_counts c page none = elim (cases_lt 0 (objects_on p m c page)) [
      | inl some ↦ absurd (none (counts_of c page some))
      | inr le ↦ omega arith
    ]

    -- no object is on a free page
    pub free_bare : (page : ℕ) → IsFreePage t page → count_on p m page ≡ 0
    free_bare page f = elim (cases_lt 0 (count_on p m page)) [
      | inl some ↦ absurd (
          let q = standing p m page some in
          let u = o.stands q.0 q.1 q.2 in
          free_of_none t (class_at p q.1) page f (used_along t (class_at p q.1) (class_at p q.1) (page_of p q.1.place) page _ _ refl q.3 refl u).of)
      | inr le ↦ omega arith
    ]

    -- the object at a used slot
    pub stands_at : (c page slot : ℕ) → IsUsed t c page slot
        → (h : ℕ) × (x : Placed) × (get m h ≡ Some x) × (class_at p x ≡ c) × (x.place ≡ address_of p c page slot) × (page_of p x.place ≡ page)
        × (slot_at (class_table p) c x.place ≡ slot)
    stands_at c page slot u =
        let f = o.filled c page slot u in
        let a = used_address c page slot u in
        (f.0, f.1, f.2, f.3, f.4, ap (page_of p) f.4 ∙ a.1, ap (slot_at (class_table p) c) f.4 ∙ a.2)

    -- an object's address is the address of its slot
    pub place_is : (s : IsSound p m) → (h : ℕ) (x : Placed) → get m h ≡ Some x → (c page slot : ℕ) → class_at p x ≡ c → page_of p x.place ≡ page
        → slot_at (class_table p) c x.place ≡ slot
        → x.place ≡ address_of p c page slot
    place_is s h x f c page slot is_c is_page is_slot =
        let at : IsSlotAt p c x.place = subst (λ c. IsSlotAt p c x.place) is_c (s.slots h x f) in
        let e = (slot_is_address p ok c at.class x.place at).0 in
        e ∙ ap (λ g. address_of p c g (slot_at (class_table p) c x.place)) is_page ∙ ap (address_of p c page) is_slot

-- an object under another number, of the same class at the same address, with other bytes or the same
module _ (p : Paging) (m : Held) (t : Tables) (o : Occupies p m t) (h : ℕ) (x : Placed) (some : get m h ≡ Some x)
    (q : ℕ) (bytes : List ℕ) (none : get (remove m h) q ≡ None) (same : class_at p (record { place = x.place; bytes = bytes }) ≡ class_at p x) where
  pub occupied_renamed : Occupies p (insert (remove m h) q (record { place = x.place; bytes = bytes })) t
  occupied_renamed = record {
    stands = λ r y e. elim (some_inserted (remove m h) q (record { place = x.place; bytes = bytes }) r y e) [
      | inl (_, is) ↦ subst (λ y. IsUsed t (class_at p y) (page_of p y.place) (slot_at (class_table p) (class_at p y) y.place)) is
          (subst (λ c. IsUsed t c (page_of p x.place) (slot_at (class_table p) c x.place)) (sym same) (o.stands h x some))
      | inr (_, was) ↦ o.stands r y (some_removed m h r y was).1
    ];
    filled = λ d g s u.
        let f = o.filled d g s u in
        elim (cases_eq f.0 h) [
          | inl is ↦ (
              let e : Some f.1 ≡ Some x = sym f.2 ∙ ap (get m) is ∙ some in
              let y_is : f.1 ≡ x = cc in (
                q,
                record { place = x.place; bytes = bytes },
                get_inserted (remove m h) q (record { place = x.place; bytes = bytes }),
                same
                    ∙ sym (ap (class_at p) y_is) ∙ f.3,
                sym (ap (λ (y : Placed). y.place) y_is) ∙ f.4,
              ))
          | inr ne ↦ (f.0, f.1, (still (remove m h) q (record { place = x.place; bytes = bytes }) none f.0 f.1 (get_remove_other m h f.0 ne ∙ f.2)).1, f.3, f.4)
        ];
    counted = λ d g of. objects_on-exchanged p m h x some q bytes none same d g ∙ o.counted d g of;
  }
