-- For callers that take a slot: its address; no object was there, and with a new object in it all objects are at the used slots of the tables (`Occupies`).
use Rattle.std.proofs.Common.{◌≡◌, ◌≢◌, ℕ, true, false, ◌<◌, length, Some, None, arith, refl, sym, ◌∙◌, ap, subst, inl, inr}
use Rattle.std.specs.Prelude.{◌⊎◌, slice_get}
use Rattle.std.proofs.lemmas.Bool.{cases_eq}
use Rattle.std.proofs.lemmas.Option.{slice_get_within}
use Rattle.std.specs.FinMap.{get, insert}
use Rattle.cf_base.proofs.Maps.{get_inserted, some_inserted}
use Rattle.cf_base.proofs.Ranges.{one}
use Rattle.slot_bitmap.proofs.CallerLemmas.{count-set, count-replicate}
use Rattle.page_model.specs.Held.{Held, Placed}
use Rattle.page_model.specs.Paging.{Paging, IsPaging, page_of, address_of}
use Rattle.page_model.specs.Arrangement.{class_at, is_on, objects_on, IsSlotAt}
use Rattle.page_model.proofs.CallerLemmas.{address_is_slot, on_yes, objects_on-inserted, objects_on-elsewhere}
use Rattle.cf_base.proofs.Values.{still}
use Rattle.page_slots.specs.Tables.{Tables, IsOf, IsUsed, slot_at, slots_in, slots_on, used_in}
use Rattle.page_slots.specs.Occupying.{Occupies, FitPagesShared, class_table}
use Rattle.page_slots.proofs.Bits.{set_here, set_there, none_used, not_both}
use Rattle.page_slots.proofs.Pages.{same_of, was_of, one_class}
use Rattle.page_slots.proofs.TablesAfterTake.{Gains}
use Rattle.page_slots.proofs.Occupied.{used_along, free_of_none, none_counts}

module _ (p : Paging) (ok : IsPaging p) (m : Held) (old new : Tables) (serve : FitPagesShared p old) (o : Occupies p m old) (c page slot : ℕ)
    (g : Gains (class_table p) old new c page slot) where
  place : ℕ
  place = address_of p c page slot

  -- the slot's address
  pub gained_address : IsSlotAt p c (address_of p c page slot) × (page_of p (address_of p c page slot) ≡ page)
      × (slot_at (class_table p) c (address_of p c page slot) ≡ slot)
  gained_address = address_is_slot p ok c g.class page slot (let l = g.within in let e = serve.pages in omega arith) g.few

  inside : slot < length g.before
  inside = slice_get_within g.before slot false g.free

  -- the page's class before, if it had one, is c
  was_class : (d : ℕ) → IsOf old d page → d ≡ c
  was_class d of = elim g.was [
    | inl (there, _) ↦ one_class (class_table p) old serve.tables d c page of (inr there)
    | inr (f, _, _) ↦ absurd (free_of_none old d page f of)
  ]

  was_before : (d : ℕ) → IsOf old d page → g.before ≡ slots_on old page
  was_before d of = elim g.was [
    | inl (_, e) ↦ e
    | inr (f, _, _) ↦ absurd (free_of_none old d page f of)
  ]

  -- the slot was free
  pub gained_free : (d : ℕ) → IsUsed old d page slot → ⊥
  gained_free d u = not_both true (ap Some refl) (sym u.used ∙ sym (ap (λ xs. slice_get xs slot) (was_before d u.of)) ∙ g.free)

  pub gained_unused : (q : ℕ) (y : Placed) → get m q ≡ Some y → y.place ≢ address_of p c page slot
  gained_unused q y f is =
      let u = o.stands q y f in
      let a = gained_address in
      let on : page_of p y.place ≡ page = ap (page_of p) is ∙ a.1 in
      let of : IsOf old (class_at p y) page = (used_along old (class_at p y) (class_at p y) (page_of p y.place) page _ _ refl on refl u).of in
      let is_c = was_class (class_at p y) of in
      let at : slot_at (class_table p) (class_at p y) y.place ≡ slot = ap (λ d. slot_at (class_table p) d y.place) is_c
      ∙ ap (slot_at (class_table p) c) is ∙ a.2 in
      gained_free (class_at p y) (used_along old (class_at p y) (class_at p y) (page_of p y.place) page _ slot refl on at u)

  -- used slots stay used
  grows : (d h s : ℕ) → IsUsed old d h s → IsUsed new d h s
  grows d h s u = elim (cases_eq h page) [
    | inl is ↦ (
        let v : IsUsed old d page s = used_along old d d h page s s refl is refl u in
        let of : IsOf new d page = subst (λ c. IsOf new c page) (sym (was_class d v.of)) g.of in
        let ne : s ≢ slot = (λ e. gained_free d (used_along old d d page page s slot refl refl e v)) in
        let used : slice_get (slots_on new page) s ≡ Some true =
        ap (λ xs. slice_get xs s) g.after ∙ set_there g.before slot s true ne ∙ ap (λ xs. slice_get xs s) (was_before d v.of) ∙ v.used in
        used_along new d d page h s s refl (sym is) refl (record { of = of; used = used }))
    | inr ne ↦ record { of = same_of old new h d (g.others h ne) u.of; used = ap (λ xs. slice_get xs s) (g.others h ne).slots ∙ u.used }
  ]

  -- a slot that is used is the new one or was used
  shrinks : (d h s : ℕ) → IsUsed new d h s → ((d ≡ c) × (h ≡ page) × (s ≡ slot)) ⊎ IsUsed old d h s
  shrinks d h s u = elim (cases_eq h page) [
    | inl is ↦ (
        let v : IsUsed new d page s = used_along new d d h page s s refl is refl u in
        let is_c : d ≡ c = one_class (class_table p) new g.kept d c page v.of g.of in
        elim (cases_eq s slot) [
          | inl at ↦ inl (is_c, is, at)
          | inr ne ↦ inr (
              let used : slice_get g.before s ≡ Some true = sym (set_there g.before slot s true ne) ∙ sym (ap (λ xs. slice_get xs s) g.after) ∙ v.used in
              elim g.was [
                | inl (there, e) ↦ used_along old c d page h s s (sym is_c) (sym is) refl
                    (record { of = inr there; used = sym (ap (λ xs. slice_get xs s) e) ∙ used })
                | inr (_, _, e) ↦ absurd (none_used (slots_in (class_table p) c) s (sym (ap (λ xs. slice_get xs s) e) ∙ used))
              ])
        ])
    | inr ne ↦ inr (record { of = was_of old new h d (g.others h ne) u.of; used = sym (ap (λ xs. slice_get xs s) (g.others h ne).slots) ∙ u.used })
  ]

  -- the number of objects on the page before
  counted_before : objects_on p m c page ≡ used_in g.before
  counted_before = elim g.was [
    | inl (there, e) ↦ o.counted c page (inr there) ∙ sym (ap used_in e)
    | inr (f, _, e) ↦ none_counts p ok old serve m o c page (free_of_none old c page f) ∙ sym (ap used_in e ∙ count-replicate (slots_in (class_table p) c))
  ]

  module _ (h : ℕ) (x : Placed) (none : get m h ≡ None) (at : x.place ≡ address_of p c page slot) (is_c : class_at p x ≡ c) where
    on : page_of p x.place ≡ page
    on = ap (page_of p) at ∙ gained_address.1

    here : IsUsed new (class_at p x) (page_of p x.place) (slot_at (class_table p) (class_at p x) x.place)
    here =
        let slot_is : slot_at (class_table p) (class_at p x) x.place ≡ slot = ap (λ d. slot_at (class_table p) d x.place) is_c
        ∙ ap (slot_at (class_table p) c) at ∙ gained_address.2 in
        used_along new c (class_at p x) page (page_of p x.place) slot _ (sym is_c) (sym on) (sym slot_is)
        (record { of = g.of; used = ap (λ xs. slice_get xs slot) g.after ∙ set_here g.before slot true inside })

    pub occupied_gained : Occupies p (insert m h x) new
    occupied_gained = record {
      stands = λ q y e. elim (some_inserted m h x q y e) [
        | inl (_, is) ↦ subst (λ y. IsUsed new (class_at p y) (page_of p y.place) (slot_at (class_table p) (class_at p y) y.place)) is here
        | inr (_, was) ↦ grows _ _ _ (o.stands q y was)
      ];
      filled = λ d k s u. elim (shrinks d k s u) [
        | inl (a, b, e) ↦ (
          h,
          x,
          get_inserted m h x,
          is_c ∙ sym a,
          at
              ∙ sym (ap (λ d. address_of p d k s) a ∙ ap (λ k. address_of p c k s) b ∙ ap (address_of p c page) e),
        )
        | inr was ↦ (let f = o.filled d k s was in (f.0, f.1, (still m h x none f.0 f.1 f.2).1, f.3, f.4))
      ];
      counted = λ d k of. elim (cases_eq k page) [
        | inl is ↦ (
            let of' : IsOf new d page = subst (λ k. IsOf new d k) is of in
            let is_d : d ≡ c = one_class (class_table p) new g.kept d c page of' g.of in
            let more = objects_on-inserted p m h x none c page in
            let y : one (is_on p c page x) ≡ 1 = (let f = on_yes p c page x on is_c in rw f) in
            let before = counted_before in
            let after = ap used_in g.after ∙ count-set g.before slot g.free in
            let all : objects_on p (insert m h x) c page ≡ used_in (slots_on new page) = omega arith in
            ap (λ d. objects_on p (insert m h x) d k) is_d ∙ ap (objects_on p (insert m h x) c) is ∙ all ∙ sym (ap (λ k. used_in (slots_on new k)) is))
        | inr ne ↦ objects_on-elsewhere p m h x none d k (inl (λ e. ne (sym e ∙ on))) ∙ o.counted d k (was_of old new k d (g.others k ne) of)
            ∙ sym (ap used_in (g.others k ne).slots)
      ];
    }
