-- For callers that free a slot: after its object is removed, the other objects are at the used slots of the tables (`Occupies`).
use Rattle.std.proofs.Common.{◌≡◌, ◌≢◌, ℕ, true, false, ◌+◌, ◌<◌, length, Some, arith, refl, sym, ◌∙◌, ap, subst, inl, inr}
use Rattle.std.specs.Prelude.{slice_get}
use Rattle.std.proofs.lemmas.Bool.{cases_eq}
use Rattle.std.proofs.lemmas.Option.{slice_get_within}
use Rattle.std.specs.FinMap.{get, remove}
use Rattle.cf_base.proofs.Maps.{some_removed, get_remove_other}
use Rattle.slot_bitmap.proofs.CallerLemmas.{count-unset}
use Rattle.page_model.specs.Held.{Held, Placed}
use Rattle.page_model.specs.Paging.{Paging, IsPaging, page_of}
use Rattle.page_model.specs.Arrangement.{class_at, objects_on, IsSound}
use Rattle.page_model.proofs.CallerLemmas.{objects_on-away, objects_on-left}
use Rattle.page_slots.specs.Tables.{Tables, IsOf, IsUsed, slot_at, slots_on, used_in}
use Rattle.page_slots.specs.Occupying.{Occupies, FitPagesShared, class_table}
use Rattle.page_slots.proofs.Bits.{set_here, set_there, used_some, not_both}
use Rattle.page_slots.proofs.Pages.{same_of, was_of, one_class}
use Rattle.page_slots.proofs.TablesAfterFree.{Loses}
use Rattle.page_slots.proofs.Occupied.{used_along, free_of_none, stands_at, place_is}

module _ (p : Paging) (ok : IsPaging p) (m : Held) (s : IsSound p m) (old new : Tables) (serve : FitPagesShared p old) (o : Occupies p m old) (c page slot : ℕ)
    (l : Loses (class_table p) old new c page slot)
    (h : ℕ) (x : Placed) (some : get m h ≡ Some x) (is_c : class_at p x ≡ c) (on : page_of p x.place ≡ page)
    (at : slot_at (class_table p) c x.place ≡ slot) where
  inside : slot < length (slots_on old page)
  inside = slice_get_within (slots_on old page) slot true l.used

  gone : slice_get (slots_on new page) slot ≡ Some false
  gone = ap (λ xs. slice_get xs slot) l.after ∙ set_here (slots_on old page) slot false inside

  others : (i : ℕ) → i ≢ slot → slice_get (slots_on new page) i ≡ slice_get (slots_on old page) i
  others i ne = ap (λ xs. slice_get xs i) l.after ∙ set_there (slots_on old page) slot i false ne

  -- the page is now of class c at most
  now_class : (d : ℕ) → IsOf new d page → (d ≡ c) × IsOf new c page
  now_class d of = elim l.now [
    | inl there ↦ (one_class (class_table p) new l.kept d c page of there, there)
    | inr (f, _) ↦ absurd (free_of_none new d page f of)
  ]

  -- a slot that is used was used, and isn't the freed one
  was_used : (d k i : ℕ) → IsUsed new d k i → IsUsed old d k i
  was_used d k i u = elim (cases_eq k page) [
    | inl is ↦ (
        let v : IsUsed new d page i = used_along new d d k page i i refl is refl u in
        let is_d = now_class d v.of in
        let ne : i ≢ slot = (λ e. not_both true refl (sym v.used ∙ ap (slice_get (slots_on new page)) e ∙ gone)) in
        used_along old c d page k i i (sym is_d.0) (sym is) refl (record { of = l.of; used = sym (others i ne) ∙ v.used }))
    | inr ne ↦ record { of = was_of old new k d (l.others k ne) u.of; used = sym (ap (λ xs. slice_get xs i) (l.others k ne).slots) ∙ u.used }
  ]

  not_freed : (i : ℕ) (d : ℕ) → IsUsed new d page i → i ≢ slot
  not_freed i d u e = not_both true refl (sym u.used ∙ ap (slice_get (slots_on new page)) e ∙ gone)

  -- every other used slot stays used
  stays_used : (d k i : ℕ) → IsUsed old d k i → (k ≡ page → i ≢ slot) → IsUsed new d k i
  stays_used d k i u other = elim (cases_eq k page) [
    | inl is ↦ (
        let v : IsUsed old d page i = used_along old d d k page i i refl is refl u in
        let is_d : d ≡ c = one_class (class_table p) old serve.tables d c page v.of l.of in
        let used : slice_get (slots_on new page) i ≡ Some true = others i (other is) ∙ v.used in
        let of : IsOf new c page = elim l.now [
          | inl there ↦ there
          | inr (_, zero') ↦ absurd (let n = used_some (slots_on new page) i used in omega arith)
        ] in
        used_along new c d page k i i (sym is_d) (sym is) refl (record { of = of; used = used }))
    | inr ne ↦ record { of = same_of old new k d (l.others k ne) u.of; used = ap (λ xs. slice_get xs i) (l.others k ne).slots ∙ u.used }
  ]

  -- no other object is at the slot
  apart : (q : ℕ) (y : Placed) → get m q ≡ Some y → q ≢ h → page_of p y.place ≡ page → slot_at (class_table p) (class_at p y) y.place ≢ slot
  apart q y f ne on_y at_y =
      let u = o.stands q y f in
      let of : IsOf old (class_at p y) page = (used_along old (class_at p y) (class_at p y) (page_of p y.place) page _ _ refl on_y refl u).of in
      let is_y : class_at p y ≡ c = one_class (class_table p) old serve.tables (class_at p y) c page of l.of in
      let at_c : slot_at (class_table p) c y.place ≡ slot = sym (ap (λ d. slot_at (class_table p) d y.place) is_y) ∙ at_y in
      let a = place_is p ok old serve m o s q y f c page slot is_y on_y at_c in
      let b = place_is p ok old serve m o s h x some c page slot is_c on at in
      s.own_place h x q y some f ne (b ∙ sym a)

  pub occupied_lost : Occupies p (remove m h) new
  occupied_lost = record {
    stands = λ q y e.
        let w = some_removed m h q y e in
        stays_used _ _ _ (o.stands q y w.1) (λ on_y. apart q y w.1 w.0 on_y);
    filled = λ d k i u.
        let f = stands_at p ok old serve m o d k i (was_used d k i u) in
        let ne : f.0 ≢ h = (λ e. (
        let same : Some f.1 ≡ Some x = sym f.2 ∙ ap (get m) e ∙ some in
        let y_is : f.1 ≡ x = cc in
        let is : k ≡ page = sym f.5 ∙ ap (λ (y : Placed). page_of p y.place) y_is ∙ on in
        let is_d : d ≡ c = sym f.3 ∙ ap (class_at p) y_is ∙ is_c in
        let i_is : i ≡ slot = sym f.6 ∙ ap (λ (y : Placed). slot_at (class_table p) d y.place) y_is ∙ ap (λ d. slot_at (class_table p) d x.place) is_d ∙ at in
        not_freed i d (used_along new d d k page i i refl is refl u) i_is)) in
        (f.0, f.1, get_remove_other m h f.0 ne ∙ f.2, f.3, f.4);
    counted = λ d k of. elim (cases_eq k page) [
      | inl is ↦ (
          let of' : IsOf new d page = subst (λ k. IsOf new d k) is of in
          let is_d = (now_class d of').0 in
          let less : objects_on p (remove m h) c page + 1 ≡ objects_on p m c page =
          subst (λ g. objects_on p (remove m h) c g + 1 ≡ objects_on p m c g) on (objects_on-left p m h x some c is_c) in
          let before = o.counted c page l.of in
          let after = ap (λ xs. used_in xs + 1) l.after ∙ count-unset (slots_on old page) slot l.used in
          let all : objects_on p (remove m h) c page ≡ used_in (slots_on new page) = omega arith in
          ap (λ d. objects_on p (remove m h) d k) is_d ∙ ap (objects_on p (remove m h) c) is ∙ all ∙ sym (ap (λ k. used_in (slots_on new k)) is))
      | inr ne ↦ objects_on-away p m h x some d k (inl (λ e. ne (sym e ∙ on))) ∙ o.counted d k (was_of old new k d (l.others k ne) of)
          ∙ sym (ap used_in (l.others k ne).slots)
    ];
  }
