-- For `start_clearing` and `fill`: the tables of used slots stay right when the placeholder in the job's slot replaces an object of its class, or exchanges
-- addresses with one.
use Rattle.std.proofs.Common.{◌≡◌, ◌≢◌, ℕ, List, Some, None, sym, ◌∙◌, ap, subst, inl, inr}
use Rattle.std.specs.Prelude.{◌⊎◌}
use Rattle.std.proofs.lemmas.Bool.{cases_eq}
use Rattle.std.specs.FinMap.{get, insert, remove}
use Rattle.cf_base.proofs.Maps.{get_inserted, get_insert_other, get_removed, get_remove_other, some_inserted, remove_inserted}
use Rattle.page_model.specs.Arrangement.{class_at, objects_on}
use Rattle.page_model.specs.Held.{Held, Placed}
use Rattle.page_model.specs.Paging.{Paging, page_of}
use Rattle.page_slots.specs.Tables.{Tables, IsUsed, slot_at}
use Rattle.page_slots.specs.Occupying.{Occupies, class_table}
use Rattle.page_slots.proofs.CallerLemmas.{renumbered_occupied, rewritten_occupied}

-- the tables still hold the used slots if an object is replaced by a placeholder of its class at its address
pub stood_in : (p : Paging) (m : Held) (t : Tables) → Occupies p m t → (q : ℕ) (x : Placed) → get m q ≡ Some x → (P : ℕ) → get m P ≡ None
    → (bytes : List ℕ) → class_at p (record { place = x.place; bytes = bytes }) ≡ class_at p x
    → Occupies p (insert (remove m q) P (record { place = x.place; bytes = bytes })) t
stood_in p m t o q x there P none bytes class =
    let once = rewritten_occupied o q there bytes class in
    let here = get_inserted m q (record { place = x.place; bytes = bytes }) in
    let gone : remove (insert m q (record { place = x.place; bytes = bytes })) q ≡ remove m q = remove_inserted m q (record { place = x.place; bytes = bytes }) in
    let free : get (remove (insert m q (record { place = x.place; bytes = bytes })) q) P ≡ None = ap (λ n. get n P) gone ∙ without (cases_eq P q) in
    subst (λ n. Occupies p (insert n P (record { place = x.place; bytes = bytes })) t) gone (renumbered_occupied once q here P free)
  where
    without : (P ≡ q) ⊎ (P ≢ q) → get (remove m q) P ≡ None
    without (inl is) = ap (get (remove m q)) is ∙ get_removed m q
    without (inr ne) = get_remove_other m q P ne ∙ none

-- The tables still hold the used slots if an object and the placeholder of its class exchange addresses.
module _ (p : Paging) (m : Held) (t : Tables) (P : ℕ) (f : Placed) (o : Occupies p (insert m P f) t) (q : ℕ) (y : Placed) (there : get m q ≡ Some y)
    (ne : q ≢ P)
    (class : class_at p y ≡ class_at p f) where
  abbrev z : Placed
  z = record { place = f.place; bytes = y.bytes }

  abbrev g : Placed
  g = record { place = y.place; bytes = f.bytes }

  was_there : get (insert m P f) q ≡ Some y
  was_there = get_insert_other m P f q ne ∙ there

  pub changed_occupied : ((c page : ℕ) → objects_on p (insert (insert m q (record { place = f.place; bytes = y.bytes })) P
      (record { place = y.place; bytes = f.bytes })) c page ≡ objects_on p (insert m P f) c page)
      → Occupies p (insert (insert m q (record { place = f.place; bytes = y.bytes })) P (record { place = y.place; bytes = f.bytes })) t
  changed_occupied counts = record {
    stands = λ r x e. elim (some_inserted (insert m q z) P g r x e) [
      | inl (_, is) ↦ subst (λ (x : Placed). IsUsed t (class_at p x) (page_of p x.place) (slot_at (class_table p) (class_at p x) x.place)) is
          (subst (λ c. IsUsed t c (page_of p y.place) (slot_at (class_table p) c y.place)) class (o.stands q y was_there))
      | inr (nP, was) ↦ elim (some_inserted m q z r x was) [
        | inl (_, is) ↦ subst (λ (x : Placed). IsUsed t (class_at p x) (page_of p x.place) (slot_at (class_table p) (class_at p x) x.place)) is
            (subst (λ c. IsUsed t c (page_of p f.place) (slot_at (class_table p) c f.place)) (sym class) (o.stands P f (get_inserted m P f)))
        | inr (_, before) ↦ o.stands r x (get_insert_other m P f r nP ∙ before)
      ]
    ];
    filled = λ d page slot u.
        let w = o.filled d page slot u in
        elim (cases_eq w.0 P) [
          | inl is ↦ (
              let e : Some f ≡ Some w.1 = sym (get_inserted m P f) ∙ ap (get (insert m P f)) (sym is) ∙ w.2 in
              let f_is : f ≡ w.1 = cc in (
                q,
                z,
                get_insert_other (insert m q z) P g q ne ∙ get_inserted m q z,
                class ∙ ap (class_at p) f_is ∙ w.3,
                ap (λ (x : Placed). x.place) f_is ∙ w.4,
              ))
          | inr nP ↦ elim (cases_eq w.0 q) [
            | inl is ↦ (
                let e : Some y ≡ Some w.1 = sym was_there ∙ ap (get (insert m P f)) (sym is) ∙ w.2 in
                let y_is : y ≡ w.1 = cc in (
                  P,
                  g,
                  get_inserted (insert m q z) P g,
                  sym class ∙ ap (class_at p) y_is ∙ w.3,
                  ap (λ (x : Placed). x.place) y_is ∙ w.4,
                ))
            | inr nq ↦ (
              w.0,
              w.1,
              get_insert_other (insert m q z) P g w.0 nP ∙ get_insert_other m q z w.0 nq ∙ sym (get_insert_other m P f w.0 nP) ∙ w.2,
              w.3,
              w.4,
            )
          ]
        ];
    counted = λ d page of. counts d page ∙ o.counted d page of;
  }
