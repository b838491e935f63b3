-- A free (`RemovesObject`) keeps the arrangement sound, with a move of another object and without one (law `a_free_keeps_soundness`). An object that moves
-- isn't the freed one. Removing a number that is inserted afterwards changes nothing.
use Rattle.std.proofs.Common.{◌≡◌, ◌≢◌, ℕ, ◌<◌, Option, Some, None, arith, sym, ◌∙◌, inl, inr, ap, subst}
use Rattle.std.proofs.lemmas.Bool.{cases_eq, cases_lt}
use Rattle.std.specs.FinMap.{get, insert, remove}
use Rattle.cf_base.proofs.Maps.{equal_maps, get_inserted, get_insert_other, get_removed, get_remove_other}
use Rattle.page_model.specs.Held.{Held, Placed}
use Rattle.page_model.specs.Paging.{Paging, IsPaging, slots_of, bound_of, page_of}
use Rattle.page_model.specs.Arrangement.{class_at, objects_on, not_full_pages, IsSound}
use Rattle.page_model.specs.Steps.{CallResult, MustMove, MayFill, Moves, without, RemovesObject}
use Rattle.page_model.proofs.Freeing.{MayLeave, sound_freed, sound_exchanged}
use Rattle.page_model.proofs.PageCounts.{within}

-- removing q first changes nothing if q is inserted afterwards
pub removed_twice : (m : Held) (h q : ℕ) (x : Placed) → insert (remove (remove m q) h) q x ≡ insert (remove m h) q x
removed_twice m h q x = equal_maps _ _ (λ r. elim (cases_eq r q) [
  | inl is ↦ rw is (get_inserted _ q x ∙ sym (get_inserted _ q x))
  | inr ne ↦ get_insert_other _ q x r ne ∙ elim (cases_eq r h) [
    | inl is ↦ rw is (get_removed (remove m q) h ∙ sym (get_removed m h))
    | inr ne' ↦ get_remove_other (remove m q) h r ne' ∙ get_remove_other m q r ne ∙ sym (get_remove_other m h r ne')
  ] ∙ sym (get_insert_other _ q x r ne)
])

module _ (p : Paging) (ok : IsPaging p) (m : Held) (s : IsSound p m) (h : ℕ) (x : Placed) (some : get m h ≡ Some x) where
  -- if no move is due, the object may be removed without one
  pub may_leave : (MustMove p m x → ⊥) → MayLeave p m h x some
  unfolding MayLeave
  may_leave never =
      let c = (s.slots h x some).class in
      let most = within p ok (class_at p x) c m s (page_of p x.place) in
      let few = s.few_not_full (class_at p x) c in
      elim (cases_lt (objects_on p m (class_at p x) (page_of p x.place)) (slots_of p (class_at p x))) [
        | inl less ↦ inl less
        | inr full ↦ inr (elim (cases_lt 1 (slots_of p (class_at p x))) [
          | inl several ↦ inr (elim (cases_lt (not_full_pages p m (class_at p x)) (bound_of p (class_at p x))) [
            | inl room ↦ room
            | inr many ↦ absurd (never (record { full = omega arith; several = several; many = omega arith }))
          ])
          | inr single ↦ inl single
        ])
      ]

  module _ (q : ℕ) (y : Placed) (there : get m q ≡ Some y) (must : MustMove p m x) (may : MayFill p m x y) where
    -- the object that moves isn't the freed one
    pub mover_is_other : q ≢ h
    mover_is_other is =
        let e : Some y ≡ Some x = sym there ∙ ap (get m) is ∙ some in
        let same : y ≡ x = cc in
        let less : objects_on p m (class_at p x) (page_of p x.place) < slots_of p (class_at p x) = rw same at may.not_full in
        omega (arith, must.full)

    pub sound_moved : IsSound p (insert (remove m h) q (record { place = x.place; bytes = y.bytes }))
    unfolding MayLeave
    sound_moved =
        let less : objects_on p m (class_at p y) (page_of p y.place) < slots_of p (class_at p y) = rw may.class may.not_full in
        let first = sound_freed p m q y there s (inl less) in
        let ne : h ≢ q = λ e. mover_is_other (sym e) in
        let there' : get (remove m q) h ≡ Some x = get_remove_other m q h ne ∙ some in
        let gone : get (remove (remove m q) h) q ≡ None = get_remove_other (remove m q) h q mover_is_other ∙ get_removed m q in
        let second = sound_exchanged p (remove m q) h x there' q y.bytes gone may.class first in
        subst (IsSound p) (removed_twice m h q (record { place = x.place; bytes = y.bytes })) second

  -- the arrangement after a free is sound
  pub sound_without : (moved : Option ℕ) → Moves p m x moved → IsSound p (without m h x.place moved)
  sound_without None never = sound_freed p m h x some s (may_leave never)
  sound_without (Some q) (must, (y, there, may)) = rw there (sound_moved q y there must may)

-- a free (`RemovesObject`) keeps the arrangement sound
pub sound_free : (p : Paging) (old : Held) (h : ℕ) (after : CallResult) → IsPaging p → IsSound p old → RemovesObject p old h after → IsSound p after.held
sound_free p old h after ok s step = (let e = step.left in rw e (sound_without p ok old s h step.freed step.found after.moved step.moves))
