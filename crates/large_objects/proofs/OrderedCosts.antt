-- What a malloc and a free in order take if the slot is a page of its own: the malloc takes a free page, and the free empties the page and moves no object.
use Rattle.std.proofs.Common.{◌≡◌, ℕ, ◌+◌, ◌<◌, ◌≤◌, List, [], ◌∷◌, Option, Some, None, Ok, length, arith, sym, ◌∙◌, ap, refl, subst, inl, inr}
use Rattle.std.specs.List.{Contains}
use Rattle.std.proofs.lemmas.Bool.{cases_eq}
use Rattle.cf_base.proofs.Members.{contains_head, empty_or_not}
use Rattle.cf_base.proofs.Tests.{eq_no}
use Rattle.cf_base.specs.Classes.{need}
use Rattle.cf_base.specs.declared.results.Freed.{Freed}
use Rattle.cf_base.specs.declared.results.Handle.{Handle}
use Rattle.page_model.specs.Arrangement.{class_at, objects_on}
use Rattle.page_model.specs.Held.{Placed}
use Rattle.page_model.specs.Order.{IsOrderOf, Order, drop_steps, new_page_steps, not_full_in, open_steps, steps_to_drop, word_steps}
use Rattle.page_model.specs.Paging.{class_for, classes, page_of, slots_of}
use Rattle.page_model.specs.Steps.{Moves}
use Rattle.page_model.specs.WordSteps.{wipe_steps}
use Rattle.page_model.proofs.CallerLemmas.{class_fits}
use Rattle.cf_model.specs.ExactCosts.{free_cost, leaving_cost, malloc_cost}
use Rattle.cf_model.specs.State.{HeapState, paging_in}
use Rattle.cf_model.specs.Steps.{FreesObject, MovesIn, number_of, slot_in}
use Rattle.large_objects.specs.InnerCalls.{IsReadyInner}
use Rattle.large_objects.specs.LargeCosts.{page_free_steps, page_malloc_steps, slots_with}
use Rattle.large_objects.proofs.InnerSteps.{keeps_pages}

-- freeing the only slot of a page
drop_few : (used : ℕ) → drop_steps used 1 ≤ 10
drop_few used = elim (cases_eq used 1) [
  | inl is ↦ rw is (omega arith)
  | inr ne ↦ rw (eq_no used 1 ne) (omega arith)
]

module _ (s : HeapState) (ready : IsReadyInner s) (o : Order) (is : s.order ≡ Some o) where
  -- no page with one slot is partly full
  none_partly_full : (c : ℕ) → c < classes (paging_in s) → slots_of (paging_in s) c ≡ 1 → not_full_in o c ≡ []
  none_partly_full c below one = elim (empty_or_not (not_full_in o c)) [
    | inl none ↦ none
    | inr (page, rest, front) ↦ absurd (
        let lists : IsOrderOf (paging_in s) s.held s.profile.proxies o = rw is at (keeps_pages s ready).order in
        let (within, (some, less)) = (lists.not_full c page below).0 (subst (λ xs. Contains xs page) (sym front) (contains_head page rest)) in
        omega arith)
  ]

  pub own_page_malloc : (n : ℕ) (h : Handle) → need n ≤ s.profile.page_words → slots_with (paging_in s) n ≡ 1 → malloc_cost s o n (Ok h) ≡ page_malloc_steps s.kind
  own_page_malloc n h fits one =
      let c : ℕ = class_for (paging_in s) n in
      let none = none_partly_full c (class_fits (paging_in s) (keeps_pages s ready).paging n fits) one in
      ap (λ (pages : List ℕ). 3 + word_steps s.kind
      + (elim pages [ [] ↦ new_page_steps | page ∷ rest ↦ open_steps (objects_on (paging_in s) s.held c page) (slots_of (paging_in s) c) ])) none

  pub own_page_free : (h : ℕ) (freed : Freed) (t : HeapState) (step : FreesObject s h freed t) → slots_with (paging_in s) (length step.object.bytes) ≡ 1
      → free_cost s o h (Ok freed) ≤ page_free_steps s.kind freed.slot_words
  own_page_free h freed t step one =
      let x : Placed = step.object in
      let moves : Moves (paging_in s) s.held x (number_of freed.moved) = rw (ready.pages, MovesIn) at step.moves in
      let none = still x freed.moved moves one in
      let used : ℕ = objects_on (paging_in s) s.held (class_at (paging_in s) x) (page_of (paging_in s) x.place) in
      let drop : steps_to_drop (paging_in s) s.held (class_at (paging_in s) x) (page_of (paging_in s) x.place) ≤ 10 =
      subst (λ k. drop_steps used k ≤ 10) (sym one) (drop_few used) in
      let cost : free_cost s o h (Ok freed) ≡ 5 + word_steps s.kind + leaving_cost s o x None =
      ap (λ (m : Option Placed). elim m [ None ↦ 0 | Some y ↦ 5 + word_steps s.kind + leaving_cost s o y freed.moved ]) step.found
      ∙ ap (λ (m : Option Handle). 5 + word_steps s.kind + leaving_cost s o x m) none in
      let slot = ap (wipe_steps s.kind) (rw (ready.pages, slot_in) at step.slot) in
      omega arith
    where
      still : (x : Placed) (moved : Option Handle) → Moves (paging_in s) s.held x (number_of moved) → slots_with (paging_in s) (length x.bytes) ≡ 1 → moved ≡ None
      still x None moves one = refl
      still x (Some q) (must, fill) one = absurd (let several = must.several in omega arith)
