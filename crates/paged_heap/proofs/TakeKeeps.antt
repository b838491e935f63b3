-- For a resize to another class: taking a slot of one class leaves the pages, lists and step counts of another class unchanged.
use Rattle.std.proofs.Common.{◌≡◌, ◌≢◌, ℕ, ◌<◌, List, [], ◌∷◌, length, refl, sym, ◌∙◌, ap, subst, inl, inr}
use Rattle.std.specs.List.{Contains}
use Rattle.std.proofs.lemmas.Bool.{cases_eq}
use Rattle.cf_base.proofs.Members.{contains_head}
use Rattle.class_lists.specs.PageLists.{PageLists, pages_in}
use Rattle.class_lists.specs.declared.Which.{Which}
use Rattle.class_lists.specs.declared.Which.TheVariants.{NotFull}
use Rattle.page_model.specs.Order.{drop_steps, fill_steps}
use Rattle.size_classes.specs.Table.{ClassTable}
use Rattle.page_slots.specs.Release.{drop_slot_steps, fill_slot_steps}
use Rattle.page_slots.specs.Tables.{AreTables, IsOf, Tables, slots_in, slots_on, used_in}
use Rattle.page_slots.specs.Take.{TakesAt}
use Rattle.page_slots.proofs.CallerLemmas.{free_of_none}
use Rattle.page_slots.proofs.CallerLemmas.{one_class}
use Rattle.page_slots.proofs.CallerLemmas.{Gains, taken_gains}

module _ (k : ClassTable) (old new : Tables) (a : AreTables k old) (kept : AreTables k new) (c place : ℕ) (class : c < length k.sizes)
    (t : TakesAt k old c place new) (d : ℕ) (ne : d ≢ c) where
  gains : Gains k old new c t.page t.slot
  gains = taken_gains k old a c class place new t kept.lists kept.pool

  other : (page : ℕ) → IsOf old d page → page ≢ t.page
  other page of e =
      let there : IsOf old d t.page = subst (IsOf old d) e of in
      elim gains.was [
        | inl (listed, _) ↦ ne (one_class k old a d c t.page there (inr listed))
        | inr (free, _, _) ↦ free_of_none old d t.page free there
      ]

  -- the used slots of the other class's pages are unchanged
  pub slots_keep : (page : ℕ) → IsOf old d page → slots_on new page ≡ slots_on old page
  slots_keep page of = (gains.others page (other page of)).slots

  -- the page lists of the other class are unchanged
  pub lists_keep : (which : Which) → pages_in new.lists d which ≡ pages_in old.lists d which
  lists_keep which = elim t.taken [
    | inl on ↦ elim (cases_eq (used_in (slots_on new t.page)) (length (slots_on new t.page))) [
      | inl is ↦ (let f = on.filled is in f.joins.others d which (inl ne) ∙ f.leaves.others d which (inl ne))
      | inr still ↦ ap (λ (l : PageLists). pages_in l d which) (on.not_filled still)
    ]
    | inr (_, on) ↦ elim (cases_eq (slots_in k c) 1) [
      | inl is ↦ (let f = on.filled is in f.others d which (inl ne))
      | inr several ↦ (let f = on.not_filled several in f.others d which (inl ne))
    ]
  ]

  -- the steps of freeing or filling a slot of the other class are unchanged
  pub drop_keeps : (page : ℕ) → IsOf old d page → drop_slot_steps new page ≡ drop_slot_steps old page
  drop_keeps page of = ap (λ slots. drop_steps (used_in slots) (length slots)) (slots_keep page of)

  pub fill_keeps : fill_slot_steps new d ≡ fill_slot_steps old d
  fill_keeps = go (pages_in old.lists d NotFull) refl
    where
      go : (pages : List ℕ) → pages_in old.lists d NotFull ≡ pages → fill_slot_steps new d ≡ fill_slot_steps old d
      go [] e = rw (fill_slot_steps, lists_keep NotFull ∙ e, e) refl
      go (page ∷ rest) e =
          let there : Contains (pages_in old.lists d NotFull) page = subst (λ (xs : List ℕ). Contains xs page) (sym e) (contains_head page rest) in
          let was : fill_slot_steps old d ≡ fill_steps (used_in (slots_on old page)) = rw (fill_slot_steps, e) refl in
          let now : fill_slot_steps new d ≡ fill_steps (used_in (slots_on new page)) = rw (fill_slot_steps, lists_keep NotFull ∙ e) refl in
          now ∙ ap (λ slots. fill_steps (used_in slots)) (slots_keep page (inr there)) ∙ sym was
