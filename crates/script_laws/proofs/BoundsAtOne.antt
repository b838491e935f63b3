-- The lemma `stays_at_one`: if a script asks for no bound but 1, every bound is 1 at each command.
use Rattle.std.proofs.Common.{◌≡◌, ℕ, List, [], ◌∷◌, Option, Some, None, length, get_or, set, sym, ◌∙◌, ap, inl, inr, subst}
use Rattle.std.specs.Prelude.{⊤}
use Rattle.std.proofs.lemmas.Bool.{cases_eq, cases_lt}
use Rattle.std.proofs.lemmas.List.{get_or-set_same, get_or-set_other, set_past}
use Rattle.run_model.specs.Terms.{asks, bad, Bound, Command, EveryBoundIsOne, IsPaged, Item, Kind, Profile, starts}
use Rattle.page_model.proofs.CallerLemmas.{first_ones}
use Rattle.cf_model.specs.State.{layout_of}
use Rattle.cf_model.specs.Steps.{opening_bounds}
use Rattle.script_laws.specs.ById.{ById, begun, paging_by_id}
use Rattle.script_laws.specs.RepliesById.{after_by_id, bounds_with, class_bounded}
use Rattle.script_laws.specs.Transcripts.{AskForOne, AsksForOne, IsItemAtOne, StaysAtOne, after_at}

-- a bound that is 1 stays 1 if any bound becomes 1
set_to_one : (bounds : List ℕ) (c d : ℕ) → get_or bounds d 0 ≡ 1 → get_or (set bounds c 1) d 0 ≡ 1
set_to_one bounds c d one = elim (cases_eq d c) [
  | inl is ↦ elim (cases_lt c (length bounds)) [
    | inl lt ↦ rw is (get_or-set_same bounds c 1 0 lt)
    | inr past ↦ ap (λ l. get_or l d 0) (set_past bounds c 1 past) ∙ one
  ]
  | inr ne ↦ get_or-set_other bounds c d 1 0 ne ∙ one
]

with_one : (bounds : List ℕ) (c : Option ℕ) (d : ℕ) → get_or bounds d 0 ≡ 1 → get_or (bounds_with bounds c 1) d 0 ≡ 1
with_one bounds None d one = one
with_one bounds (Some c) d one = set_to_one bounds c d one

-- every bound is 1, if the run has begun
abbrev pub IsOne : Option ById → Type 0
IsOne None = ⊤
IsOne (Some t) = EveryBoundIsOne (paging_by_id t)

begun_at_one : (k : Kind) (p : Profile) → IsPaged k → p.k ≡ 1 → EveryBoundIsOne (paging_by_id (begun k p))
begun_at_one k p paged one = rw (paged, opening_bounds) (first_ones p (layout_of k) one)

command_at_one : (t : ById) (c : Command) → EveryBoundIsOne (paging_by_id t) → AsksForOne (asks c)
    → IsItemAtOne (Some t) (asks c) × EveryBoundIsOne (paging_by_id (after_by_id t c))
command_at_one t (Bound words k) ones one = (
  tt,
  λ d lt. subst (λ n. get_or (bounds_with t.bounds (class_bounded t words) n) d 0 ≡ 1) (sym one)
      (with_one t.bounds (class_bounded t words) d (ones d lt)),
)
command_at_one t _ ones one = (ones, ones)

module _ (kind : Kind) (paged : IsPaged kind) where
  item_at_one : (t : Option ById) (item : Item) → IsOne t → AsksForOne item → IsItemAtOne t item × IsOne (after_at kind t item)
  item_at_one None (starts p) ones one = (tt, begun_at_one kind p paged one)
  item_at_one (Some t) (starts p) ones one = (tt, begun_at_one kind p paged one)
  item_at_one None (asks c) ones one = (tt, tt)
  item_at_one (Some t) (asks c) ones one = command_at_one t c ones one
  item_at_one None (bad n) ones one = (tt, tt)
  item_at_one (Some t) (bad n) ones one = (tt, ones)

  -- if a script sets no other bound than 1, every bound stays 1
  pub stays_at_one : (items : List Item) (t : Option ById) → IsOne t → AskForOne items → StaysAtOne kind t items
  stays_at_one [] t ones asked = tt
  stays_at_one (item ∷ rest) t ones asked =
      let now = item_at_one t item ones asked.0 in
      (now.0, stays_at_one rest (after_at kind t item) now.1 asked.1)
