-- For all proofs about tasks on shared pages: the objects of one task (`objects_of_task`) found by number in the map that has all tasks' objects by key, and
-- how a change of one object in that map changes each task's.
use Rattle.std.proofs.Common.{◌≡◌, ◌≢◌, ℕ, true, false, cond, ◌<◌, ◌≤◌, List, [], ◌∷◌, Some, None, map, arith, ap, sym, ◌∙◌, refl, inl, inr}
use Rattle.std.specs.Prelude.{filter, nat_eq}
use Rattle.std.proofs.lemmas.Bool.{cases_eq, cases_lt}
use Rattle.std.specs.Ordering.{nat_cmp, eq_by_cmp}
use Rattle.std.specs.Cmp.{nat_cmp_total}
use Rattle.std.specs.FinMap.{entries, find, get, get-entries, get-from_entries, insert, remove}
use Rattle.cf_base.proofs.Maps.{equal_maps, get_inserted, get_insert_other, get_removed, get_remove_other}
use Rattle.cf_base.proofs.Tests.{eq_yes, eq_no, tied_yes, tied_no}
use Rattle.page_model.specs.Held.{Held, Placed}
use Rattle.quota_model.specs.Parts.{key_of, number_in_task, objects_of_task, task_of}

abbrev of_task : ℕ → List (ℕ × Placed) → List (ℕ × Placed)
of_task task es = filter (λ (e : ℕ × Placed). nat_eq (task_of e.0) task) es

abbrev renumbered : List (ℕ × Placed) → List (ℕ × Placed)
renumbered es = map (λ (e : ℕ × Placed). (number_in_task e.0, e.1)) es

-- an entry of the task is found under its number if and only if it is found under its key
same_test : (task h key : ℕ) → h < 65536 → task_of key ≡ task → eq_by_cmp nat_cmp h (number_in_task key) ≡ eq_by_cmp nat_cmp (key_of task h) key
same_test task h key lt is = elim (cases_eq h (number_in_task key)) [
  | inl same ↦ tied_yes h (number_in_task key) same ∙ sym (tied_yes (key_of task h) key (omega arith))
  | inr ne ↦ tied_no h (number_in_task key) ne ∙ sym (tied_no (key_of task h) key (λ e. ne (omega arith)))
]

find_part : (task h : ℕ) (es : List (ℕ × Placed)) → h < 65536 → find nat_cmp h (renumbered (of_task task es)) ≡ find nat_cmp (key_of task h) es
find_part task h [] lt = refl
find_part task h (e ∷ es) lt = elim (cases_eq (task_of e.0) task) [
  | inl is ↦ (
      let kept : nat_eq (task_of e.0) task ≡ true = eq_yes (task_of e.0) task is in
      let test = same_test task h e.0 lt is in
      let rest = find_part task h es lt in
      ap (λ b. find nat_cmp h (renumbered (cond b (e ∷ of_task task es) (of_task task es)))) kept
      ∙ (λ i. cond (test i) (Some e.1) (rest i)))
  | inr ne ↦ (
      let dropped : nat_eq (task_of e.0) task ≡ false = eq_no (task_of e.0) task ne in
      let other : key_of task h ≢ e.0 = λ is. ne (omega arith) in
      let test = tied_no (key_of task h) e.0 other in
      ap (λ b. find nat_cmp h (renumbered (cond b (e ∷ of_task task es) (of_task task es)))) dropped
      ∙ find_part task h es lt ∙ sym (ap (λ b. cond b (Some e.1) (find nat_cmp (key_of task h) es)) test))
]

find_past : (task h : ℕ) (es : List (ℕ × Placed)) → 65536 ≤ h → find nat_cmp h (renumbered es) ≡ None
find_past task h [] le = refl
find_past task h (e ∷ es) le =
    let test : eq_by_cmp nat_cmp h (number_in_task e.0) ≡ false = tied_no h (number_in_task e.0) (λ is. omega arith) in
    ap (λ b. cond b (Some e.1) (find nat_cmp h (renumbered es))) test ∙ find_past task h es le

module _ (m : Held) (task : ℕ) where
  pub get_part : (h : ℕ) → h < 65536 → get (objects_of_task m task) h ≡ get m (key_of task h)
  unfolding objects_of_task
  get_part h lt = get-from_entries nat_cmp_total (renumbered (of_task task (entries m))) h ∙ find_part task h (entries m) lt
      ∙ sym (get-entries m (key_of task h))

  pub get_part_past : (h : ℕ) → 65536 ≤ h → get (objects_of_task m task) h ≡ None
  unfolding objects_of_task
  get_part_past h le = get-from_entries nat_cmp_total (renumbered (of_task task (entries m))) h ∙ find_past task h (of_task task (entries m)) le

  -- an object of a task has a number below 65,536, and the map of all tasks has it under its key
  pub found_small : (h : ℕ) (x : Placed) → get (objects_of_task m task) h ≡ Some x → h < 65536
  found_small h x found = elim (cases_lt h 65536) [
    | inl lt ↦ lt
    | inr le ↦ absurd (let none = get_part_past h le in let e : Some x ≡ None = sym found ∙ none in cc)
  ]

  pub found_whole : (h : ℕ) (x : Placed) → get (objects_of_task m task) h ≡ Some x → get m (key_of task h) ≡ Some x
  found_whole h x found = sym (get_part h (found_small h x found)) ∙ found

-- an object under a key in the map of all tasks is one of its task, under its number
pub found_part : (m : Held) (key : ℕ) (x : Placed) → get m key ≡ Some x → get (objects_of_task m (task_of key)) (number_in_task key) ≡ Some x
found_part m key x found =
    let key_is : key_of (task_of key) (number_in_task key) ≡ key = omega arith in
    get_part m (task_of key) (number_in_task key) (omega arith) ∙ ap (get m) key_is ∙ found

module _ (m : Held) (task h : ℕ) (lt : h < 65536) where
  other_key : (q : ℕ) → q < 65536 → q ≢ h → key_of task q ≢ key_of task h
  other_key q q_lt ne is = ne (omega arith)

  pub part_inserted : (x : Placed) → objects_of_task (insert m (key_of task h) x) task ≡ insert (objects_of_task m task) h x
  part_inserted x = equal_maps _ _ (λ q. elim (cases_lt q 65536) [
    | inl q_lt ↦ get_part (insert m (key_of task h) x) task q q_lt ∙ elim (cases_eq q h) [
      | inl is ↦ ap (λ k. get (insert m (key_of task h) x) (key_of task k)) is ∙ get_inserted m (key_of task h) x
          ∙ sym (ap (get (insert (objects_of_task m task) h x)) is ∙ get_inserted (objects_of_task m task) h x)
      | inr ne ↦ get_insert_other m (key_of task h) x (key_of task q) (other_key q q_lt ne) ∙ sym (get_part m task q q_lt)
          ∙ sym (get_insert_other (objects_of_task m task) h x q ne)
    ]
    | inr le ↦ get_part_past (insert m (key_of task h) x) task q le ∙ sym (get_part_past m task q le)
        ∙ sym (get_insert_other (objects_of_task m task) h x q (λ is. omega arith))
  ])

  pub part_removed : objects_of_task (remove m (key_of task h)) task ≡ remove (objects_of_task m task) h
  part_removed = equal_maps _ _ (λ q. elim (cases_lt q 65536) [
    | inl q_lt ↦ get_part (remove m (key_of task h)) task q q_lt ∙ elim (cases_eq q h) [
      | inl is ↦ ap (λ k. get (remove m (key_of task h)) (key_of task k)) is ∙ get_removed m (key_of task h)
          ∙ sym (ap (get (remove (objects_of_task m task) h)) is ∙ get_removed (objects_of_task m task) h)
      | inr ne ↦ get_remove_other m (key_of task h) (key_of task q) (other_key q q_lt ne) ∙ sym (get_part m task q q_lt)
          ∙ sym (get_remove_other (objects_of_task m task) h q ne)
    ]
    | inr le ↦ get_part_past (remove m (key_of task h)) task q le ∙ sym (get_part_past m task q le)
        ∙ sym (get_remove_other (objects_of_task m task) h q (λ is. omega arith))
  ])

  module _ (other : ℕ) (ne : other ≢ task) where
    others_key : (q : ℕ) → q < 65536 → key_of other q ≢ key_of task h
    others_key q q_lt is = ne (omega arith)

    pub part_other_inserted : (x : Placed) → objects_of_task (insert m (key_of task h) x) other ≡ objects_of_task m other
    part_other_inserted x = equal_maps _ _ (λ q. elim (cases_lt q 65536) [
      | inl q_lt ↦ get_part (insert m (key_of task h) x) other q q_lt ∙ get_insert_other m (key_of task h) x (key_of other q) (others_key q q_lt)
          ∙ sym (get_part m other q q_lt)
      | inr le ↦ get_part_past (insert m (key_of task h) x) other q le ∙ sym (get_part_past m other q le)
    ])

    pub part_other_removed : objects_of_task (remove m (key_of task h)) other ≡ objects_of_task m other
    part_other_removed = equal_maps _ _ (λ q. elim (cases_lt q 65536) [
      | inl q_lt ↦ get_part (remove m (key_of task h)) other q q_lt ∙ get_remove_other m (key_of task h) (key_of other q) (others_key q q_lt)
          ∙ sym (get_part m other q q_lt)
      | inr le ↦ get_part_past (remove m (key_of task h)) other q le ∙ sym (get_part_past m other q le)
    ])
