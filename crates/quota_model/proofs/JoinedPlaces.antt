-- For proofs about `joined_places`: the joined map has each address of a task under the object's key (task times 65,536, plus number), also after an address of
-- one task is added or removed. The objects of one task at the joined addresses are its own. If a task's map is replaced by one with numbers below 65,536, all
-- numbers still are.
use Rattle.std.proofs.Common.{◌≡◌, ◌≢◌, ℕ, zero, suc, cond, ◌+◌, ◌<◌, ◌≤◌, List, [], ◌∷◌, ◌++◌, Option, Some, None, length, set, arith, ap}
use Rattle.std.proofs.Common.{sym, ◌∙◌, refl, inl, inr}
use Rattle.std.proofs.lemmas.Bool.{cases_eq, cases_lt}
use Rattle.std.proofs.lemmas.List.{get_or-set_same, get_or-set_other}
use Rattle.std.specs.Prelude.{option_map}
use Rattle.std.specs.Ordering.{nat_cmp}
use Rattle.std.specs.Cmp.{nat_cmp_total}
use Rattle.std.specs.FinMap.{FinMap, empty, entries, find, get, get-empty, get-entries, get-from_entries, insert, remove}
use Rattle.cf_base.proofs.Maps.{equal_maps, get_inserted, get_insert_other, get_removed, get_remove_other}
use Rattle.cf_base.proofs.MapValues.{get-map_values}
use Rattle.cf_base.proofs.Tests.{tied_no, tied_yes}
use Rattle.page_model.specs.Bytes.{bytes_at, held_at}
use Rattle.page_model.specs.Held.{Placed}
use Rattle.quota_model.specs.Parts.{key_of, number_in_task, objects_of_task, task_of}
use Rattle.quota_model.proofs.TaskParts.{get_part, get_part_past}
use Rattle.quota_model.specs.Joined.{AreNumbers, all_keyed, joined_places, keyed, places_at}

-- a key of two joined lists is looked up in the first and, if it isn't there, in the second
found_first : (k v : ℕ) (xs ys : List (ℕ × ℕ)) → find nat_cmp k xs ≡ Some v → find nat_cmp k (xs ++ ys) ≡ Some v
found_first k v [] ys f = absurd (let e : None ≡ Some v = f in cc)
found_first k v (x ∷ xs) ys f = elim (cases_eq k x.0) [
  | inl is ↦ (
      let t = tied_yes k x.0 is in
      ap (λ b. cond b (Some x.1) (find nat_cmp k (xs ++ ys))) t ∙ sym (ap (λ b. cond b (Some x.1) (find nat_cmp k xs)) t) ∙ f)
  | inr ne ↦ (
      let t = tied_no k x.0 ne in
      ap (λ b. cond b (Some x.1) (find nat_cmp k (xs ++ ys))) t
      ∙ found_first k v xs ys (sym (ap (λ b. cond b (Some x.1) (find nat_cmp k xs)) t) ∙ f))
]

found_rest : (k : ℕ) (xs ys : List (ℕ × ℕ)) → find nat_cmp k xs ≡ None → find nat_cmp k (xs ++ ys) ≡ find nat_cmp k ys
found_rest k [] ys f = refl
found_rest k (x ∷ xs) ys f = elim (cases_eq k x.0) [
  | inl is ↦ absurd (
      let t = tied_yes k x.0 is in
      let e : Some x.1 ≡ None = sym (ap (λ b. cond b (Some x.1) (find nat_cmp k xs)) t) ∙ f in cc)
  | inr ne ↦ (
      let t = tied_no k x.0 ne in
      ap (λ b. cond b (Some x.1) (find nat_cmp k (xs ++ ys))) t
      ∙ found_rest k xs ys (sym (ap (λ b. cond b (Some x.1) (find nat_cmp k xs)) t) ∙ f))
]

-- each number in a list of entries is below 65,536
abbrev AreSmall : List (ℕ × ℕ) → Type 0
AreSmall es = (h a : ℕ) → find nat_cmp h es ≡ Some a → h < 65536

head_small : (e : ℕ × ℕ) (es : List (ℕ × ℕ)) → AreSmall (e ∷ es) → e.0 < 65536
head_small e es s = s e.0 e.1 (ap (λ b. cond b (Some e.1) (find nat_cmp e.0 es)) (tied_yes e.0 e.0 refl))

rest_small : (e : ℕ × ℕ) (es : List (ℕ × ℕ)) → AreSmall (e ∷ es) → AreSmall es
rest_small e es s = λ h a f. elim (cases_eq h e.0) [
  | inl is ↦ (let lt = head_small e es s in omega arith)
  | inr ne ↦ s h a (ap (λ b. cond b (Some e.1) (find nat_cmp h es)) (tied_no h e.0 ne) ∙ f)
]

-- the task's entry under an object's key is the one under the object's number
keyed_own : (task h : ℕ) (es : List (ℕ × ℕ)) → AreSmall es → h < 65536 → find nat_cmp (key_of task h) (keyed task es) ≡ find nat_cmp h es
keyed_own task h [] s lt = refl
keyed_own task h (e ∷ es) s lt =
    let small = head_small e es s in
    let rest = keyed_own task h es (rest_small e es s) lt in
    elim (cases_eq h e.0) [
      | inl is ↦ (
          let t = tied_yes (key_of task h) (key_of task e.0) (omega arith) in
          let u = tied_yes h e.0 is in
          ap (λ b. cond b (Some e.1) (find nat_cmp (key_of task h) (keyed task es))) t ∙ sym (ap (λ b. cond b (Some e.1) (find nat_cmp h es)) u))
      | inr ne ↦ (
          let t = tied_no (key_of task h) (key_of task e.0) (λ e. ne (omega arith)) in
          let u = tied_no h e.0 ne in
          ap (λ b. cond b (Some e.1) (find nat_cmp (key_of task h) (keyed task es))) t ∙ rest ∙ sym (ap (λ b. cond b (Some e.1) (find nat_cmp h es)) u))
    ]

-- the key of another task isn't among the task's entries
keyed_other : (task other h : ℕ) (es : List (ℕ × ℕ)) → AreSmall es → h < 65536 → other ≢ task → find nat_cmp (key_of other h) (keyed task es) ≡ None
keyed_other task other h [] s lt ne = refl
keyed_other task other h (e ∷ es) s lt ne =
    let small = head_small e es s in
    ap (λ b. cond b (Some e.1) (find nat_cmp (key_of other h) (keyed task es))) (tied_no (key_of other h) (key_of task e.0) (λ is. ne (omega arith)))
    ∙ keyed_other task other h es (rest_small e es s) lt ne

entries_small : (m : FinMap nat_cmp ℕ) → ((h a : ℕ) → get m h ≡ Some a → h < 65536) → AreSmall (entries m)
entries_small m small = λ h a f. small h a (get-entries m h ∙ f)

-- a key of a task before `from` isn't among the entries of the tasks from `from` on
earlier_none : (from t h : ℕ) (all : List (FinMap nat_cmp ℕ)) → AreNumbers all → h < 65536 → t < from → find nat_cmp (key_of t h) (all_keyed from all) ≡ None
earlier_none from t h [] small lt before = refl
earlier_none from t h (m ∷ ms) small lt before =
    found_rest (key_of t h) (keyed from (entries m)) (all_keyed (from + 1) ms)
    (keyed_other from t h (entries m) (entries_small m (λ q a f. small 0 q a f)) lt (λ is. omega arith))
    ∙ earlier_none (from + 1) t h ms (λ u q a f. small (suc u) q a f) lt (omega arith)

find_joined : (from t h : ℕ) (all : List (FinMap nat_cmp ℕ)) → AreNumbers all → h < 65536
    → find nat_cmp (key_of (from + t) h) (all_keyed from all) ≡ get (places_at all t) h
find_joined from t h [] small lt = sym (get-empty nat_cmp h)
find_joined from zero h (m ∷ ms) small lt = by_own (get m h) refl
  where
    at : find nat_cmp (key_of (from + 0) h) (keyed from (entries m)) ≡ get m h
    at = (let e : from + 0 ≡ from = omega arith in
        ap (λ t. find nat_cmp (key_of t h) (keyed from (entries m))) e ∙ keyed_own from h (entries m) (entries_small m (λ q a f. small 0 q a f)) lt
        ∙ sym (get-entries m h))

    by_own : (o : Option ℕ) → get m h ≡ o → find nat_cmp (key_of (from + 0) h) (keyed from (entries m) ++ all_keyed (from + 1) ms) ≡ get m h
    by_own (Some a) f = found_first (key_of (from + 0) h) a (keyed from (entries m)) (all_keyed (from + 1) ms) (at ∙ f) ∙ sym f
    by_own None f = found_rest (key_of (from + 0) h) (keyed from (entries m)) (all_keyed (from + 1) ms) (at ∙ f)
        ∙ earlier_none (from + 1) (from + 0) h ms (λ u q a f. small (suc u) q a f) lt (omega arith) ∙ sym f
find_joined from (suc t) h (m ∷ ms) small lt =
    let e : from + suc t ≡ from + 1 + t = omega arith in
    found_rest (key_of (from + suc t) h) (keyed from (entries m)) (all_keyed (from + 1) ms)
    (keyed_other from (from + suc t) h (entries m) (entries_small m (λ q a f. small 0 q a f)) lt (λ is. omega arith))
    ∙ ap (λ t. find nat_cmp (key_of t h) (all_keyed (from + 1) ms)) e
    ∙ find_joined (from + 1) t h ms (λ u q a f. small (suc u) q a f) lt

-- the joined map has under an object's key the address that the object's task has under its number
pub get_joined : (all : List (FinMap nat_cmp ℕ)) → AreNumbers all → (t h : ℕ) → h < 65536 → get (joined_places all) (key_of t h) ≡ get (places_at all t) h
unfolding joined_places
get_joined all small t h lt = get-from_entries nat_cmp_total (all_keyed 0 all) (key_of t h) ∙ ap (λ u. find nat_cmp (key_of u h) (all_keyed 0 all))
    (let e : t ≡ 0 + t = omega arith in e) ∙ find_joined 0 t h all small lt

-- as above, for a key in place of a task and a number
pub get_by_key : (all : List (FinMap nat_cmp ℕ)) → AreNumbers all → (key : ℕ) → get (joined_places all) key ≡ get (places_at all (task_of key)) (number_in_task key)
get_by_key all small key =
    let is : key ≡ key_of (task_of key) (number_in_task key) = omega arith in
    ap (get (joined_places all)) is ∙ get_joined all small (task_of key) (number_in_task key) (omega arith)

-- the map of all tasks' addresses after those of task t are replaced
module _ (all : List (FinMap nat_cmp ℕ)) (small : AreNumbers all) (t : ℕ) (lt : t < length all) where
  pub numbers_set : (m : FinMap nat_cmp ℕ) → ((h a : ℕ) → get m h ≡ Some a → h < 65536) → AreNumbers (set all t m)
  numbers_set m below = λ u h a f. elim (cases_eq u t) [
    | inl is ↦ below h a (sym (ap (λ x. get x h) (ap (places_at (set all t m)) is ∙ get_or-set_same all t m empty lt)) ∙ f)
    | inr ne ↦ small u h a (sym (ap (λ x. get x h) (get_or-set_other all t u m empty ne)) ∙ f)
  ]

  changed : (m : FinMap nat_cmp ℕ) (u : ℕ) → u ≢ t → places_at (set all t m) u ≡ places_at all u
  changed m u ne = get_or-set_other all t u m empty ne

  here : (m : FinMap nat_cmp ℕ) → places_at (set all t m) t ≡ m
  here m = get_or-set_same all t m empty lt

  module _ (h : ℕ) (few : h < 65536) where
    key_other : (key : ℕ) → task_of key ≡ t → number_in_task key ≢ h → key ≢ key_of t h
    key_other key is ne e = ne (omega arith)

    pub joined_insert : (a : ℕ) → joined_places (set all t (insert (places_at all t) h a)) ≡ insert (joined_places all) (key_of t h) a
    joined_insert a = equal_maps _ _ (λ key.
        let now : FinMap nat_cmp ℕ = insert (places_at all t) h a in
        let kept : AreNumbers (set all t now) = numbers_set now (λ q b f. elim (cases_eq q h) [
          | inl is ↦ omega arith
          | inr ne ↦ small t q b (sym (get_insert_other (places_at all t) h a q ne) ∙ f)
        ]) in
        get_by_key (set all t now) kept key ∙ elim (cases_eq (task_of key) t) [
          | inl is ↦ ap (λ u. get (places_at (set all t now) u) (number_in_task key)) is ∙ ap (λ m. get m (number_in_task key)) (here now)
              ∙ elim (cases_eq (number_in_task key) h) [
                | inl at ↦ (
                    let k : key ≡ key_of t h = omega arith in
                    ap (get now) at ∙ get_inserted (places_at all t) h a ∙ sym (ap (get (insert (joined_places all) (key_of t h) a)) k
                    ∙ get_inserted (joined_places all) (key_of t h) a))
                | inr ne ↦ get_insert_other (places_at all t) h a (number_in_task key) ne ∙ sym (ap (λ u. get (places_at all u) (number_in_task key)) is)
                    ∙ sym (get_by_key all small key) ∙ sym (get_insert_other (joined_places all) (key_of t h) a key (key_other key is ne))
              ]
          | inr ne ↦ ap (λ m. get m (number_in_task key)) (changed now (task_of key) ne) ∙ sym (get_by_key all small key)
              ∙ sym (get_insert_other (joined_places all) (key_of t h) a key (λ e. ne (omega arith)))
        ])

    pub joined_remove : joined_places (set all t (remove (places_at all t) h)) ≡ remove (joined_places all) (key_of t h)
    joined_remove = equal_maps _ _ (λ key.
        let now : FinMap nat_cmp ℕ = remove (places_at all t) h in
        let kept : AreNumbers (set all t now) = numbers_set now (λ q b f. elim (cases_eq q h) [
          | inl is ↦ omega arith
          | inr ne ↦ small t q b (sym (get_remove_other (places_at all t) h q ne) ∙ f)
        ]) in
        get_by_key (set all t now) kept key ∙ elim (cases_eq (task_of key) t) [
          | inl is ↦ ap (λ u. get (places_at (set all t now) u) (number_in_task key)) is ∙ ap (λ m. get m (number_in_task key)) (here now)
              ∙ elim (cases_eq (number_in_task key) h) [
                | inl at ↦ (
                    let k : key ≡ key_of t h = omega arith in
                    ap (get now) at ∙ get_removed (places_at all t) h ∙ sym (ap (get (remove (joined_places all) (key_of t h))) k ∙ get_removed (joined_places all) (key_of t h)))
                | inr ne ↦ get_remove_other (places_at all t) h (number_in_task key) ne ∙ sym (ap (λ u. get (places_at all u) (number_in_task key)) is)
                    ∙ sym (get_by_key all small key) ∙ sym (get_remove_other (joined_places all) (key_of t h) key (key_other key is ne))
              ]
          | inr ne ↦ ap (λ m. get m (number_in_task key)) (changed now (task_of key) ne) ∙ sym (get_by_key all small key)
              ∙ sym (get_remove_other (joined_places all) (key_of t h) key (λ e. ne (omega arith)))
        ])

-- a task's part of all objects at their addresses is its own objects at theirs
pub part_joined : (words : List ℕ) (all : List (FinMap nat_cmp ℕ)) → AreNumbers all → (t : ℕ)
    → objects_of_task (held_at words (joined_places all)) t ≡ held_at words (places_at all t)
part_joined words all small t = equal_maps _ _ (λ q. elim (cases_lt q 65536) [
  | inl lt ↦ get_part (held_at words (joined_places all)) t q lt ∙ get-map_values f (joined_places all) (key_of t q) ∙ ap (option_map f) (get_joined all small t q lt)
      ∙ sym (get-map_values f (places_at all t) q)
  | inr le ↦ get_part_past (held_at words (joined_places all)) t q le ∙ sym (past q le)
])
  where
    f : ℕ → Placed
    f a = record { place = a; bytes = bytes_at words a }

    past : (q : ℕ) → 65536 ≤ q → get (held_at words (places_at all t)) q ≡ None
    past q le = by (get (places_at all t) q) refl
      where
        by : (o : Option ℕ) → get (places_at all t) q ≡ o → get (held_at words (places_at all t)) q ≡ None
        by None e = get-map_values (λ a. record { place = a; bytes = bytes_at words a }) (places_at all t) q
            ∙ ap (option_map (λ a. record { place = a; bytes = bytes_at words a })) e
        by (Some a) e = absurd (let lt = small t q a e in omega arith)
