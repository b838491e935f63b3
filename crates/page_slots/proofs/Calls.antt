-- For the calls that take or free a slot or find the object to move: what they require of a class's first partly full page, of the first free page and of any
-- page. Also: the search for a slot, the map of a page after it is written, how many slots stay used, the steps, and a list as its head and the rest.
use Rattle.std.proofs.Common.{◌≡◌, ◌≢◌, ℕ, Bool, true, false, not, ◌+◌, ◌*◌, ◌^◌, ◌<◌, ◌≤◌, List, [], ◌∷◌, length, drop, get_or, set, Some, None, arith, inl, inr}
use Rattle.std.proofs.Common.{sym, ◌∙◌, ap, subst}
use Rattle.std.specs.Prelude.{slice_get, if◌then◌else◌, is_some, nat_eq}
use Rattle.std.specs.List.{Contains, position}
use Rattle.std.proofs.lemmas.Bool.{cases_eq, false≢true}
use Rattle.std.proofs.lemmas.List.{get_or-set_same, length-set, set-set}
use Rattle.std.proofs.lemmas.Nat.{mul-le}
use Rattle.std.proofs.lemmas.Option.{slice_get_within}
use Rattle.cf_base.proofs.Tests.{eq_no, eq_yes}
use Rattle.slot_bitmap.proofs.CallerLemmas.{count-set, count-unset, some_free, some_used}
use Rattle.step_ledger.specs.Counting.{RoseBy}
use Rattle.step_ledger.proofs.CallerLemmas.{rose_both}
use Rattle.slot_bitmap.specs.Maps.{SlotTable, on_page, with_page}
use Rattle.size_classes.specs.Table.{ClassTable}
use Rattle.class_lists.specs.declared.Which.{Which}
use Rattle.class_lists.specs.declared.Which.TheVariants.{Full, NotFull}
use Rattle.class_lists.specs.PageLists.{IsUnlisted, pages_in}
use Rattle.page_pool.specs.Pool.{Pool, TakesFront, is_in_pool}
use Rattle.page_slots.specs.Tables.{Tables, AreTables, IsOf, IsPageOf, slots_in, slots_on, used_in}
use Rattle.page_model.specs.Order.{drop_steps}
use Rattle.page_slots.specs.Release.{HasUsedSlot, steps_to_vacate}
use Rattle.page_slots.specs.Take.{take_slot_steps}
use Rattle.page_slots.proofs.Pages.{placed_in, listed_page, listed_class, of_list}
use Rattle.page_slots.proofs.TablesAfterTake.{front_listed, pool_front}

-- the search for a free slot finds one if there is one, and so does the search for a used slot
pub finds_free : (xs : List Bool) → used_in xs < length xs → None ≡ position (λ used. not used) xs → ⊥
finds_free xs some none = false≢true (ap is_some none ∙ some_free xs some)

pub finds_used : (xs : List Bool) → 0 < used_in xs → None ≡ position (λ used. used) xs → ⊥
finds_used xs some none = false≢true (ap is_some none ∙ some_used xs some)

-- the slots of a page that was written last
pub read_back : (old new : SlotTable) (page : ℕ) (slots : List Bool) → new ≡ with_page old page slots → page < length old.pages → on_page new page ≡ slots
read_back old new page slots is lt = ap (λ (m : SlotTable). on_page m page) is ∙ get_or-set_same old.pages page slots [] lt

-- the map of a page is made anew, then one slot is written
pub written_twice : (old mid new : SlotTable) (page slot : ℕ) (slots : List Bool) (b : Bool) → mid ≡ with_page old page slots → page < length old.pages
    → new ≡ with_page mid page (set (on_page mid page) slot b) → new.pages ≡ set old.pages page (set slots slot b)
written_twice old mid new page slot slots b first lt second =
    rw (second, first, get_or-set_same old.pages page slots [] lt) (set-set old.pages page slots (set slots slot b))

-- a list with a head is its head, then its other entries
pub front_is : (xs : List ℕ) (page : ℕ) → slice_get xs 0 ≡ Some page → xs ≡ page ∷ drop 1 xs
front_is [] page e = absurd (let lt = slice_get_within [] 0 page e in omega arith)
front_is (x ∷ xs) page e = (let same : Some x ≡ Some page = e in let is : x ≡ page = cc in ap (λ y. y ∷ xs) is)

module _ (k : ClassTable) (t : Tables) (a : AreTables k t) where
  pub page_small : (page : ℕ) → page < t.pool.pages → page * k.page_words + k.page_words < 2 ^ 32
  page_small page lt =
      let m : (page + 1) * k.page_words ≤ t.pool.pages * k.page_words = mul-le (page + 1) k.page_words t.pool.pages k.page_words (omega arith) (omega arith) in
      let s = a.small in
      omega arith

  pub page_inside : (page : ℕ) → page < t.pool.pages → page < length t.maps
  page_inside page lt = (let e = a.maps in omega arith)

  -- the first partly full page
  module _ (c page : ℕ) (front : Some page ≡ slice_get (pages_in t.lists c NotFull) 0) where
    pub front_there : Contains (pages_in t.lists c NotFull) page
    front_there = front_listed (pages_in t.lists c NotFull) page (sym front)

    pub front_page : page < t.pool.pages
    front_page = listed_page k t a c page NotFull front_there

    pub front_inside : page < length t.maps
    front_inside = page_inside page front_page

    pub front_small : page * k.page_words + k.page_words < 2 ^ 32
    front_small = page_small page front_page

    front_placed : IsPageOf k t page c NotFull
    front_placed = placed_in k t a c page NotFull front_there

    pub front_taken : is_in_pool t.pool.free page ≡ false
    front_taken = front_placed.taken

    pub front_used_slot : HasUsedSlot t.maps page
    front_used_slot = record { within = front_inside; some = front_placed.fills.0 }

    pub front_slot : (slot : ℕ) (b : Bool) → slice_get (slots_on t page) slot ≡ Some b → slot < slots_in k c
    front_slot slot b is = (let lt = slice_get_within (slots_on t page) slot b is in let l = front_placed.slots in omega arith)

    pub front_room : used_in (slots_on t page) < length (slots_on t page)
    front_room = (let l = front_placed.slots in let f = front_placed.fills in let few = f.1 in omega arith)

    pub front_long : length (slots_on t page) ≡ slots_in k c
    front_long = front_placed.slots

  -- the first page of the pool
  module _ (page : ℕ) (pool : Pool) (f : TakesFront t.pool (Some page) pool) where
    pub pool_inside : page < length t.maps
    pool_inside = page_inside page (pool_front k t a page pool f).0

    pub pool_small : page * k.page_words + k.page_words < 2 ^ 32
    pool_small = page_small page (pool_front k t a page pool f).0

    pub pool_listable : page < t.lists.pages
    pool_listable = (let lt = (pool_front k t a page pool f).0 in let e = a.pages in omega arith)

    pub pool_unlisted : IsUnlisted t.lists page
    pool_unlisted = ((pool_front k t a page pool f).1).unlisted

    pub pool_unused : used_in (slots_on t page) ≡ 0
    pool_unused = ((pool_front k t a page pool f).1).unused

  -- a page of class c
  module _ (c page : ℕ) (of : IsOf t c page) where
    pub of_class : c < length k.sizes
    of_class = (let p = of_list k t a c page of in listed_class k t a c page p.0 p.1.listed)

    pub of_lists_class : c < t.lists.classes
    of_lists_class = (let lt = of_class in let e = a.classes in omega arith)

    pub of_page : page < t.pool.pages
    of_page = (let p = of_list k t a c page of in listed_page k t a c page p.0 p.1.listed)

    pub of_taken : is_in_pool t.pool.free page ≡ false
    of_taken = (of_list k t a c page of).1.taken

    -- it is in the list that its slots determine
    pub of_listed : (w : Which) → (used_in (slots_on t page) ≡ length (slots_on t page) → w ≡ Full)
        → (used_in (slots_on t page) ≢ length (slots_on t page) → w ≡ NotFull) → Contains (pages_in t.lists c w) page
    of_listed w full not_full = go (of_list k t a c page of).0 (of_list k t a c page of).1
      where
        go : (v : Which) → IsPageOf k t page c v → Contains (pages_in t.lists c w) page
        go Full p = subst (λ v. Contains (pages_in t.lists c v) page) (sym (full (p.fills ∙ sym p.slots))) p.listed
        go NotFull p = (
            let ne : used_in (slots_on t page) ≢ length (slots_on t page) = (λ e. (let s = p.slots in let f = p.fills in let few = f.1 in omega arith)) in
            subst (λ v. Contains (pages_in t.lists c v) page) (sym (not_full ne)) p.listed)

-- the steps of taking a slot on a partly full page
module _ (k : ClassTable) (t : Tables) (a : AreTables k t) (c page : ℕ) (front : Some page ≡ slice_get (pages_in t.lists c NotFull) 0) where
  filled_test : (slot : ℕ) (map : List Bool) → slice_get (slots_on t page) slot ≡ Some false → map ≡ set (slots_on t page) slot true
      → nat_eq (used_in map) (length map) ≡ nat_eq (used_in (slots_on t page) + 1) (slots_in k c)
  filled_test slot map free is =
      let used : used_in map ≡ used_in (slots_on t page) + 1 = ap used_in is ∙ count-set (slots_on t page) slot free in
      let long : length map ≡ slots_in k c = ap length is ∙ length-set (slots_on t page) slot true ∙ front_long k t a c page front in
      λ i. nat_eq (used i) (long i)

  pub took_open_steps : (slot : ℕ) (map : List Bool) → slice_get (slots_on t page) slot ≡ Some false → map ≡ set (slots_on t page) slot true
      → (old first second new : ℕ) → RoseBy old first 1 → RoseBy first second 3 → RoseBy second new (if nat_eq (used_in map) (length map) then 9 else 1)
      → RoseBy old new (take_slot_steps k t c)
  took_open_steps slot map free is old first second new x y z =
      let e = front_is (pages_in t.lists c NotFull) page (sym front) in
      let w : RoseBy second new (if nat_eq (used_in (slots_on t page) + 1) (slots_in k c) then 9 else 1) =
      subst (λ b. RoseBy second new (if b then 9 else 1)) (filled_test slot map free is) z in
      let four = rose_both old first second 1 3 x y in
      rw (take_slot_steps, e) (by_test (nat_eq (used_in (slots_on t page) + 1) (slots_in k c)) four w)
    where
      by_test : (b : Bool) → RoseBy old second 4 → RoseBy second new (if b then 9 else 1) → RoseBy old new (if b then 13 else 5)
      by_test true four w = rose_both old second new 4 9 four w
      by_test false four w = rose_both old second new 4 1 four w

-- A slot of a page becomes free: the number of slots that are still used.
pub used_left : (old new : SlotTable) (page count slot : ℕ) → new ≡ with_page old page (set (on_page old page) slot false)
    → page < length old.pages → slice_get (on_page old page) slot ≡ Some true → count ≡ used_in (on_page new page) → count + 1 ≡ used_in (on_page old page)
used_left old new page count slot is lt used many =
    let n = count-unset (on_page old page) slot used in
    let w = ap used_in (read_back old new page _ is lt) in
    omega arith

-- the steps of freeing a slot, whether that empties its page or not
module _ (maps : List (List Bool)) (page count : ℕ) (few : count + 1 ≡ used_in (get_or maps page [])) (which : Which) (a b c d : ℕ)
    (first : RoseBy a b 3) (second : RoseBy b c 1) where
  pub emptied_steps : (e : ℕ) → count ≡ 0 → RoseBy c d 4 → RoseBy d e 1 → RoseBy a e (steps_to_vacate which (used_in (get_or maps page [])))
  emptied_steps e none third fourth =
      let one : used_in (get_or maps page []) ≡ 1 = omega arith in
      rw (eq_yes _ _ one) (rose_both a d e 8 1 (rose_both a c d 4 4 (rose_both a b c 3 1 first second) third) fourth)

  pub kept_steps : count ≢ 0 → RoseBy c d (elim which [ Full ↦ 8 | NotFull ↦ 0 ]) → RoseBy a d (steps_to_vacate which (used_in (get_or maps page [])))
  kept_steps some third =
      let several : used_in (get_or maps page []) ≢ 1 = λ one. some (omega arith) in
      rw (eq_no _ _ several) (by_list which third)
    where
      by_list : (w : Which) → RoseBy c d (elim w [ Full ↦ 8 | NotFull ↦ 0 ]) → RoseBy a d (elim w [ Full ↦ 12 | NotFull ↦ 4 ])
      by_list Full third = rose_both a c d 4 8 (rose_both a b c 3 1 first second) third
      by_list NotFull third = rose_both a c d 4 0 (rose_both a b c 3 1 first second) third

-- the steps of freeing a slot, with the step that finds the page's list
pub dropped_steps : (xs : List Bool) (which : Which) (a b c : ℕ) → (used_in xs ≡ length xs → which ≡ Full)
    → (used_in xs ≢ length xs → which ≡ NotFull) → RoseBy a b 1 → RoseBy b c (steps_to_vacate which (used_in xs))
    → RoseBy a c (drop_steps (used_in xs) (length xs))
dropped_steps xs which a b c full part first second = elim (cases_eq (used_in xs) 1) [
  | inl one ↦ (
      let z : RoseBy b c 9 = rw (eq_yes _ _ one) at second in
      rw (eq_yes _ _ one) (rose_both a b c 1 9 first z))
  | inr several ↦ (
      let z : RoseBy b c (elim which [ Full ↦ 12 | NotFull ↦ 4 ]) = rw (eq_no _ _ several) at second in
      elim (cases_eq (used_in xs) (length xs)) [
        | inl all ↦ (
            let w : which ≡ Full = full all in
            let y : RoseBy b c 12 = subst (λ v. RoseBy b c (elim v [ Full ↦ 12 | NotFull ↦ 4 ])) w z in
            rw (eq_no _ _ several, eq_yes _ _ all) (rose_both a b c 1 12 first y))
        | inr some ↦ (
            let w : which ≡ NotFull = part some in
            let y : RoseBy b c 4 = subst (λ v. RoseBy b c (elim v [ Full ↦ 12 | NotFull ↦ 4 ])) w z in
            rw (eq_no _ _ several, eq_no _ _ some) (rose_both a b c 1 4 first y))
      ])
]
