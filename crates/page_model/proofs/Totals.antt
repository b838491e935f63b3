-- The objects of a class are the sum of those on each page. A page has at most as many objects as slots, and fewer if a slot has none. A slot's number on its
-- page is below the count of the page's slots. Also sums over lists and over the values of maps, and the count of one number in a range.
use Rattle.std.proofs.Common.{◌≡◌, ◌≢◌, ℕ, Bool, true, false, ◌+◌, ◌*◌, ◌/◌, ◌%◌, ◌<◌, ◌≤◌, List, [], ◌∷◌, Some, None, length, arith, sym, ◌∙◌, inl, inr, ap}
use Rattle.std.proofs.Common.{refl}
use Rattle.std.specs.Prelude.{sum_by, count_by, ◌&&◌, nat_eq}
use Rattle.std.specs.List.{range_with_len, list_any, IsDistinct, AllByRecursion}
use Rattle.std.proofs.lemmas.List.Sums.{sum_by-cons}
use Rattle.std.proofs.lemmas.Bool.{cases_eq, cases_lt, false≢true}
use Rattle.std.proofs.lemmas.Bool.Decides.{nat_tests}
use Rattle.std.proofs.lemmas.Nat.{div-add-mod', mul-le}
use Rattle.std.proofs.Math.Nat.{mod-lt}
use Rattle.std.proofs.lemmas.Map.Steps.{length-le_from_distinct_below}
use Rattle.std.specs.Ordering.{nat_cmp}
use Rattle.std.specs.FinMap.{FinMap, get, insert, empty, values}
use Rattle.cf_base.specs.Maps.{map_values}
use Rattle.cf_base.proofs.Maps.{get_inserted}
use Rattle.cf_base.proofs.Tests.{eq_no}
use Rattle.cf_base.proofs.Values.{no_values, map_values-empty, still}
use Rattle.cf_base.proofs.MapValues.{get-map_values, map_values-insert}
use Rattle.cf_base.proofs.Sums.{sum_by-inserted}
use Rattle.cf_base.proofs.Ranges.{one, count_changed}
use Rattle.cf_base.proofs.Induction.{map_induction}
use Rattle.page_model.specs.Held.{Held, Placed, objects}
use Rattle.page_model.specs.Paging.{Paging, slot_words, slots_of, page_of, class_for}
use Rattle.page_model.specs.Arrangement.{class_at, is_on, objects_on, live, IsSlotAt, IsSound}
use Rattle.page_model.proofs.Counting.{on_parts}
use Rattle.page_model.proofs.Placing.{objects_on-inserted}

pub sum_same : {X : Type 0} (f g : X → ℕ) (xs : List X) → ((x : X) → f x ≡ g x) → sum_by f xs ≡ sum_by g xs
sum_same f g [] same = refl
sum_same f g (x ∷ xs) same = (let a = sum_by-cons f x xs in let b = sum_by-cons g x xs in let c = same x in let d = sum_same f g xs same in omega arith)

pub sum_plus : {X : Type 0} (f g : X → ℕ) (xs : List X) → sum_by (λ x. f x + g x) xs ≡ sum_by f xs + sum_by g xs
sum_plus f g [] = refl
sum_plus f g (x ∷ xs) = (let a = sum_by-cons (λ x. f x + g x) x xs in let b = sum_by-cons f x xs in let c = sum_by-cons g x xs in let d =
    sum_plus f g xs in omega arith)

pub sum_zeros : {X : Type 0} (f : X → ℕ) (xs : List X) → ((x : X) → f x ≡ 0) → sum_by f xs ≡ 0
sum_zeros f [] z = refl
sum_zeros f (x ∷ xs) z = (let a = sum_by-cons f x xs in let b = z x in let c = sum_zeros f xs z in omega arith)

-- exactly one of the numbers below n is a
pub count_at : (a n : ℕ) (c : Bool) → a < n → count_by (λ p. nat_eq a p && c) (range_with_len 0 n) ≡ one c
count_at a n c lt =
    let f : ℕ → Bool = λ p. nat_eq a p && c in
    let g : ℕ → Bool = λ _. false in
    let e : count_by f (range_with_len 0 n) + one (g a) ≡ count_by g (range_with_len 0 n) + one (f a) =
    count_changed f g 0 n a (omega arith) (omega arith) (λ p ne. (let x : nat_eq a p ≡ false = grind (arith, nat_tests) in rw x)) in
    let z : count_by g (range_with_len 0 n) ≡ 0 = sum_zeros (λ p. one (g p)) (range_with_len 0 n) (λ _. refl) in
    let h : one (f a) ≡ one c = (let x : nat_eq a a ≡ true = grind (arith, nat_tests) in rw x) in
    omega arith

-- sums over a map with a function applied to each value
module _ {X Y : Type 0} (g : X → Y) (f : Y → ℕ) where
  pub sum-map_values : (m : FinMap nat_cmp X) → sum_by f (values (map_values g m)) ≡ sum_by (λ x. f (g x)) (values m)
  sum-map_values = map_induction (λ m. sum_by f (values (map_values g m)) ≡ sum_by (λ x. f (g x)) (values m))
      (ap (λ m. sum_by f (values m)) (map_values-empty g) ∙ ap (sum_by f) no_values ∙ sym (ap (sum_by (λ x. f (g x))) no_values))
      (λ m h x none ih. (
      let a = sum_by-inserted (λ x. f (g x)) m h x none in
      let n : get (map_values g m) h ≡ None = get-map_values g m h ∙ rw none refl in
      let b = sum_by-inserted f (map_values g m) h (g x) n in
      let c : sum_by f (values (map_values g (insert m h x))) ≡ sum_by f (values (insert (map_values g m) h (g x))) =
      ap (λ n. sum_by f (values n)) (map_values-insert g m h x) in
      omega arith))

-- the objects of a class
abbrev pub live_in : Paging → Held → ℕ → ℕ
live_in p m c = count_by (λ (x : Placed). nat_eq (class_at p x) c) (values m)

module _ (p : Paging) (c : ℕ) where
  pub live_is : (m : Held) → live p (objects m) c ≡ live_in p m c
  unfolding live
  live_is m = sum-map_values (λ (x : Placed). x.bytes) (λ v. one (nat_eq (class_for p (length v)) c)) m

  pub on_none : (page : ℕ) → objects_on p empty c page ≡ 0
  unfolding objects_on
  on_none page = ap (count_by (is_on p c page)) no_values

  live_none : live_in p empty c ≡ 0
  live_none = ap (count_by (λ (x : Placed). nat_eq (class_at p x) c)) no_values

  -- the objects of class c are the sum of those on each page
  pub live_by_pages : (m : Held) → ((q : ℕ) (x : Placed) → get m q ≡ Some x → page_of p x.place < p.pages)
      → sum_by (objects_on p m c) (range_with_len 0 p.pages) ≡ live_in p m c
  live_by_pages = map_induction (λ m. ((q : ℕ) (x : Placed) → get m q ≡ Some x → page_of p x.place < p.pages)
      → sum_by (objects_on p m c) (range_with_len 0 p.pages) ≡ live_in p m c)
      (λ _. sum_zeros (objects_on p empty c) (range_with_len 0 p.pages) on_none ∙ sym live_none)
      (λ m h x none ih inside.
      let before = ih (λ q y f. inside q y (still m h x none q y f).1) in
      let split = sum_same (objects_on p (insert m h x) c) (λ g. objects_on p m c g + one (is_on p c g x)) (range_with_len 0 p.pages)
      (λ g. objects_on-inserted p m h x none c g) in
      let plus = sum_plus (objects_on p m c) (λ g. one (is_on p c g x)) (range_with_len 0 p.pages) in
      let at : sum_by (λ g. one (is_on p c g x)) (range_with_len 0 p.pages) ≡ one (nat_eq (class_at p x) c) =
      count_at (page_of p x.place) p.pages _ (inside h x (get_inserted m h x)) in
      let more : live_in p (insert m h x) c ≡ live_in p m c + one (nat_eq (class_at p x) c) =
      sum_by-inserted (λ (y : Placed). one (nat_eq (class_at p y) c)) m h x none in
      omega arith)

  -- the numbers of the taken slots of the class on a page
  record SlotsOf (m : Held) (page : ℕ) (js : List ℕ) : Type 0 where
    count : length js ≡ objects_on p m c page
    distinct : IsDistinct nat_eq js
    taken : (j : ℕ) → list_any (nat_eq j) js ≡ true → (q : ℕ) × (x : Placed) × (get m q ≡ Some x) × (is_on p c page x ≡ true)
        × (x.place % p.page_words / slot_words p c ≡ j)

absent : (j : ℕ) (js : List ℕ) → (list_any (nat_eq j) js ≡ true → ⊥) → AllByRecursion (λ y. nat_eq j y ≡ false) js
absent j [] never = tt
absent j (y ∷ js) never = go (nat_eq j y) refl (λ n. absent j js n)
  where
    go : (b : Bool) → nat_eq j y ≡ b → ((list_any (nat_eq j) js ≡ true → ⊥) → AllByRecursion (λ y. nat_eq j y ≡ false) js)
        → (nat_eq j y ≡ false) × AllByRecursion (λ y. nat_eq j y ≡ false) js
    go true e ih = absurd (never (rw e))
    go false e ih = (e, ih (λ p. never (rw e p)))

-- two addresses with the same page, class and slot number are equal
one_place : (P size a b : ℕ) → a / P ≡ b / P → a % P % size ≡ 0 → b % P % size ≡ 0 → a % P / size ≡ b % P / size → a ≡ b
one_place P size a b page p q slot =
    let ea = div-add-mod' a P in
    let eb : a / P * P + b % P ≡ b = rw page (div-add-mod' b P) in
    let fa = div-add-mod' (a % P) size in
    let fb : a % P / size * size + b % P % size ≡ b % P = rw slot (div-add-mod' (b % P) size) in
    omega arith

pub slot_below : (P size a : ℕ) → 0 < size → a % P % size ≡ 0 → a % P + size ≤ P → a % P / size < P / size
slot_below P size a pos p fits =
    let e = div-add-mod' (a % P) size in
    let f = div-add-mod' P size in
    let r : P % size < size = mod-lt P pos in
    elim (cases_lt (a % P / size) (P / size)) [
      | inl lt ↦ lt
      | inr le ↦ absurd (let x : P / size * size ≤ a % P / size * size = mul-le (P / size) size (a % P / size) size le (omega arith) in omega arith)
    ]

-- the objects of a class are at slots of its size, no two at one address
record HasSlots (p : Paging) (c : ℕ) (m : Held) : Type 0 where
  aligned : (q : ℕ) (x : Placed) (page : ℕ) → get m q ≡ Some x → is_on p c page x ≡ true → x.place % p.page_words % slot_words p c ≡ 0
  fits : (q : ℕ) (x : Placed) (page : ℕ) → get m q ≡ Some x → is_on p c page x ≡ true → x.place % p.page_words + slot_words p c ≤ p.page_words
  own : (h : ℕ) (x : Placed) (q : ℕ) (y : Placed) → get m h ≡ Some x → get m q ≡ Some y → q ≢ h → x.place ≢ y.place

sound_slots : (p : Paging) (m : Held) (c : ℕ) → IsSound p m → HasSlots p c m
sound_slots p m c s = record {
  aligned = λ q x page f e. (let o = (on_parts p c page x e).1 in rw (← o) ((s.slots q x f).aligned));
  fits = λ q x page f e. (let o = (on_parts p c page x e).1 in rw (← o) ((s.slots q x f).fits));
  own = s.own_place;
}

module _ (p : Paging) (c page : ℕ) where
  had_slots : (m : Held) (h : ℕ) (x : Placed) → get m h ≡ None → HasSlots p c (insert m h x) → HasSlots p c m
  had_slots m h x none s = record {
    aligned = λ q y g f e. s.aligned q y g (still m h x none q y f).1 e;
    fits = λ q y g f e. s.fits q y g (still m h x none q y f).1 e;
    own = λ q y r z f f' ne. s.own q y r z (still m h x none q y f).1 (still m h x none r z f').1 ne;
  }

  one_more : (m : Held) (h : ℕ) (x : Placed) (b : Bool) → is_on p c page x ≡ b → get m h ≡ None → HasSlots p c (insert m h x) → (js : List ℕ)
      → SlotsOf p c m page js → (ks : List ℕ) × SlotsOf p c (insert m h x) page ks
  unfolding IsDistinct
  one_more m h x false e none s js o = (
    js,
    record {
      count = (let i = objects_on-inserted p m h x none c page in let z : one (is_on p c page x) ≡ 0 = rw e in omega (arith, o.count));
      distinct = o.distinct;
      taken = λ j a. (let t = o.taken j a in (t.0, t.1, (still m h x none t.0 t.1 t.2).1, t.3, t.4));
    },
  )
  one_more m h x true e none s js o = (
    x.place % p.page_words / slot_words p c ∷ js,
    record {
      count = (let i = objects_on-inserted p m h x none c page in let z : one (is_on p c page x) ≡ 1 = rw e in omega (arith, o.count));
      distinct = (
        absent (x.place % p.page_words / slot_words p c) js (λ a. (
            let t = o.taken (x.place % p.page_words / slot_words p c) a in
            let was = still m h x none t.0 t.1 t.2 in
            s.own h x t.0 t.1 (get_inserted m h x) was.1 was.0 (one_place p.page_words (slot_words p c) x.place t.1.place
            ((on_parts p c page x e).0 ∙ sym (on_parts p c page t.1 t.3).0)
            (s.aligned h x page (get_inserted m h x) e) (s.aligned t.0 t.1 page was.1 t.3) (sym t.4)))),
        o.distinct,
      );
      taken = λ j a. elim (cases_eq j (x.place % p.page_words / slot_words p c)) [
        | inl is ↦ (h, x, get_inserted m h x, e, sym is)
        | inr ne ↦ (
            let f : nat_eq j (x.place % p.page_words / slot_words p c) ≡ false = eq_no _ _ ne in
            let a' : list_any (nat_eq j) js ≡ true = rw f at a in
            let t = o.taken j a' in (t.0, t.1, (still m h x none t.0 t.1 t.2).1, t.3, t.4))
      ];
    },
  )

  slots_taken : (m : Held) → HasSlots p c m → (js : List ℕ) × SlotsOf p c m page js
  unfolding IsDistinct
  slots_taken = map_induction (λ m. HasSlots p c m → (js : List ℕ) × SlotsOf p c m page js)
      (λ _. ([], record { count = sym (on_none p c page); distinct = tt; taken = λ j a. absurd (false≢true a) }))
      (λ m h x none ih s. (let o = ih (had_slots m h x none s) in one_more m h x (is_on p c page x) refl none s o.0 o.1))

  taken_below : (m : Held) (js : List ℕ) → 0 < slot_words p c → HasSlots p c m → SlotsOf p c m page js → (j : ℕ) → list_any (nat_eq j) js ≡ true
      → j < slots_of p c
  taken_below m js pos has o j a =
      let t = o.taken j a in
      let b = slot_below p.page_words (slot_words p c) t.1.place pos (has.aligned t.0 t.1 page t.2 t.3) (has.fits t.0 t.1 page t.2 t.3) in
      rw (← t.4) b

  -- a page has at most as many objects as slots
  pub page_within : (m : Held) → 0 < slot_words p c → IsSound p m → objects_on p m c page ≤ slots_of p c
  page_within m pos s =
      let has = sound_slots p m c s in
      let o = slots_taken m has in
      let n = length-le_from_distinct_below o.0 (slots_of p c) o.1.distinct (taken_below m o.0 pos has o.1) in
      omega (arith, o.1.count)

  -- if a slot of the page has no object, the page has fewer objects than slots
  pub page_below : (m : Held) (a : ℕ) → 0 < slot_words p c → IsSound p m → IsSlotAt p c a → page_of p a ≡ page
      → ((q : ℕ) (y : Placed) → get m q ≡ Some y → y.place ≢ a) → objects_on p m c page < slots_of p c
  unfolding IsDistinct
  page_below m a pos s slot on vacant =
      let has = sound_slots p m c s in
      let o = slots_taken m has in
      let below = slot_below p.page_words (slot_words p c) a pos slot.aligned slot.fits in
      let free = absent (a % p.page_words / slot_words p c) o.0 (λ any. (
      let t = o.1.taken (a % p.page_words / slot_words p c) any in
      vacant t.0 t.1 t.2 (one_place p.page_words (slot_words p c) t.1.place a ((on_parts p c page t.1 t.3).0 ∙ sym on)
      (has.aligned t.0 t.1 page t.2 t.3) slot.aligned t.4))) in
      let n = length-le_from_distinct_below (a % p.page_words / slot_words p c ∷ o.0) (slots_of p c) (free, o.1.distinct) (λ i any. elim
      (cases_eq i (a % p.page_words / slot_words p c)) [
        | inl is ↦ rw is below
        | inr ne ↦ (
            let f : nat_eq i (a % p.page_words / slot_words p c) ≡ false = eq_no _ _ ne in
            let any' : list_any (nat_eq i) o.0 ≡ true = rw f at any in
            taken_below m o.0 pos has o.1 i any')
      ]) in
      omega (arith, o.1.count)
