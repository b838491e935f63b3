-- For `laws`, and for the laws of each library: what keeps the rules of the handles, that the handle of a malloc is new, that no object has the number `none`,
-- what a call for a number that there is not returns, and that a handle of an earlier heap names nothing.
use Rattle.std.proofs.Common.{◌≡◌, ◌≢◌, ℕ, zero, suc, ◌+◌, ◌-◌, ◌*◌, ◌/◌, ◌%◌, ◌^◌, ◌<◌, ◌≤◌, List, [], ◌∷◌, length, max, refl, sym, ◌∙◌, ap, subst, inl, inr, arith, cond, ℤ, pos, Option, Some, None}
use Rattle.std.specs.FinMap.{FinMap, get}
use Rattle.std.specs.Ordering.{nat_cmp}
use Rattle.std.specs.Prelude.{Result, Ok, Err, nat_eq, nat_lt, slice_index}
use Rattle.std.specs.List.{fold}
use Rattle.std.proofs.lemmas.Bool.{cond-true, cond-false, le-ltb, lt-ltb, ne_eqb, cases_eq, cases_lt}
use Rattle.std.proofs.lemmas.Nat.{div-add-mod', mod_below, mul-le}
use Rattle.std.proofs.Math.Nat.{le-max_left, le-max_right, mod-eq_of_lt}
use Rattle.std.proofs.lemmas.List.{get_or-set_same, get_or-set_other}
use Rattle.std.proofs.lemmas.List.FromFn.{get_or-range_with_len}
use Rattle.c_base.specs.HandleRules.{AreFirstHandles, AreHandles, HasHandles, IsCount, IsHandleOf, IsNewOf}
use Rattle.c_base.specs.Handles.{base_of, handle_of, largest, next, none, number_in, raised, raised_by}
use Rattle.c_base.specs.Shown.{found_code, found_number}
use Rattle.c_base.proofs.Generations.{generations_whole, handle_small, length-raised, named, names_itself, next_is}

-- the generation after g is one of those that are used
few_next : (g most : ℕ) → g + 1 < most → cond (nat_lt (g + 1) (most - 1)) (g + 1) 0 + 1 < most
few_next g most few = elim (cases_lt (g + 1) (most - 1)) [
  | inl lt ↦ (let e = cond-true (nat_lt (g + 1) (most - 1)) (g + 1) 0 (lt-ltb (g + 1) (most - 1) lt) in omega (arith, e, lt))
  | inr ge ↦ (let e = cond-false (nat_lt (g + 1) (most - 1)) (g + 1) 0 (le-ltb (g + 1) (most - 1) ge) in omega (arith, e, few))
]

pub raised_handles : (handles : List ℕ) (m : ℕ) → AreHandles handles → m < length handles → AreHandles (raised handles m)
raised_handles handles m k low = record {
  count = subst IsCount (sym long) k.count;
  each = λ n within. subst (λ l. IsHandleOf l n (slice_index (raised handles m) n)) (sym long) (at n (subst (λ l. n < l) long within));
}
  where
    long : length (raised handles m) ≡ length handles
    long = length-raised handles m

    at : (n : ℕ) → n < length handles → IsHandleOf (length handles) n (slice_index (raised handles m) n)
    at n within = elim (cases_eq n m) [
      | inl same ↦ (
          let i = k.each n within in
          let value = get_or-set_same handles n (next (length handles) (slice_index handles n)) 0 within
          ∙ ap (next (length handles)) i.whole ∙ next_is (length handles) (2 ^ 32 / length handles) n i.generation (generations_whole (length handles) k.count) within i.in_range in
          record {
            generation = cond (nat_lt (i.generation + 1) (2 ^ 32 / length handles - 1)) (i.generation + 1) 0;
            whole = subst (λ q. slice_index (raised handles q) n ≡ cond (nat_lt (i.generation + 1) (2 ^ 32 / length handles - 1)) (i.generation + 1) 0 * length handles + n) same value;
            in_range = few_next i.generation (2 ^ 32 / length handles) i.in_range;
          })
      | inr other ↦ subst (IsHandleOf (length handles) n) (sym (get_or-set_other handles m n (next (length handles) (slice_index handles m)) 0 other)) (k.each n within)
    ]

pub raised_by_handles : {T E : Type 0} (handles : List ℕ) (handle : ℕ) (r : Result T E) → AreHandles handles → 0 < length handles → AreHandles (raised_by handles handle r)
raised_by_handles handles handle (Ok f) k some = raised_handles handles (handle % length handles) k (mod_below handle (length handles) some)
raised_by_handles handles handle (Err e) k some = k

pub length-raised_by : {T E : Type 0} (handles : List ℕ) (handle : ℕ) (r : Result T E) → length (raised_by handles handle r) ≡ length handles
length-raised_by handles handle (Ok f) = length-raised handles (handle % length handles)
length-raised_by handles handle (Err e) = refl

-- the handles of a heap that was just opened are in one generation
base_is : (count last : ℕ) → IsCount count → (g : ℕ) × (base_of count last ≡ g * count) × (g + 1 < 2 ^ 32 / count)
base_is count last c = elim (cases_lt (last + 3 * count) (2 ^ 32)) [
  | inl lt ↦ (
      let split = div-add-mod' last count in
      let g = last / count in
      let one : (g + 1) * count ≡ g * count + count = omega arith in
      let three : (g + 3) * count ≡ g * count + 3 * count = omega arith in (
        g + 1,
        cond-true (nat_lt (last + 3 * count) (2 ^ 32)) (last - last % count + count) 0 (lt-ltb (last + 3 * count) (2 ^ 32) lt) ∙ (let e : last - last % count + count ≡ (g + 1) * count = omega (arith, split, one) in e),
        elim (cases_lt (g + 2) (2 ^ 32 / count)) [
          | inl less ↦ omega (arith, less)
          | inr more ↦ absurd (
              let full : 2 ^ 32 / count * count ≤ (g + 3) * count = mul-le (2 ^ 32 / count) count (g + 3) count (omega (arith, more)) (omega arith) in
              omega (arith, full, three, whole, split, lt))
        ],
      ))
  | inr ge ↦ (
    0,
    cond-false (nat_lt (last + 3 * count) (2 ^ 32)) (last - last % count + count) 0 (le-ltb (last + 3 * count) (2 ^ 32) ge) ∙ (let e : 0 ≡ 0 * count = omega arith in e),
    elim (cases_lt 1 (2 ^ 32 / count)) [
      | inl less ↦ omega (arith, less)
      | inr more ↦ absurd (
          let full : 2 ^ 32 / count * count ≤ 1 * count = mul-le (2 ^ 32 / count) count 1 count more (omega arith) in
          let one : 1 * count ≡ count = omega arith in
          (let few = c.few in omega (arith, full, one, whole, few)))
    ],
  )
]
  where
    whole : 2 ^ 32 / count * count ≡ 2 ^ 32
    whole = generations_whole count c

first_at : (proxies last : ℕ) (handles : List ℕ) → AreFirstHandles proxies last handles → (n : ℕ) → n < length handles
    → slice_index handles n ≡ base_of (length handles) last + n
first_at proxies last handles first n within =
    ap (λ (hs : List ℕ). slice_index hs n) first.whole ∙ get_or-range_with_len (base_of (length handles) last) (length handles) n 0 within

pub first_are_handles : (proxies last : ℕ) (handles : List ℕ) → AreFirstHandles proxies last handles → AreHandles handles
first_are_handles proxies last handles first =
    let b = base_is (length handles) last first.count in
    record {
      count = first.count;
      each = λ n within. record { generation = b.0; whole = first_at proxies last handles first n within ∙ ap (λ x. x + n) b.1; in_range = b.2 };
    }

-- each handle is at most the largest
start_le : (xs : List ℕ) (a : ℕ) → a ≤ fold (λ (b h : ℕ). max b h) a xs
start_le [] a = omega arith
start_le (x ∷ xs) a = (let r = start_le xs (max a x) in let m = le-max_left a x in omega (arith, r, m))

item_le : (xs : List ℕ) (a i : ℕ) → i < length xs → slice_index xs i ≤ fold (λ (b h : ℕ). max b h) a xs
item_le [] a i lt = absurd (omega arith)
item_le (x ∷ xs) a zero lt = (let r = start_le xs (max a x) in let m = le-max_right a x in omega (arith, r, m))
item_le (x ∷ xs) a (suc i) lt = item_le xs (max a x) i (omega arith)

-- a handle that is at most the largest handle of the heap before names nothing
pub earlier_names_nothing : (old new : List ℕ) (n proxies : ℕ) → n < length old → AreFirstHandles proxies (largest old) new → largest old + 3 * length new < 2 ^ 32
    → number_in new (handle_of old n) ≡ none
earlier_names_nothing old new n proxies within first room =
    let last = largest old in let count = length new in let h = handle_of old n in
    let at : h ≡ slice_index old n = ap (slice_index old) (mod-eq_of_lt within) in
    let low : slice_index old n ≤ last = item_le old 0 n within in
    let some : 0 < count = first.count.some in
    let rest : last % count < count = mod_below last count some in
    let index : h % count < count = mod_below h count some in
    let base : base_of count last ≡ last - last % count + count =
    cond-true (nat_lt (last + 3 * count) (2 ^ 32)) (last - last % count + count) 0 (lt-ltb (last + 3 * count) (2 ^ 32) room) in
    let now = first_at proxies last new first (h % count) index in
    let other : slice_index new (h % count) ≢ h = λ e. omega (arith, e, now, base, rest, low, at) in
    named new h (h % count) refl ∙ cond-false (nat_eq (slice_index new (h % count)) h) (h % count) none (ne_eqb (slice_index new (h % count)) h other)

-- ---- a heap with its handles: `old` and `new` are the handles before and after a call

-- a call that keeps the number of proxies and the handles
pub same_handles : {R S : Type 0} {p q : ℕ} {old new : List ℕ} → HasHandles R p old → S → q ≡ p → new ≡ old → HasHandles S q new
same_handles {R} {S} {p} {q} {old} {new} k rules few same = record {
  rules = rules;
  handles = subst AreHandles (sym same) k.handles;
  enough = (let e = ap length same in let m = k.enough in omega arith);
}

-- a free
pub freed_handles : {R S T E : Type 0} {p q : ℕ} {old new : List ℕ} (handle : ℕ) (r : Result T E) → HasHandles R p old → S → q ≡ p → new ≡ raised_by old handle r
    → HasHandles S q new
freed_handles {R} {S} {T} {E} {p} {q} {old} {new} handle r k rules few raises = record {
  rules = rules;
  handles = subst AreHandles (sym raises) (raised_by_handles old handle r k.handles (let some = k.handles.count.some in omega arith));
  enough = (let e = ap length raises ∙ length-raised_by old handle r in let m = k.enough in omega arith);
}

-- a heap that was just opened
pub opened_handles : {R : Type 0} {p q : ℕ} {new : List ℕ} (last : ℕ) → R → q ≡ p → AreFirstHandles p last new → HasHandles R q new
opened_handles {R} {p} {q} {new} last rules few first =
    record { rules = rules; handles = first_are_handles p last new first; enough = (let m = first.enough in omega arith) }

-- the handle of a malloc that uses number n names n before and after it, and is less than `none`
pub names_new : {R : Type 0} {p : ℕ} {old new : List ℕ} (n handle : ℕ) → HasHandles R p old → n < p → handle ≡ handle_of old n → new ≡ old
    → (number_in old handle ≡ n) × (number_in new handle ≡ n) × (handle < none)
names_new {R} {p} {old} {new} n handle k low is same =
    let below : n < length old = (let m = k.enough in omega arith) in
    let named : number_in old handle ≡ n = ap (number_in old) is ∙ names_itself old k.handles n below in (
      named,
      subst (λ (hs : List ℕ). number_in hs handle ≡ n) (sym same) named,
      subst (λ x. x < none) (sym is) (handle_small old k.handles n below),
    )

pub new_handle : {R V : Type 0} {p : ℕ} {old new : List ℕ} {objects : FinMap nat_cmp V} (n handle : ℕ) → HasHandles R p old → n < p → get objects n ≡ None
    → handle ≡ handle_of old n → new ≡ old → IsNewOf objects old handle new
new_handle {R} {V} {p} {old} {new} {objects} n handle k low unused is same =
    let named = names_new n handle k low is same in
    record { number = n; whole = is; unused = unused; before = named.0; names = named.1; in_range = named.2 }

-- no object has the number `none`
pub no_number : {R A : Type 0} {p n : ℕ} {handles : List ℕ} → HasHandles R p handles → n ≡ none → n < p → A
no_number {R} {A} {p} {n} {handles} k is low = absurd (let m = k.enough in let few = k.handles.count.few in omega arith)

pub none_there : {R V : Type 0} {p n : ℕ} {handles : List ℕ} (objects : FinMap nat_cmp V) → HasHandles R p handles → n ≡ none
    → ((q : ℕ) (x : V) → get objects q ≡ Some x → q < p) → get objects n ≡ None
none_there {R} {V} {p} {n} {handles} objects k is below = by_cases (get objects n) refl
  where
    by_cases : (x : Option V) → get objects n ≡ x → get objects n ≡ None
    by_cases None e = e
    by_cases (Some x) e = no_number k is (below n x e)

-- a call for a number that there is not
pub not_found : {before after : ℕ} {code : ℤ} (o : Option ℕ) → o ≡ None → code ≡ found_code o → after ≡ found_number o before → (code ≡ pos 4) × (after ≡ before)
not_found {before} {after} {code} o none by_code by_number = (by_code ∙ ap found_code none, by_number ∙ ap (λ x. found_number x before) none)
