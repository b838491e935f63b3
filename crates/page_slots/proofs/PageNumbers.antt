-- The lengths of the pool and of the page lists are the numbers of free pages, of a class's pages and of its partly full ones. If no page is foreign, each page
-- that isn't free has an object, and without partly full and free pages no slot is left.
use Rattle.std.proofs.Common.{◌≡◌, ℕ, Bool, true, false, ◌+◌, ◌<◌, ◌≤◌, [], length, arith, refl, sym, ◌∙◌, ap, subst, inl, inr}
use Rattle.std.specs.Prelude.{nat_lt, count_by}
use Rattle.std.specs.List.{Contains, range_with_len}
use Rattle.std.proofs.lemmas.Bool.Decides.{nat_tests}
use Rattle.cf_base.proofs.Tests.{and_false as and_no}
use Rattle.cf_base.proofs.Ranges.{one, count_same}
use Rattle.class_lists.specs.declared.Which.{Which}
use Rattle.class_lists.specs.declared.Which.TheVariants.{Full, NotFull}
use Rattle.class_lists.specs.PageLists.{pages_in}
use Rattle.page_pool.specs.Pool.{is_in_pool}
use Rattle.page_model.specs.Held.{Held}
use Rattle.page_model.specs.Paging.{Paging, IsPaging, slots_of}
use Rattle.page_model.specs.Arrangement.{objects_on, count_on, pages_of_class, not_full_pages, used_pages, free_pages, IsSound, LacksRoom}
use Rattle.page_model.proofs.CallerLemmas.{part_full, less_counts as lt_yes, not_less_counts_none as lt_no, on_page, counted_here, sum_same, sum_plus, used_is}
use Rattle.page_slots.specs.Tables.{Tables, HasUsed, IsOf, IsPageOf, NoneForeign, slots_on, used_in}
use Rattle.page_slots.specs.Occupying.{Occupies, FitPagesShared, class_table}
use Rattle.page_slots.proofs.Pages.{placed_in, listed_page, list_of, free_page, taken_page}
use Rattle.page_slots.proofs.Counted.{any_contains, contains_no, count_both, count_members, no_repeats}
use Rattle.page_slots.proofs.Occupied.{free_bare, none_counts}

part_is : (n s : ℕ) → 0 < n → n < s → part_full n s ≡ true
part_is n s some few = (let a : nat_lt 0 n ≡ true = grind (arith, nat_tests) in let b : nat_lt n s ≡ true = grind (arith, nat_tests) in rw (a, b) refl)

part_not : (n s : ℕ) → s ≤ n → part_full n s ≡ false
part_not n s all = (let b : nat_lt n s ≡ false = grind (arith, nat_tests) in rw b (and_no (nat_lt 0 n)))

part_none : (n s : ℕ) → n ≡ 0 → part_full n s ≡ false
part_none n s e = rw e refl

module _ (p : Paging) (ok : IsPaging p) (m : Held) (t : Tables) (serve : FitPagesShared p t) (o : Occupies p m t) where
  listed : (c page : ℕ) (w : Which) → Contains (pages_in t.lists c w) page → IsPageOf (class_table p) t page c w
  listed c page w h = placed_in (class_table p) t serve.tables c page w h

  counts : (c page : ℕ) (w : Which) → Contains (pages_in t.lists c w) page → objects_on p m c page ≡ used_in (slots_on t page)
  counts c page w h = o.counted c page (list_of (class_table p) t serve.tables c page w h)

  unlisted : (c page : ℕ) → is_in_pool (pages_in t.lists c Full) page ≡ false → is_in_pool (pages_in t.lists c NotFull) page ≡ false → ¬ IsOf t c page
  unlisted c page a b (inl h) = contains_no page (pages_in t.lists c Full) a h
  unlisted c page a b (inr h) = contains_no page (pages_in t.lists c NotFull) b h

  -- a page of class c
  module _ (c page : ℕ) where
    has_inner_object : is_in_pool (pages_in t.lists c NotFull) page ≡ true → part_full (objects_on p m c page) (slots_of p c) ≡ true
    has_inner_object e =
        let h = any_contains page (pages_in t.lists c NotFull) e in
        let n = counts c page NotFull h in
        let f = (listed c page NotFull h).fills in
        let some = f.0 in let few = f.1 in
        part_is (objects_on p m c page) (slots_of p c) (omega arith) (omega arith)

    is_full : is_in_pool (pages_in t.lists c Full) page ≡ true → objects_on p m c page ≡ slots_of p c
    is_full e = (let h = any_contains page (pages_in t.lists c Full) e in counts c page Full h ∙ (listed c page Full h).fills)

    some_slots : is_in_pool (pages_in t.lists c Full) page ≡ true → 0 < slots_of p c
    some_slots e = (listed c page Full (any_contains page (pages_in t.lists c Full) e)).some

    is_none : is_in_pool (pages_in t.lists c Full) page ≡ false → is_in_pool (pages_in t.lists c NotFull) page ≡ false → objects_on p m c page ≡ 0
    is_none a b = none_counts p ok t serve m o c page (unlisted c page a b)

    same_part : part_full (objects_on p m c page) (slots_of p c) ≡ is_in_pool (pages_in t.lists c NotFull) page
    same_part = by_tests (is_in_pool (pages_in t.lists c NotFull) page) (is_in_pool (pages_in t.lists c Full) page) refl refl
      where
        by_tests : (n f : Bool) → is_in_pool (pages_in t.lists c NotFull) page ≡ n → is_in_pool (pages_in t.lists c Full) page ≡ f
            → part_full (objects_on p m c page) (slots_of p c) ≡ is_in_pool (pages_in t.lists c NotFull) page
        by_tests true f a b = has_inner_object a ∙ sym a
        by_tests false true a b = (let e = is_full b in part_not (objects_on p m c page) (slots_of p c) (omega arith) ∙ sym a)
        by_tests false false a b = part_none (objects_on p m c page) (slots_of p c) (is_none b a) ∙ sym a

    split : one (nat_lt 0 (objects_on p m c page)) ≡ one (is_in_pool (pages_in t.lists c Full) page) + one (is_in_pool (pages_in t.lists c NotFull) page)
    split = by_tests (is_in_pool (pages_in t.lists c NotFull) page) (is_in_pool (pages_in t.lists c Full) page) refl refl
      where
        by_tests : (n f : Bool) → is_in_pool (pages_in t.lists c NotFull) page ≡ n → is_in_pool (pages_in t.lists c Full) page ≡ f
            → one (nat_lt 0 (objects_on p m c page)) ≡ one (is_in_pool (pages_in t.lists c Full) page) + one (is_in_pool (pages_in t.lists c NotFull) page)
        by_tests true true a b = absurd (
            let h = any_contains page (pages_in t.lists c NotFull) a in
            let n = counts c page NotFull h in
            let f = (listed c page NotFull h).fills in let few = f.1 in
            let e = is_full b in omega arith)
        by_tests true false a b =
            let h = any_contains page (pages_in t.lists c NotFull) a in
            let n = counts c page NotFull h in
            let f = (listed c page NotFull h).fills in let some = f.0 in
            let y = lt_yes 0 (objects_on p m c page) (omega arith) in
            let u = ap one a in let v = ap one b in omega arith
        by_tests false true a b =
            let e = is_full b in let s = some_slots b in
            let y = lt_yes 0 (objects_on p m c page) (omega arith) in
            let u = ap one a in let v = ap one b in omega arith
        by_tests false false a b =
            let e = is_none b a in
            let y = lt_no 0 (objects_on p m c page) (omega arith) in
            let u = ap one a in let v = ap one b in omega arith

  below : (c : ℕ) (w : Which) (page : ℕ) → is_in_pool (pages_in t.lists c w) page ≡ true → page < p.pages
  below c w page is =
      let lt = listed_page (class_table p) t serve.tables c page w (any_contains page (pages_in t.lists c w) is) in
      let e = serve.pages in omega arith

  members : (c : ℕ) (w : Which) → count_by (is_in_pool (pages_in t.lists c w)) (range_with_len 0 p.pages) ≡ length (pages_in t.lists c w)
  members c w = count_members p.pages (pages_in t.lists c w) (no_repeats (pages_in t.lists c w) (serve.tables.lists.distinct c w)) (below c w)

  -- the partly full pages of a class are those of its list
  pub not_full_pages_are : (c : ℕ) → not_full_pages p m c ≡ length (pages_in t.lists c NotFull)
  unfolding not_full_pages
  not_full_pages_are c =
      count_same (λ page. part_full (objects_on p m c page) (slots_of p c)) (is_in_pool (pages_in t.lists c NotFull)) 0 p.pages
      (λ page _. same_part c page) ∙ members c NotFull

  -- the pages of a class are those of its two lists
  pub home_pages_are : (c : ℕ) → pages_of_class p m c ≡ length (pages_in t.lists c Full) + length (pages_in t.lists c NotFull)
  unfolding pages_of_class
  home_pages_are c =
      let e = sum_same (λ page. one (nat_lt 0 (objects_on p m c page)))
      (λ page. one (is_in_pool (pages_in t.lists c Full) page) + one (is_in_pool (pages_in t.lists c NotFull) page)) (range_with_len 0 p.pages) (split c) in
      let f = sum_plus (λ page. one (is_in_pool (pages_in t.lists c Full) page)) (λ page. one (is_in_pool (pages_in t.lists c NotFull) page))
      (range_with_len 0 p.pages) in
      let a = members c Full in
      let b = members c NotFull in
      omega arith

  -- If no page is foreign:
  module _ (whole : NoneForeign t) where
    -- every page that isn't free has an object
    pub taken_stands : (page : ℕ) → page < p.pages → is_in_pool t.pool.free page ≡ false → 0 < count_on p m page
    taken_stands page lt not_free =
        let (c, w, q) = taken_page (class_table p) t serve.tables whole page (let e = serve.pages in omega arith) not_free in
        let n = counts c page w q.listed in
        let some = used_there w _ _ q.fills q.some in
        let f = on_page p m c page (omega arith) in
        subst (λ g. 0 < count_on p m g) f.3 (counted_here p m f.0 f.1 f.2)
      where
        used_there : (w : Which) (n s : ℕ) → HasUsed w n s → 0 < s → 0 < n
        used_there Full n s e some = omega arith
        used_there NotFull n s f some = f.0

    -- every page is either free or has an object
    free_or_taken : (page : ℕ) → page < p.pages → one (nat_lt 0 (count_on p m page)) + one (is_in_pool t.pool.free page) ≡ 1
    free_or_taken page lt = by_test (is_in_pool t.pool.free page) refl
      where
        by_test : (b : Bool) → is_in_pool t.pool.free page ≡ b → one (nat_lt 0 (count_on p m page)) + one (is_in_pool t.pool.free page) ≡ 1
        by_test true e =
            let z = free_bare p ok t serve m o page (free_page (class_table p) t serve.tables page (let f = serve.pages in omega arith) e) in
            let y = lt_no 0 (count_on p m page) (omega arith) in let u = ap one e in omega arith
        by_test false e = (let y = lt_yes 0 (count_on p m page) (taken_stands page lt e) in let u = ap one e in omega arith)

    -- the pages that are not in use are those of the pool
    pub pages_are : IsSound p m → used_pages p m + length t.pool.free ≡ p.pages
    pages_are s =
        let used = used_is p m s in
        let free = count_members p.pages t.pool.free serve.tables.pool.distinct
        (λ page is. (let lt = serve.tables.pool.below page is in let e = serve.pages in omega arith)) in
        let all = count_both (λ page. nat_lt 0 (count_on p m page)) (is_in_pool t.pool.free) 0 p.pages (λ page _ lt. free_or_taken page (omega arith)) in
        omega arith

    pub free_pages_are : IsSound p m → free_pages p m ≡ length t.pool.free
    free_pages_are s = (let e = pages_are s in omega arith)

    -- a class without partly full pages has no slot left if the pool is empty
    pub lacks_room : (c : ℕ) → pages_in t.lists c NotFull ≡ [] → t.pool.free ≡ [] → LacksRoom p m c
    lacks_room c none empty = record {
      full = not_full_pages_are c ∙ ap length none;
      taken = λ page lt. taken_stands page lt (ap (λ free. is_in_pool free page) empty);
    }
