-- A test's result as a number, 1 or 0. Counts over the values of a map: 0 if and only if no value passes the test. When an object is on a page with its class,
-- when a page has objects, and when it is partly full (`part_full`). If two arrangements differ on one page at most, their counts of a class's pages and of its
-- partly full pages differ as that page does.
use Rattle.std.proofs.Common.{◌≡◌, ◌≢◌, ℕ, Bool, true, false, ◌+◌, ◌<◌, ◌≤◌, Some, None, arith, sym, ◌∙◌, inl, inr, ap, refl}
use Rattle.std.specs.Prelude.{◌⊎◌, ◌&&◌, nat_lt, nat_eq, count_by}
use Rattle.std.proofs.lemmas.Bool.{cases_eq, false≢true}
use Rattle.std.proofs.lemmas.Bool.Decides.{nat_tests}
use Rattle.std.specs.Ordering.{nat_cmp}
use Rattle.std.specs.FinMap.{FinMap, get, insert, empty, values}
use Rattle.cf_base.proofs.Maps.{get_inserted}
use Rattle.cf_base.proofs.Sums.{sum_by-inserted, sum_by-removed}
use Rattle.cf_base.proofs.Induction.{map_induction}
use Rattle.cf_base.proofs.Tests.{eq_yes, eq_no, and_false}
use Rattle.cf_base.proofs.Values.{no_values, still}
use Rattle.cf_base.proofs.Ranges.{one, count_same, count_changed}
use Rattle.page_model.specs.Held.{Held, Placed}
use Rattle.page_model.specs.Paging.{Paging, slots_of, page_of}
use Rattle.page_model.specs.Arrangement.{class_at, is_on, objects_on, count_on, not_full_pages, pages_of_class}

pub one_le : (b : Bool) → one b ≤ 1
one_le true = omega arith
one_le false = omega arith

pub less_counts : (a b : ℕ) → a < b → one (nat_lt a b) ≡ 1
less_counts a b h = (let e : nat_lt a b ≡ true = grind (arith, nat_tests) in rw e)

pub not_less_counts_none : (a b : ℕ) → b ≤ a → one (nat_lt a b) ≡ 0
not_less_counts_none a b h = (let e : nat_lt a b ≡ false = grind (arith, nat_tests) in rw e)

-- whether a page of s slots with n objects is partly full
abbrev pub part_full : ℕ → ℕ → Bool
part_full n s = nat_lt 0 n && nat_lt n s

pub part_yes : (n s : ℕ) → 0 < n → n < s → one (part_full n s) ≡ 1
part_yes n s p q =
    let a : nat_lt 0 n ≡ true = grind (arith, nat_tests) in
    let b : nat_lt n s ≡ true = grind (arith, nat_tests) in
    rw (a, b)

pub part_empty : (n m : ℕ) → n ≡ 0 → one (part_full n m) ≡ 0
part_empty n m e = rw e

pub part_over : (n m : ℕ) → m ≤ n → one (part_full n m) ≡ 0
part_over n m h = (let b : nat_lt n m ≡ false = grind (arith, nat_tests) in rw b (ap one (and_false (nat_lt 0 n))))

module _ {V : Type 0} where
  -- if the count isn't 0, a value passes the test
  pub some_counted : (f : V → Bool) (m : FinMap nat_cmp V) → 0 < count_by f (values m) → (q : ℕ) × (y : V) × (get m q ≡ Some y) × (f y ≡ true)
  some_counted f = map_induction (λ m. 0 < count_by f (values m) → (q : ℕ) × (y : V) × (get m q ≡ Some y) × (f y ≡ true))
      (λ lt. absurd (let e : count_by f (values (empty {X = V} {R = nat_cmp})) ≡ 0 = ap (count_by f) no_values in omega arith))
      (λ m h x none ih lt. (
      let e : count_by f (values (insert m h x)) ≡ count_by f (values m) + one (f x) = sum_by-inserted (λ y. one (f y)) m h x none in
      go m h x none ih (f x) refl (omega arith)))
    where
      go : (m : FinMap nat_cmp V) (h : ℕ) (x : V) → get m h ≡ None → (0 < count_by f (values m) → (q : ℕ) × (y : V) × (get m q ≡ Some y) × (f y ≡ true))
          → (b : Bool) → f x ≡ b → 0 < count_by f (values m) + one b → (q : ℕ) × (y : V) × (get (insert m h x) q ≡ Some y) × (f y ≡ true)
      go m h x none ih true e lt = (h, x, get_inserted m h x, e)
      go m h x none ih false e lt = (let o = ih (omega arith) in (o.0, o.1, (still m h x none o.0 o.1 o.2).1, o.3))

  -- if the count is 0, no value passes
  pub none_counted : (f : V → Bool) (m : FinMap nat_cmp V) (q : ℕ) (y : V) → get m q ≡ Some y → count_by f (values m) ≡ 0 → f y ≡ false
  none_counted f m q y p zero' = go (f y) (let e = sum_by-removed (λ y. one (f y)) m q y p in omega arith)
    where
      go : (b : Bool) → one b ≡ 0 → b ≡ false
      go true e = absurd (omega arith)
      go false e = refl

  -- if a value passes, the count isn't 0
  pub counted : (f : V → Bool) (m : FinMap nat_cmp V) (q : ℕ) (y : V) → get m q ≡ Some y → f y ≡ true → 0 < count_by f (values m)
  counted f m q y p e = (let s = sum_by-removed (λ y. one (f y)) m q y p in let o : one (f y) ≡ 1 = rw e in omega arith)

module _ (p : Paging) where
  -- an object counted on a page has that page and that class
  pub on_parts : (c page : ℕ) (x : Placed) → is_on p c page x ≡ true → (page_of p x.place ≡ page) × (class_at p x ≡ c)
  on_parts c page x e = elim (cases_eq (page_of p x.place) page) [
    | inl is ↦ elim (cases_eq (class_at p x) c) [
      | inl is' ↦ (is, is')
      | inr ne ↦ absurd (let f = eq_no (class_at p x) c ne in let e' : (nat_eq (page_of p x.place) page && false) ≡ true =
          rw f at e in false≢true (sym (and_false _) ∙ e'))
    ]
    | inr ne ↦ absurd (let f = eq_no (page_of p x.place) page ne in false≢true (rw f at e))
  ]

  pub on_yes : (c page : ℕ) (x : Placed) → page_of p x.place ≡ page → class_at p x ≡ c → is_on p c page x ≡ true
  on_yes c page x a b = (let a' = eq_yes (page_of p x.place) page a in let b' = eq_yes (class_at p x) c b in rw (a', b'))

  pub on_no : (c page : ℕ) (x : Placed) → ((page_of p x.place ≢ page) ⊎ (class_at p x ≢ c)) → one (is_on p c page x) ≡ 0
  on_no c page x (inl ne) = (let f = eq_no (page_of p x.place) page ne in rw f)
  on_no c page x (inr ne) = (let f = eq_no (class_at p x) c ne in rw f (ap one (and_false _)))

  -- the page of an object has an object of its class
  pub here : (m : Held) (q : ℕ) (y : Placed) → get m q ≡ Some y → 0 < objects_on p m (class_at p y) (page_of p y.place)
  unfolding objects_on
  here m q y f = counted (is_on p (class_at p y) (page_of p y.place)) m q y f (on_yes _ _ y refl refl)

  pub counted_here : (m : Held) (q : ℕ) (y : Placed) → get m q ≡ Some y → 0 < count_on p m (page_of p y.place)
  unfolding count_on
  counted_here m q y f = counted (λ (x : Placed). nat_eq (page_of p x.place) (page_of p y.place)) m q y f (eq_yes _ _ refl)

  -- if a page's count of a class isn't 0, an object of the class is on it
  pub on_page : (m : Held) (c page : ℕ) → 0 < objects_on p m c page
      → (q : ℕ) × (y : Placed) × (get m q ≡ Some y) × (page_of p y.place ≡ page) × (class_at p y ≡ c)
  unfolding objects_on
  on_page m c page lt = (let o = some_counted (is_on p c page) m lt in let e = on_parts c page o.1 o.3 in (o.0, o.1, o.2, e.0, e.1))

  pub standing : (m : Held) (page : ℕ) → 0 < count_on p m page → (q : ℕ) × (y : Placed) × (get m q ≡ Some y) × (page_of p y.place ≡ page)
  unfolding count_on
  standing m page lt = (
      let o = some_counted (λ (x : Placed). nat_eq (page_of p x.place) page) m lt in (
        o.0,
        o.1,
        o.2,
        elim (cases_eq (page_of p (o.1).place) page) [
          | inl is ↦ is
          | inr ne ↦ absurd (let f = eq_no _ _ ne in false≢true (rw f at o.3))
        ],
      ))

  -- no object is on a page whose count is 0
  pub nothing_on : (m : Held) (page : ℕ) → count_on p m page ≡ 0 → (q : ℕ) (y : Placed) → get m q ≡ Some y → page_of p y.place ≢ page
  nothing_on m page none q y f is = (let s = counted_here m q y f in let t : count_on p m (page_of p y.place) ≡ 0 = rw is none in omega arith)

-- Two arrangements with the same objects of a class on every page but one.
module _ (p : Paging) (m n : Held) (c page : ℕ) (others : (g : ℕ) → g ≢ page → objects_on p n c g ≡ objects_on p m c g) where
  -- the counts of partly full pages differ as that page does
  pub not_full-changed : page < p.pages → not_full_pages p n c + one (part_full (objects_on p m c page) (slots_of p c)) ≡ not_full_pages p m c + one
      (part_full (objects_on p n c page) (slots_of p c))
  unfolding not_full_pages
  not_full-changed lt =
      count_changed (λ g. part_full (objects_on p n c g) (slots_of p c)) (λ g. part_full (objects_on p m c g) (slots_of p c)) 0 p.pages page (omega arith)
      (omega arith)
      (λ g ne. ap (λ k. part_full k (slots_of p c)) (others g ne))

  -- the counts of pages with an object differ as that page does
  pub home-changed : page < p.pages → pages_of_class p n c + one (nat_lt 0 (objects_on p m c page)) ≡ pages_of_class p m c + one (nat_lt 0 (objects_on p n c page))
  unfolding pages_of_class
  home-changed lt =
      count_changed (λ g. nat_lt 0 (objects_on p n c g)) (λ g. nat_lt 0 (objects_on p m c g)) 0 p.pages page (omega arith) (omega arith)
      (λ g ne. ap (nat_lt 0) (others g ne))

-- Two arrangements with the same objects of a class on every page.
module _ (p : Paging) (m n : Held) (c : ℕ) (same : (g : ℕ) → objects_on p n c g ≡ objects_on p m c g) where
  pub not_full-same : not_full_pages p n c ≡ not_full_pages p m c
  unfolding not_full_pages
  not_full-same = count_same _ _ 0 p.pages (λ g _. ap (λ k. part_full k (slots_of p c)) (same g))
