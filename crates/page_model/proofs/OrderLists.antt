-- When an order lists exactly the free and the partly full pages of an arrangement, each once (`ListsPages`). That depends only on the counts of objects on
-- each page, not on the order's free numbers. A page has no objects if and only if it has none of any class. When an arrangement has one object more than
-- another (`HasOneMore`).
use Rattle.std.proofs.Common.{◌≡◌, ◌≢◌, ℕ, ◌+◌, ◌<◌, List, [], length, get_or, set, arith, refl, sym, ◌∙◌, ap, subst, inl, inr}
use Rattle.std.specs.Prelude.{◌⊎◌, ◌↔◌, nat_eq}
use Rattle.std.specs.List.{Contains, IsDistinct}
use Rattle.std.proofs.lemmas.Bool.{cases_eq, cases_lt}
use Rattle.std.proofs.lemmas.List.{get_or-set_same, get_or-set_other, length-set}
use Rattle.cf_base.proofs.Ranges.{one}
use Rattle.page_model.specs.Held.{Held, Placed}
use Rattle.page_model.specs.Paging.{Paging, classes, page_of}
use Rattle.page_model.specs.Arrangement.{class_at, is_on, objects_on, count_on}
use Rattle.page_model.specs.Order.{Order, IsOrderOf, IsPartlyFull, not_full_in}
use Rattle.page_model.proofs.Counting.{here, on_no, on_page, on_yes, standing, counted_here}

module _ (p : Paging) (m : Held) where
  -- a page with objects of a class has objects
  pub occupied : (c g : ℕ) → 0 < objects_on p m c g → 0 < count_on p m g
  occupied c g some = (let f = on_page p m c g some in subst (λ j. 0 < count_on p m j) f.3 (counted_here p m f.0 f.1 f.2))

  -- a page without objects of any class has none
  pub bare_page : (g : ℕ) → ((d : ℕ) → objects_on p m d g ≡ 0) → count_on p m g ≡ 0
  bare_page g none = elim (cases_lt 0 (count_on p m g)) [
    | inl some ↦ absurd (
        let f = standing p m g some in
        let h : 0 < objects_on p m (class_at p f.1) g = subst (λ j. 0 < objects_on p m (class_at p f.1) j) f.3 (here p m f.0 f.1 f.2) in
        let z = none (class_at p f.1) in
        omega arith)
    | inr le ↦ omega arith
  ]

  pub bare_class : (g : ℕ) → count_on p m g ≡ 0 → (d : ℕ) → objects_on p m d g ≡ 0
  bare_class g bare d = elim (cases_lt 0 (objects_on p m d g)) [
    | inl some ↦ absurd (let s = occupied d g some in omega arith)
    | inr le ↦ omega arith
  ]

  -- the list has exactly the free pages
  abbrev pub IsPool : List ℕ → Type 0
  IsPool xs = (g : ℕ) → Contains xs g ↔ ((g < p.pages) × (count_on p m g ≡ 0))

  -- the list has exactly the partly full pages of class d
  abbrev pub IsList : ℕ → List ℕ → Type 0
  IsList d xs = (g : ℕ) → Contains xs g ↔ ((g < p.pages) × IsPartlyFull p m d g)

-- a page without objects in m has none in n, if the arrangements have the same counts of each class on it
pub bare_same : (p : Paging) (n m : Held) (g : ℕ) → ((d : ℕ) → objects_on p n d g ≡ objects_on p m d g) → count_on p m g ≡ 0 → count_on p n g ≡ 0
bare_same p n m g same bare = bare_page p n g (λ d. same d ∙ bare_class p m g bare d)

pub list_same : (p : Paging) (n m : Held) (d : ℕ) (xs : List ℕ) → ((g : ℕ) → objects_on p n d g ≡ objects_on p m d g) → IsList p m d xs → IsList p n d xs
list_same p n m d xs same is g =
    let e = same g in (
      λ there. (let (l, (a, b)) = (is g).0 there in (l, (omega arith, omega arith))),
      λ (l, (a, b)). (is g).1 (l, (omega arith, omega arith)),
    )

-- the order lists the pages of the arrangement m, each once; nothing is said of its spare numbers
pub record ListsPages (p : Paging) (m : Held) (o : Order) : Type 0 where
  pub pool : IsPool p m o.pool
  pub pool_once : IsDistinct nat_eq o.pool
  pub as_many : length o.not_full ≡ classes p
  pub not_full : (c : ℕ) → c < classes p → IsList p m c (not_full_in o c)
  pub not_full_once : (c : ℕ) → c < classes p → IsDistinct nat_eq (not_full_in o c)

pub pages_listed : (p : Paging) (m : Held) (limit : ℕ) (o : Order) → IsOrderOf p m limit o → ListsPages p m o
pages_listed p m limit o is = record {
  pool = is.pool;
  pool_once = is.pool_once;
  as_many = is.as_many;
  not_full = λ c lt g. is.not_full c g lt;
  not_full_once = is.not_full_once;
}

-- with other spare numbers, it lists the same pages
pub renumbered : (p : Paging) (m : Held) (o : Order) (spare : List ℕ) → ListsPages p m o → ListsPages p m (record o { spare = spare })
renumbered p m o spare is = record {
  pool = is.pool;
  pool_once = is.pool_once;
  as_many = is.as_many;
  not_full = is.not_full;
  not_full_once = is.not_full_once;
}

-- the order lists the pages of each arrangement with the same counts
pub still_listed : (p : Paging) (n m : Held) (o : Order) → ((d g : ℕ) → objects_on p n d g ≡ objects_on p m d g) → ListsPages p m o → ListsPages p n o
still_listed p n m o same is = record {
  pool = λ g. (
    λ there. (let (l, bare) = (is.pool g).0 there in (l, bare_same p n m g (λ d. same d g) bare)),
    λ (l, bare). (is.pool g).1 (l, bare_same p m n g (λ d. sym (same d g)) bare),
  );
  pool_once = is.pool_once;
  as_many = is.as_many;
  not_full = λ c lt. list_same p n m c (not_full_in o c) (same c) (is.not_full c lt);
  not_full_once = is.not_full_once;
}

-- only the pool changes, or the pool and the list of class c
module _ (p : Paging) (m : Held) (o : Order) (c : ℕ) (as_many : length o.not_full ≡ classes p) (free : List ℕ) (pool : IsPool p m free)
    (pool_once : IsDistinct nat_eq free)
    (others : (d : ℕ) → d < classes p → d ≢ c → IsList p m d (not_full_in o d)) (once : (d : ℕ) → d < classes p → IsDistinct nat_eq (not_full_in o d)) where
  pub lists_kept : IsList p m c (not_full_in o c) → ListsPages p m (record o { pool = free })
  lists_kept list = record {
    pool = pool;
    pool_once = pool_once;
    as_many = as_many;
    not_full = λ d l g. elim (cases_eq d c) [
      | inl e ↦ rw e (list g)
      | inr ne ↦ others d l ne g
    ];
    not_full_once = once;
  }

  pub list_changed : c < classes p → (xs : List ℕ) → IsList p m c xs → IsDistinct nat_eq xs
      → ListsPages p m (record o { pool = free; not_full = set o.not_full c xs })
  list_changed lt xs list list_once =
      let inside : c < length o.not_full = omega arith in
      let at : get_or (set o.not_full c xs) c [] ≡ xs = get_or-set_same o.not_full c xs [] inside in
      let off : (d : ℕ) → d ≢ c → get_or (set o.not_full c xs) d [] ≡ not_full_in o d = λ d ne. get_or-set_other o.not_full c d xs [] ne in
      record {
        pool = pool;
        pool_once = pool_once;
        as_many = length-set o.not_full c xs ∙ as_many;
        not_full = λ d l g. elim (cases_eq d c) [
          | inl e ↦ rw (e, at) (list g)
          | inr ne ↦ rw (off d ne) (others d l ne g)
        ];
        not_full_once = λ d l. elim (cases_eq d c) [
          | inl e ↦ rw (e, at) list_once
          | inr ne ↦ rw (off d ne) (once d l)
        ];
      }

-- m has the objects of n, by counts, and one more of class c on the page
pub record HasOneMore (p : Paging) (n m : Held) (c page : ℕ) : Type 0 where
  pub more : objects_on p m c page ≡ objects_on p n c page + 1
  pub others : (d g : ℕ) → (page ≢ g) ⊎ (c ≢ d) → objects_on p m d g ≡ objects_on p n d g

pub one_more : (p : Paging) (n m : Held) (y : Placed) → ((d g : ℕ) → objects_on p n d g + one (is_on p d g y) ≡ objects_on p m d g)
    → HasOneMore p n m (class_at p y) (page_of p y.place)
one_more p n m y counts = record {
  more = (
      let e = counts (class_at p y) (page_of p y.place) in
      let f = ap one (on_yes p (class_at p y) (page_of p y.place) y refl refl) in
      omega arith);
  others = λ d g away. (let e = counts d g in let f = on_no p d g y away in omega arith);
}
