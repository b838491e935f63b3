-- The addresses that objects may have, the class of an object, sound arrangements, how many objects are on a page, how many objects, pages and partly full
-- pages a class has, the pages in use and those that objects need or can be on, and when a class has no slot left. `p` holds the pages and the classes, `m` the
-- objects; a class c is an index into the slot sizes.
use Rattle.std.specs.Prelude.{◌≡◌, ◌≢◌, ℕ, Bool, ◌&&◌, ◌+◌, ◌-◌, ◌%◌, ◌≤◌, ◌<◌, Some, length, filter, not, nat_lt, nat_eq, count_by, sum_by, cond}
use Rattle.std.specs.List.{range_with_len}
use Rattle.std.specs.FinMap.{get, values}
use Rattle.page_model.specs.Held.{Held, Objects, Placed}
use Rattle.page_model.specs.Paging.{Paging, classes, slot_words, slots_of, bound_of, class_for, page_of}
use Rattle.page_model.specs.Counts.{ceil_div, most_pages}

-- the class of object x, by its length
abbrev pub class_at : Paging → Placed → ℕ
class_at p x = class_for p (length x.bytes)

-- how many of the objects are of class c; `p` holds the slot sizes
unfoldable pub live : Paging → Objects → ℕ → ℕ
live p objects c = count_by (λ v. nat_eq (class_for p (length v)) c) (values objects)

-- whether object x is of class c and on the page
abbrev pub is_on : Paging → ℕ → ℕ → Placed → Bool
is_on p c page x = nat_eq (page_of p x.place) page && nat_eq (class_at p x) c

-- how many objects of the arrangement m are of class c and on the page
unfoldable pub objects_on : Paging → Held → ℕ → ℕ → ℕ
objects_on p m c page = count_by (is_on p c page) (values m)

-- how many objects of the arrangement m, of any class, are on the page
unfoldable pub count_on : Paging → Held → ℕ → ℕ
count_on p m page = count_by (λ (x : Placed). nat_eq (page_of p x.place) page) (values m)

-- how many of the pages p hold an object of class c of the arrangement m
unfoldable pub pages_of_class : Paging → Held → ℕ → ℕ
pages_of_class p m c = count_by (λ page. nat_lt 0 (objects_on p m c page)) (range_with_len 0 p.pages)

-- how many of the pages p are partly full with class c: they hold an object of class c, but fewer than they have slots
unfoldable pub not_full_pages : Paging → Held → ℕ → ℕ
not_full_pages p m c = count_by (λ page. nat_lt 0 (objects_on p m c page) && nat_lt (objects_on p m c page) (slots_of p c)) (range_with_len 0 p.pages)

-- how many of the pages p are in use by the arrangement m: the pages with an object of a class, summed over the classes
unfoldable pub used_pages : Paging → Held → ℕ
used_pages p m = sum_by (pages_of_class p m) (range_with_len 0 (classes p))

-- how many of the pages p are not in use by the arrangement m
abbrev pub free_pages : Paging → Held → ℕ
free_pages p m = p.pages - used_pages p m

-- how many pages suffice for `count c` objects of each class c: `count c` over the slots of a page, rounded up, summed over the classes
abbrev pub pages_for : Paging → (ℕ → ℕ) → ℕ
pages_for p count = sum_by (λ c. ceil_div (count c) (slots_of p c)) (range_with_len 0 (classes p))

-- how many pages the objects need at least: for each class its objects over the slots of a page, rounded up, summed over the classes
unfoldable pub pages_needed : Paging → Objects → ℕ
pages_needed p objects = pages_for p (live p objects)

-- how many pages the objects and one more of n bytes need at least
unfoldable pub pages_needed_with : Paging → Objects → ℕ → ℕ
pages_needed_with p objects n = pages_for p (λ c. live p objects c + cond (nat_eq (class_for p n) c) 1 0)

-- the most pages that the objects of the classes other than c can be on
unfoldable pub most_pages_besides : Paging → Objects → ℕ → ℕ
most_pages_besides p objects c = sum_by (λ d. most_pages (live p objects d) (slots_of p d) (bound_of p d))
    (filter (λ d. not (nat_eq d c)) (range_with_len 0 (classes p)))

-- a slot of class c begins at address a: its page exists, it begins a whole number of slots after the page's first word, and it ends within the page
pub record IsSlotAt (p : Paging) (c a : ℕ) : Type 0 where
  pub class : c < classes p
  pub page : page_of p a < p.pages
  pub aligned : a % p.page_words % slot_words p c ≡ 0
  pub fits : a % p.page_words + slot_words p c ≤ p.page_words

-- each object is in a slot of its class (`slots`), and no two are at one address (`own_place`); the objects of a page are of one class; no class has more
-- partly full pages than its bound
pub record IsSound (p : Paging) (m : Held) : Type 0 where
  pub slots : (h : ℕ) (x : Placed) → get m h ≡ Some x → IsSlotAt p (class_at p x) x.place
  pub own_place : (h : ℕ) (x : Placed) (q : ℕ) (y : Placed) → get m h ≡ Some x → get m q ≡ Some y → q ≢ h → x.place ≢ y.place
  pub one_class : (h : ℕ) (x : Placed) (q : ℕ) (y : Placed) → get m h ≡ Some x → get m q ≡ Some y → page_of p x.place ≡ page_of p y.place
      → class_at p x ≡ class_at p y
  pub few_not_full : (c : ℕ) → c < classes p → not_full_pages p m c ≤ bound_of p c

-- class c has no slot left in the arrangement m on the pages p: none of its pages is partly full, and every page holds an object
pub record LacksRoom (p : Paging) (m : Held) (c : ℕ) : Type 0 where
  pub full : not_full_pages p m c ≡ 0
  pub taken : (page : ℕ) → page < p.pages → 0 < count_on p m page
