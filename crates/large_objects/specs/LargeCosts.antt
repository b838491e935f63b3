-- How many steps the calls of an inner manager take, and those of a heap of long objects over it. Also the numbers that the steps depend on: of slots on a
-- page, of parts that an access touches, of words of slots, and of inner objects that share their pages. In all definitions u is the bytes of a whole part.
use Rattle.std.specs.Prelude.{◌≡◌, ℕ, Bool, ◌&&◌, ◌+◌, ◌-◌, ◌*◌, ◌/◌, ◌^◌, ◌≤◌, Option, Some, None, Result, Ok, Err, if◌then◌else◌, is_some, length, min, nat_eq, nat_le}
use Rattle.std.specs.Prelude.{sum_by}
use Rattle.std.specs.FinMap.{get}
use Rattle.std.specs.List.{range_with_len}
use Rattle.cf_base.specs.declared.results.AccessFault.{AccessFault}
use Rattle.cf_base.specs.declared.results.Freed.{Freed}
use Rattle.cf_base.specs.declared.results.Handle.{Handle}
use Rattle.cf_base.specs.declared.results.Refusal.{Refusal}
use Rattle.cf_base.specs.declared.kind.Kind.{Kind}
use Rattle.cf_model.specs.Bounds.{Bounds}
use Rattle.cf_model.specs.State.{HeapState, paging_in}
use Rattle.cf_model.specs.Steps.{Position}
use Rattle.cf_model.specs.Costs.{words_touched}
use Rattle.page_model.specs.Image.{slot_for}
use Rattle.page_model.specs.Order.{drop_steps, new_page_steps, word_steps}
use Rattle.page_model.specs.Paging.{Paging, class_for, slots_of}
use Rattle.page_model.specs.WordSteps.{blocks_of, wipe_steps}
use Rattle.large_objects.specs.Large.{LargeState}
use Rattle.large_objects.specs.LargeSteps.{part_bytes_in}
use Rattle.large_objects.specs.InnerObjects.{part_count, part_length, spine_bytes}

-- how many slots a page has in the class of an object of n bytes
abbrev pub slots_with : Paging → ℕ → ℕ
slots_with p n = slots_of p (class_for p n)

-- The steps of calls of an inner manager. In a class with k slots to a page a malloc takes at most `malloc k`, and a free of a slot of s words at most
-- `free k s`. A read or a write of `count` bytes from byte `from` on takes exactly `access from count`.
pub record InnerCosts : Type 0 where
  pub malloc : ℕ → ℕ
  pub free : ℕ → ℕ → ℕ
  pub access : ℕ → ℕ → ℕ

-- the exact steps of a malloc by a manager that promises an order, if the slot is a page of its own: a free page is taken, as no page of one slot is partly full
abbrev pub page_malloc_steps : Kind → ℕ
page_malloc_steps kind = 3 + word_steps kind + new_page_steps

-- the exact steps of a free, by such a manager, of a slot of s words that is a page of its own: the slot is cleared and the page empty, and no object moves
abbrev pub page_free_steps : Kind → ℕ → ℕ
page_free_steps kind s = 5 + word_steps kind + (wipe_steps kind s + drop_steps 1 1)

-- The steps c follow from a manager's own bounds b: a malloc or free has at least as many in c as in b, an access exactly as many, and the manager's totals
-- take no step. If the manager promises an order (`ordered`), the steps of a slot that is a page of its own follow from the order instead.
pub record FollowFrom (kind : Kind) (ordered : Bool) (b : Bounds) (c : InnerCosts) : Type 0 where
  pub malloc : (k : ℕ) (h : Handle) → (if ordered && nat_eq k 1 then page_malloc_steps kind else b.malloc (Ok h)) ≤ c.malloc k
  pub free : (k : ℕ) (freed : Freed)
      → (if ordered && nat_eq k 1 then page_free_steps kind freed.slot_words else b.free (Ok freed)) ≤ c.free k freed.slot_words
  pub access : (from count : ℕ) (u : Unit {0}) → b.access from count (Ok u) ≡ c.access from count
  pub totals : (s : HeapState) → b.totals_exact s ≡ 0

-- the steps c follow from the own bounds of the inner manager s, which must have some
abbrev pub AreInnerCosts : HeapState → Option Bounds → InnerCosts → Type 0
AreInnerCosts s None c = ⊥
AreInnerCosts s (Some b) c = FollowFrom s.kind (is_some s.order) b c

-- the steps of calls of a moving manager that promises an order; of an access two, and one for each word that has one of its bytes
abbrev pub moving_costs : InnerCosts
moving_costs = record {
  malloc = λ k. if nat_eq k 1 then 15 else 17;
  free = λ k s. (if nat_eq k 1 then 16 else 20) + s;
  access = λ from count. 2 + words_touched from count;
}

-- the steps of calls of a non-moving manager that promises an order; of an access three, and one for each word and for each block of four words that has one
-- of its bytes
abbrev pub nonmoving_costs : InnerCosts
nonmoving_costs = record {
  malloc = λ k. if nat_eq k 1 then 16 else 18;
  free = λ k s. if nat_eq k 1 then 17 + (s + s / 4) else 22 + (s + s / 2);
  access = λ from count. 3 + (words_touched from count + blocks_of (1 + from / 8) (words_touched from count));
}

-- the claim p holds of all steps that follow from the own bounds of the inner manager s
abbrev pub ByCosts : HeapState → Option Bounds → (InnerCosts → Type 0) → Type 0
ByCosts s most p = (c : InnerCosts) → AreInnerCosts s most c → p c

-- the count with which a call begins: the meter's, or 0 if the meter's is above 2 ^ 62, for then the call resets the meter
abbrev pub first_count : ℕ → ℕ
first_count count = if nat_le count (2 ^ 62) then count else 0

-- the steps of reading or writing the handle of part i in a spine
abbrev pub handle_steps : InnerCosts → ℕ → ℕ
handle_steps c i = c.access (4 * i) 4

-- the most steps of a malloc of an inner object of n bytes
abbrev pub inner_malloc_steps : InnerCosts → Paging → ℕ → ℕ
inner_malloc_steps c p n = c.malloc (slots_with p n)

-- the most steps of a free of an inner object of n bytes
abbrev pub inner_free_steps : InnerCosts → Paging → ℕ → ℕ
inner_free_steps c p n = c.free (slots_with p n) (slot_for p n)

-- the most steps of making the parts of an object of n bytes: for each those of a malloc, and of writing its handle into the spine
abbrev pub parts_malloc_steps : InnerCosts → Paging → ℕ → ℕ → ℕ
parts_malloc_steps c p u n = sum_by (λ i. inner_malloc_steps c p (part_length u n i) + handle_steps c i) (range_with_len 0 (part_count u n))

-- the most steps of freeing the parts of an object of n bytes: for each those of reading its handle in the spine, and of a free
abbrev pub parts_free_steps : InnerCosts → Paging → ℕ → ℕ → ℕ
parts_free_steps c p u n = sum_by (λ i. handle_steps c i + inner_free_steps c p (part_length u n i)) (range_with_len 0 (part_count u n))

-- the most steps of a malloc of an object of n bytes: those of one inner object if it fits a page, else those of its spine and its parts
abbrev pub object_malloc_steps : InnerCosts → Paging → ℕ → ℕ → ℕ
object_malloc_steps c p u n = if nat_le n u then inner_malloc_steps c p n else inner_malloc_steps c p (spine_bytes u n) + parts_malloc_steps c p u n

-- the most steps of a free of an object of n bytes: those of one inner object if it fits a page, else those of its parts and its spine
abbrev pub object_free_steps : InnerCosts → Paging → ℕ → ℕ → ℕ
object_free_steps c p u n =
    if nat_le n u then inner_free_steps c p n else parts_free_steps c p u n + inner_free_steps c p (spine_bytes u n)

-- how many bytes of part i are among the `count` bytes from byte `at` of the object on
abbrev pub bytes_in_part : ℕ → ℕ → ℕ → ℕ → ℕ
bytes_in_part u at count i = min u (at + count - u * i) - (at - u * i)

-- in how many parts the `count` bytes from byte `at` on are
abbrev pub parts_touched : ℕ → ℕ → ℕ → ℕ
parts_touched u at count = if nat_eq count 0 then 0 else (at + count - 1) / u + 1 - at / u

-- the steps of an access of `count` bytes of an object longer than a page, from byte `at` on: for each part that has one of them, those of reading its handle
-- in the spine, and of the access to its bytes
abbrev pub parts_access_steps : InnerCosts → ℕ → ℕ → ℕ → ℕ
parts_access_steps c u at count =
    sum_by (λ i. handle_steps c i + c.access (at - u * i) (bytes_in_part u at count i)) (range_with_len (at / u) (parts_touched u at count))

-- the steps of an access of `count` bytes of an object of n bytes, from byte `at` on: one call if the object fits a page, else part by part
abbrev pub object_access_steps : InnerCosts → ℕ → ℕ → ℕ → ℕ → ℕ
object_access_steps c u n at count = if nat_le n u then c.access at count else parts_access_steps c u at count

-- the most steps of a malloc of n bytes by its result; none if refused
abbrev pub large_malloc_steps : InnerCosts → LargeState → ℕ → Result Handle Refusal → ℕ
large_malloc_steps c s n (Ok h) = object_malloc_steps c (paging_in s.inner) (part_bytes_in s) n
large_malloc_steps c s n (Err e) = 0

-- the most steps of a free of object h; none if it isn't live
abbrev pub large_free_steps : InnerCosts → LargeState → ℕ → ℕ
large_free_steps c s h = elim (get s.objects h) [ None ↦ 0 | Some v ↦ object_free_steps c (paging_in s.inner) (part_bytes_in s) (length v) ]

-- the steps of an access by its result; none if refused
abbrev pub large_access_steps : InnerCosts → LargeState → Position → ℕ → Result Unit AccessFault → ℕ
large_access_steps c s position count (Ok u) =
    elim (get s.objects position.number) [ None ↦ 0 | Some v ↦ object_access_steps c (part_bytes_in s) (length v) position.from count ]
large_access_steps c s position count (Err e) = 0

-- the words of the slots of an object of n bytes, which is longer than a page: those of its parts and of its spine
abbrev pub slots_taken : Paging → ℕ → ℕ → ℕ
slots_taken p u n = sum_by (λ i. slot_for p (part_length u n i)) (range_with_len 0 (part_count u n)) + slot_for p (spine_bytes u n)

-- 1 if an object of n bytes shares its page, whose class has several slots a page; else 0
abbrev pub shares_page : Paging → ℕ → ℕ
shares_page p n = if nat_eq (slots_with p n) 1 then 0 else 1

-- how many of the inner objects of an object of n bytes, which is longer than a page, share their pages: of its parts and its spine
abbrev pub sharing : Paging → ℕ → ℕ → ℕ
sharing p u n = sum_by (λ i. shares_page p (part_length u n i)) (range_with_len 0 (part_count u n)) + shares_page p (spine_bytes u n)
