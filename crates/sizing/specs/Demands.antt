-- What a program may have live: a greatest number of objects of each class, of each length, or of each length in each of several modes, or objects within a
-- budget; which pages a budget affords, and how many pages are enough.
use Rattle.std.specs.Prelude.{ℕ, zero, suc, ◌+◌, ◌*◌, ◌<◌, ◌≤◌, List, [], ◌∷◌, Contains, length, max, min, sum_by}
use Rattle.std.specs.FinMap.{values}
use Rattle.std.specs.List.{range_with_len}
use Rattle.page_model.specs.Arrangement.{live}
use Rattle.page_model.specs.Counts.{ceil_div, most_pages}
use Rattle.page_model.specs.Held.{Objects}
use Rattle.page_model.specs.Paging.{Paging, bound_of, class_for, classes, slots_of}
use Rattle.quota_model.specs.Admission.{count_of_class, declared, in_order, live_of, pages_needed_by}
use Rattle.quota_model.specs.declared.results.Need.{Need}

-- of each class c at most `most c` objects
abbrev pub HasAtMost : Paging → (ℕ → ℕ) → Objects → Type 0
HasAtMost p most o = (c : ℕ) → c < classes p → live p o c ≤ most c

-- of each length at most the number of objects that the needs declare
abbrev pub KeepsTo : List Need → Objects → Type 0
KeepsTo needs o = (n : ℕ) → live_of o n ≤ declared needs n

-- within the needs of at least one of the modes
abbrev pub KeepsToOne : List (List Need) → Objects → Type 0
KeepsToOne modes o = (needs : List Need) × Contains modes needs × KeepsTo needs o

-- The objects cost at most `budget` in all: one of n bytes costs `cost n`. That is n for a budget of bytes, 1 for one of objects, and more than the budget if the
-- program asks for no object of n bytes. If the program rounds its requests up, `cost n` is, for a budget of bytes, the least request that is rounded up to n.
abbrev pub KeepsBudget : (ℕ → ℕ) → ℕ → Objects → Type 0
KeepsBudget cost budget o = sum_by (λ (v : List ℕ). cost (length v)) (values o) ≤ budget

-- no object of class c costs less than `price c`
abbrev pub ArePrices : Paging → (ℕ → ℕ) → (ℕ → ℕ) → Type 0
ArePrices p cost price = (n : ℕ) → class_for p n < classes p → price (class_for p n) ≤ cost n

-- how many objects open q pages of m slots: a page is opened only if all others are full
abbrev pub objects_to_open : ℕ → ℕ → ℕ
objects_to_open zero m = 0
objects_to_open (suc q) m = q * m + 1

-- the budget pays for the objects that open these pages of each class, each at the price of its class
abbrev pub Affords : Paging → (ℕ → ℕ) → ℕ → (ℕ → ℕ) → Type 0
Affords p price budget pages = sum_by (λ c. objects_to_open (pages c) (slots_of p c) * price c) (range_with_len 0 (classes p)) ≤ budget

-- how many objects of class c the needs declare
abbrev pub count_in : Paging → List Need → ℕ → ℕ
count_in p needs c = count_of_class p (in_order needs) c

-- the greatest number that f has for one of the modes, 0 if there is none
abbrev pub greatest_of : (List Need → ℕ) → List (List Need) → ℕ
greatest_of f [] = 0
greatest_of f (needs ∷ more) = max (f needs) (greatest_of f more)

-- the pages that the mode with the greatest need needs
abbrev pub pages_of_modes : Paging → List (List Need) → ℕ
pages_of_modes p modes = greatest_of (λ needs. pages_needed_by p (in_order needs)) modes

-- The most pages that class c can have in one of the modes: those that the objects of the mode can be on, and no more than the objects of any mode fill, as a
-- page is opened only when all are full.
abbrev pub spread_of : Paging → List (List Need) → List Need → ℕ → ℕ
spread_of p modes needs c =
    min (most_pages (count_in p needs c) (slots_of p c) (bound_of p c)) (ceil_div (greatest_of (λ needs. count_in p needs c) modes) (slots_of p c))

-- pages that are enough for the modes, whatever the bounds: those of the mode in which the classes can have most
abbrev pub spread_of_modes : Paging → List (List Need) → ℕ
spread_of_modes p modes = greatest_of (λ needs. sum_by (spread_of p modes needs) (range_with_len 0 (classes p))) modes
