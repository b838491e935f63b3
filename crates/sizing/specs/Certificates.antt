-- What certifies that pages are enough for a program, whatever the bounds. For a program with modes: points, each a mode and a list of the pages of each class.
-- While the program is in a mode, one of the mode's points has at least the pages that each class uses; resizes need more conditions (`AreForResizes`). For a
-- program with a budget: for each class a level, a cost that the objects of any full page reach, and, if the pages are to be the least, pages that the budget
-- pays for. An unverified planner can compute all these, and `is_certified`, `are_budget_levels` and `is_budget_certificate` test them.
use Rattle.std.specs.Prelude.{◌≡◌, ◌≢◌, ℕ, ◌+◌, ◌-◌, ◌*◌, ◌/◌, ◌<◌, ◌≤◌, All, List, [], ◌∷◌, Contains, if◌then◌else◌, length, min, nat_eq, slice_index, slice_index_or, sum_by}
use Rattle.std.specs.List.{range_with_len}
use Rattle.page_model.specs.Counts.{ceil_div, most_pages}
use Rattle.page_model.specs.Paging.{Paging, bound_of, classes, slots_of}
use Rattle.quota_model.specs.Admission.{declared}
use Rattle.quota_model.specs.declared.results.Need.{Need}
use Rattle.sizing.specs.Demands.{Affords, count_in}
use Rattle.sizing.specs.declared.certificate.PointPages.{PointPages}

-- the needs of the mode with number j, counted from 0
abbrev pub mode_at : List (List Need) → ℕ → List Need
mode_at modes j = slice_index_or modes j []

-- how many objects of class c the mode with number j has at most
abbrev pub mode_count : Paging → List (List Need) → ℕ → ℕ → ℕ
mode_count p modes j c = count_in p (mode_at modes j) c

-- the objects that two lists of needs both declare, of each length the smaller number: the entries of the first list, each with at most the count that `others`
-- declare of its length, less what the later entries of the first list declare of that length
abbrev pub in_both : List Need → List Need → List Need
in_both [] others = []
in_both (e ∷ rest) others = record { bytes = e.bytes; count = min e.count (declared others e.bytes - declared rest e.bytes) } ∷ in_both rest others

-- how many objects of class c can stay when the program goes from mode i to mode j: of each length the smaller of the two modes' numbers
abbrev pub kept_count : Paging → List (List Need) → ℕ → ℕ → ℕ → ℕ
kept_count p modes i j c = count_in p (in_both (mode_at modes i) (mode_at modes j)) c

-- the numbers `counts` by class, with one more for class c
abbrev pub one_more_of : ℕ → (ℕ → ℕ) → ℕ → ℕ
one_more_of c counts e = if nat_eq e c then counts e + 1 else counts e

-- The point x leads to the point y, if of each class c at most `kept c` objects stay: in each class y has at least the pages of x, or at least the most pages
-- that the objects that stay can be on.
abbrev pub LeadsToPoint : Paging → (ℕ → ℕ) → PointPages → PointPages → Type 0
LeadsToPoint p kept x y = (c : ℕ) → c < classes p → min (slice_index x.pages c) (most_pages (kept c) (slots_of p c) (bound_of p c)) ≤ slice_index y.pages c

-- the point x leads to one of the points of mode j
abbrev pub LeadsInto : Paging → List PointPages → (ℕ → ℕ) → PointPages → ℕ → Type 0
LeadsInto p points kept x j = (y : PointPages) × Contains points y × (y.mode ≡ j) × LeadsToPoint p kept x y

-- What a point of a certificate must meet: there is its mode (`known`). It has at least the pages that the objects of its mode need (`tops`), and its pages are
-- within those of the heap (`enough`). It leads to one of the points of each mode (`next`).
pub record IsPoint (p : Paging) (modes : List (List Need)) (points : List PointPages) (x : PointPages) : Type 0 where
  pub known : x.mode < length modes
  pub tops : (c : ℕ) → c < classes p → ceil_div (mode_count p modes x.mode c) (slots_of p c) ≤ slice_index x.pages c
  pub enough : sum_by (slice_index x.pages) (range_with_len 0 (classes p)) ≤ p.pages
  pub next : (j : ℕ) → j < length modes → LeadsInto p points (kept_count p modes x.mode j) x j

-- the points are a certificate for the modes: each mode has a point (`first`), and each point meets `IsPoint` (`each`)
pub record IsCertificate (p : Paging) (modes : List (List Need)) (points : List PointPages) : Type 0 where
  pub first : (j : ℕ) → j < length modes → (x : PointPages) × Contains points x × (x.mode ≡ j)
  pub each : All (IsPoint p modes points) points

-- The point x leads to one of the points of mode j also if a resize within a class leads to mode j. By class, the mode of x has at most `before` objects, mode j
-- at most `after`, and `kept` can stay; with the resize one object more of its class stays, if both modes have more than `kept`.
abbrev pub KeepsResized : Paging → List PointPages → (kept before after : ℕ → ℕ) → PointPages → ℕ → Type 0
KeepsResized p points kept before after x j = (c : ℕ) → c < classes p → kept c < before c → kept c < after c → LeadsInto p points (one_more_of c kept) x j

-- The most pages of class e while a resize has its object in two slots, one of class c and the new one of class d. Before the resize the class has at most these
-- `pages`, and its mode at most `before` objects of it; the mode afterwards has at most `after`, and `kept` other objects can stay.
abbrev pub pages_with_copy : Paging → ℕ → ℕ → ℕ → (pages kept before after : ℕ) → ℕ
pages_with_copy p c d e pages kept before after = if nat_eq e d
    then min (pages + 1) (ceil_div (min (kept + 1) after) (slots_of p e))
    else min pages (most_pages (if nat_eq e c then min (kept + 1) before else kept) (slots_of p e) (bound_of p e))

-- the pages hold an object in two slots during a resize from the point x: from each class of its mode into each other class of the mode afterwards
abbrev pub HoldsCopies : Paging → (kept before after : ℕ → ℕ) → PointPages → Type 0
HoldsCopies p kept before after x = (c : ℕ) → c < classes p → 0 < before c → (d : ℕ) → d < classes p → d ≢ c → 0 < after d
    → sum_by (λ e. pages_with_copy p c d e (slice_index x.pages e) (kept e) (before e) (after e)) (range_with_len 0 (classes p)) ≤ p.pages

-- the certificate allows for resizes within a class, from each point into each mode
abbrev pub KeepResized : Paging → List (List Need) → List PointPages → Type 0
KeepResized p modes points = (x : PointPages) → Contains points x → (j : ℕ) → j < length modes
    → KeepsResized p points (kept_count p modes x.mode j) (mode_count p modes x.mode) (mode_count p modes j) x j

-- the pages hold the copies of resizes into another class, from each point into each mode
abbrev pub HoldCopies : Paging → List (List Need) → List PointPages → Type 0
HoldCopies p modes points = (x : PointPages) → Contains points x → (j : ℕ) → j < length modes
    → HoldsCopies p (kept_count p modes x.mode j) (mode_count p modes x.mode) (mode_count p modes j) x

-- the certificate is one for resizes too: those within a class (`within`), and those into another class (`copies`)
pub record AreForResizes (p : Paging) (modes : List (List Need)) (points : List PointPages) : Type 0 where
  pub within : KeepResized p modes points
  pub copies : HoldCopies p modes points

-- at most how many pages of class c can be partly full: its bound, or, if fewer, the pages that the objects of the class fill, rounded up, for which the budget
-- pays
abbrev pub loose_pages : Paging → (ℕ → ℕ) → ℕ → ℕ → ℕ
loose_pages p price budget c = min (bound_of p c) (ceil_div (budget / price c) (slots_of p c))

-- for a new object of class i, by how much `level` is above the price of class c, times the pages of class c that can be partly full (`loose_pages`): what these
-- pages, each with one object, cost less than `level` each; 0 for class i, whose pages are all full when it lacks a slot
abbrev pub gap_beside : Paging → (ℕ → ℕ) → (budget i level c : ℕ) → ℕ
gap_beside p price budget i level c = if nat_eq c i then 0 else loose_pages p price budget c * (level - price c)

-- `level` shows that the pages are enough for a new object of class i within a budget, if an object of class c costs at least `price c`: the objects of a full
-- page cost at least `level`, whatever its class (`full`). The budget with all gaps is less than the level for each page and the price of the new object
-- (`enough`).
pub record IsBudgetLevel (p : Paging) (price : ℕ → ℕ) (budget i level : ℕ) : Type 0 where
  pub full : (c : ℕ) → c < classes p → level ≤ slots_of p c * price c
  pub enough : budget + sum_by (gap_beside p price budget i level) (range_with_len 0 (classes p)) < p.pages * level + price i

-- each class has a level that shows that the pages are enough for its objects
abbrev pub AreBudgetLevels : Paging → (ℕ → ℕ) → ℕ → (ℕ → ℕ) → Type 0
AreBudgetLevels p price budget levels = (i : ℕ) → i < classes p → IsBudgetLevel p price budget i (levels i)

-- A certificate that the pages are the least for a budget, if every bound is 1: the levels show that they are enough (`shows`). The budget pays for `opened c`
-- pages of each class c (`affords`), and these are all pages (`all`).
pub record IsBudgetCertificate (p : Paging) (price : ℕ → ℕ) (budget : ℕ) (levels opened : ℕ → ℕ) : Type 0 where
  pub shows : AreBudgetLevels p price budget levels
  pub affords : Affords p price budget opened
  pub all : sum_by opened (range_with_len 0 (classes p)) ≡ p.pages
