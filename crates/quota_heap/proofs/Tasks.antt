-- For most other files here: what the invariant of an open heap says of its task t, and which objects of the map of all tasks are those of t. Also, lists of
-- which one element changes.
use Rattle.std.proofs.Common.{◌≡◌, ◌≢◌, ℕ, zero, suc, ◌<◌, ◌≤◌, List, [], ◌∷◌, length, get_or, set, map, Option, Some, None, arith, refl, sym, ◌∙◌, ap, subst}
use Rattle.std.proofs.Common.{inl, inr}
use Rattle.std.specs.Prelude.{slice_get}
use Rattle.std.proofs.lemmas.Option.{slice_get-get_or, slice_get_cases, slice_get_within}
use Rattle.std.specs.Ordering.{nat_cmp}
use Rattle.std.specs.FinMap.{empty, get, get-empty}
use Rattle.page_model.specs.Bytes.{held_at}
use Rattle.quota_model.specs.Joined.{AreNumbers, places_at}
use Rattle.quota_model.proofs.CallerLemmas.{part_joined}
use Rattle.quota_model.specs.Parts.{objects_of_task}
use Rattle.quota_heap.specs.Layout.{IsTaskIn, IsValid, held_of, places_of, quotas_of, tasks_held_in}
use Rattle.quota_heap.specs.declared.open_tasks.OpenTasks.{OpenTasks}
use Rattle.quota_heap.specs.declared.task.Task.{Task}
use Rattle.quota_heap.proofs.Facts.{number_small}
use Rattle.quota_heap.proofs.Sums.{sum_has}

-- element i of a mapped list is the value of f at element i of the list; past the end there is none
pub mapped_here : {X Y : Type 0} (f : X → Y) (xs : List X) (i : ℕ) (x : X) (d : Y) → slice_get xs i ≡ Some x → get_or (map f xs) i d ≡ f x
mapped_here f [] i x d e = absurd (let z : Some x ≡ slice_get [] i = sym e in cc)
mapped_here f (y ∷ xs) zero x d e = (let z : Some y ≡ Some x = e in let is : y ≡ x = cc in ap f is)
mapped_here f (y ∷ xs) (suc i) x d e = mapped_here f xs i x d e

pub mapped_past : {X Y : Type 0} (f : X → Y) (xs : List X) (i : ℕ) (d : Y) → slice_get xs i ≡ None → get_or (map f xs) i d ≡ d
mapped_past f [] i d e = refl
mapped_past f (y ∷ xs) zero d e = absurd (let z : Some y ≡ None = e in cc)
mapped_past f (y ∷ xs) (suc i) d e = mapped_past f xs i d e

-- if element i is set to y, it is y; below, each other element is as before
pub set_here : {X : Type 0} (xs : List X) (i : ℕ) (y : X) → i < length xs → slice_get (set xs i y) i ≡ Some y
set_here [] i y lt = absurd (omega arith)
set_here (x ∷ xs) zero y lt = refl
set_here (x ∷ xs) (suc i) y lt = set_here xs i y (omega arith)

pub set_there : {X : Type 0} (xs : List X) (i j : ℕ) (y : X) → j ≢ i → slice_get (set xs i y) j ≡ slice_get xs j
set_there [] i j y ne = refl
set_there (x ∷ xs) zero zero y ne = absurd (ne refl)
set_there (x ∷ xs) zero (suc j) y ne = refl
set_there (x ∷ xs) (suc i) zero y ne = refl
set_there (x ∷ xs) (suc i) (suc j) y ne = set_there xs i j y (λ e. ne (ap suc e))

-- if an element is set to one with the same value of f, the mapped list is as before
pub map_set_same : {X Y : Type 0} (f : X → Y) (xs : List X) (i : ℕ) (x y : X) → slice_get xs i ≡ Some x → f y ≡ f x → map f (set xs i y) ≡ map f xs
map_set_same f [] i x y e same = refl
map_set_same f (w ∷ xs) zero x y e same = (let z : Some w ≡ Some x = e in let is : w ≡ x = cc in ap (λ v. v ∷ map f xs) (same ∙ sym (ap f is)))
map_set_same f (w ∷ xs) (suc i) x y e same = ap (λ ys. f w ∷ ys) (map_set_same f xs i x y e same)

pub map_set : {X Y : Type 0} (f : X → Y) (xs : List X) (i : ℕ) (y : X) → map f (set xs i y) ≡ set (map f xs) i (f y)
map_set f [] i y = refl
map_set f (w ∷ xs) zero y = refl
map_set f (w ∷ xs) (suc i) y = ap (λ ys. f w ∷ ys) (map_set f xs i y)

pub length_map : {X Y : Type 0} (f : X → Y) (xs : List X) → length (map f xs) ≡ length xs
length_map f [] = refl
length_map f (x ∷ xs) = ap suc (length_map f xs)

module _ (h : OpenTasks) (k : IsValid h) where
  pub places_here : (t : ℕ) (x : Task) → IsTaskIn h t x → places_at (places_of h.tasks.items) t ≡ x.proxies.places
  places_here t x at = mapped_here (λ (y : Task). y.proxies.places) h.tasks.items t x empty at

  pub numbers : AreNumbers (places_of h.tasks.items)
  numbers t q a f = by (slice_get h.tasks.items t) refl
    where
      by : (o : Option Task) → slice_get h.tasks.items t ≡ o → q < 65536
      by None e = absurd (
          let m : places_at (places_of h.tasks.items) t ≡ empty = mapped_past (λ (y : Task). y.proxies.places) h.tasks.items t empty e in
          let z : Some a ≡ None = sym f ∙ ap (λ m. get m q) m ∙ get-empty nat_cmp q in cc)
      by (Some x) e = number_small h.shared_pages k.shared_pages t x (k.task t x e) q a (sym (ap (λ m. get m q) (places_here t x e)) ∙ f)

  -- the objects of task t in the map of all tasks' objects (`objects_of_task`) are those of its record x
  pub part_is : (t : ℕ) (x : Task) → IsTaskIn h t x → objects_of_task (tasks_held_in h) t ≡ held_of h.shared_pages x
  part_is t x at = part_joined h.shared_pages.region (places_of h.tasks.items) numbers t ∙ ap (held_at h.shared_pages.region) (places_here t x at)

  pub task_below : (t : ℕ) (x : Task) → IsTaskIn h t x → t < 16
  task_below t x at = (let lt = slice_get_within h.tasks.items t x at in let e = k.many in omega arith)

  pub task_there : (t : ℕ) → t < 16 → (x : Task) → x ≡ get_or h.tasks.items t x → IsTaskIn h t x
  task_there t lt x is = slice_get-get_or h.tasks.items t x (let e = k.many in omega arith) ∙ ap Some (sym is)

  pub quota_here : (t : ℕ) (x : Task) → IsTaskIn h t x → get_or (quotas_of h.tasks.items) t 0 ≡ x.quota
  quota_here t x at = mapped_here (λ (y : Task). y.quota) h.tasks.items t x 0 at

  -- what holds of the element t of the code's list of tasks holds of task t
  pub of_task : (t : ℕ) → t < 16 → (x : Task) → x ≡ get_or h.tasks.items t x → (P : Task → Type 0) → P x → (y : Task) → IsTaskIn h t y → P y
  of_task t lt x is P p y e =
      let a = task_there t lt x is in
      let z : Some x ≡ Some y = sym a ∙ e in
      let same : x ≡ y = cc in
      subst P same p

  -- each number below 16 has a task
  pub a_task : (t : ℕ) → t < 16 → (x : Task) × IsTaskIn h t x
  a_task t lt = elim (slice_get_cases h.tasks.items t).1 [
    | inl (x, _, e, _) ↦ (x, e)
    | inr (past, _) ↦ absurd (let m = k.many in omega arith)
  ]

  -- no task uses more pages than there are
  pub pages_few : (t : ℕ) (x : Task) → IsTaskIn h t x → x.pages ≤ 4096
  pages_few t x at =
      let a = k.accounted in
      let few = h.shared_pages.settings.few_pages in
      let l = sum_has (λ (y : Task). y.pages) h.tasks.items t x at in
      omega arith
