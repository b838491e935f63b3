-- For `a_page_is_there_for_each_quota`: each page in use is some task's and the quotas sum to at most all pages, so while a task uses fewer pages than its
-- quota, some page is free. Also, `task_paging` is valid (`IsPaging`), and its bounds are all 1.
use Rattle.std.proofs.Common.{◌≡◌, ℕ, zero, suc, Bool, ◌+◌, ◌<◌, ◌≤◌, List, [], ◌∷◌, length, get_or, arith, ap, sym, ◌∙◌, refl, inl, inr, subst}
use Rattle.std.specs.Prelude.{IsTrue, count_by, nat_lt, sum, sum_by}
use Rattle.std.specs.List.{range_with_len}
use Rattle.std.proofs.lemmas.Bool.{cases_eq, cases_lt}
use Rattle.std.proofs.lemmas.List.Sums.{sum_by-cons}
use Rattle.cf_base.specs.Limits.{is_page_size}
use Rattle.cf_base.specs.Settings.{Profile}
use Rattle.cf_base.specs.declared.kind.Layout.TheVariants.{Words}
use Rattle.cf_base.proofs.Ranges.{one, sum_at_least, sum_grows}
use Rattle.page_model.specs.Arrangement.{count_on, used_pages}
use Rattle.page_model.specs.Held.{Held}
use Rattle.page_model.specs.Paging.{EveryBoundIsOne, IsPaging}
use Rattle.page_model.proofs.CallerLemmas.{first_ones, first_paged, less_counts, not_less_counts_none, one_le, standing, counted_here, sum_plus, sum_same}
use Rattle.page_model.proofs.CallerLemmas.{sum_zeros, used_at_one, used_is}
use Rattle.quota_model.specs.Parts.{number_in_task, objects_of_task, task_of}
use Rattle.quota_model.specs.Refusals.{task_paging}
use Rattle.quota_model.specs.Shared.{AreQuotas, IsShared}
use Rattle.quota_model.proofs.TaskParts.{found_part}

pub tasks_paged : (s : Profile) → IsTrue (is_page_size s.page_words) → IsPaging (task_paging s)
tasks_paged s is_page = first_paged (record s { k = 1 }) Words is_page (omega arith)

pub tasks_at_one : (s : Profile) → EveryBoundIsOne (task_paging s)
tasks_at_one s = first_ones (record s { k = 1 }) Words refl

-- the order of two sums doesn't matter
sums_swapped : (f : ℕ → ℕ → ℕ) (xs ys : List ℕ) → sum_by (λ x. sum_by (f x) ys) xs ≡ sum_by (λ y. sum_by (λ x. f x y) xs) ys
sums_swapped f [] ys = sym (sum_zeros (λ (y : ℕ). 0) ys (λ _. refl))
sums_swapped f (x ∷ xs) ys =
    let a = sum_by-cons (λ x. sum_by (f x) ys) x xs in
    let b = sums_swapped f xs ys in
    let c = sum_plus (f x) (λ y. sum_by (λ x. f x y) xs) ys in
    let d = sum_same (λ y. sum_by (λ x. f x y) (x ∷ xs)) (λ y. f x y + sum_by (λ x. f x y) xs) ys (λ y. sum_by-cons (λ x. f x y) x xs) in
    omega arith

-- if f is less than g at the number c of a range and nowhere larger, its sum over the range is less
sum_less : (f g : ℕ → ℕ) (a n c : ℕ) → a ≤ c → c < a + n → ((d : ℕ) → f d ≤ g d) → f c < g c → sum_by f (range_with_len a n) < sum_by g (range_with_len a n)
sum_less f g a zero c low high le lt = absurd (omega arith)
sum_less f g a (suc n) c low high le lt =
    let x = sum_by-cons f a (range_with_len (a + 1) n) in
    let y = sum_by-cons g a (range_with_len (a + 1) n) in
    let here = le a in
    elim (cases_eq a c) [
      | inl is ↦ (
          let u : f a ≡ f c = ap f is in
          let v : g a ≡ g c = ap g is in
          let rest = sum_grows f g (range_with_len (a + 1) n) le in
          omega arith)
      | inr ne ↦ (let rest = sum_less f g (a + 1) n c (omega arith) (omega arith) le lt in omega arith)
    ]

-- the sum of a list, as a sum over its positions
sum_by_places : (f : ℕ → ℕ) (xs : List ℕ) (a : ℕ) → ((i : ℕ) → get_or xs i 0 ≡ f (a + i)) → sum xs ≡ sum_by f (range_with_len a (length xs))
sum_by_places f [] a is = refl
sum_by_places f (x ∷ xs) a is =
    let p = sum_by-cons (λ (n : ℕ). n) x xs in
    let q = sum_by-cons f a (range_with_len (a + 1) (length xs)) in
    let here : x ≡ f (a + 0) = is 0 in
    let at : f (a + 0) ≡ f a = ap f (omega arith) in
    let rest = sum_by_places f xs (a + 1) (λ i. is (suc i) ∙ ap f (omega arith)) in
    omega arith

-- if fewer than n of the n numbers of a range pass the test f, one of them fails it
one_fails : (f : ℕ → Bool) (a n : ℕ) → count_by f (range_with_len a n) < n → (d : ℕ) × (d < a + n) × (one (f d) ≡ 0)
one_fails f a zero less = absurd (omega arith)
one_fails f a (suc n) less =
    let x : count_by f (range_with_len a (suc n)) ≡ one (f a) + count_by f (range_with_len (a + 1) n) =
    sum_by-cons (λ p. one (f p)) a (range_with_len (a + 1) n) in
    let most = one_le (f a) in
    elim (cases_lt 0 (one (f a))) [
      | inl some ↦ (let rest = one_fails f (a + 1) n (omega arith) in (rest.0, (let lt = rest.1 in omega arith), rest.2))
      | inr none ↦ (a, omega arith, omega arith)
    ]

module _ (s : Profile) (quotas : List ℕ) (m : Held) (shared : IsShared s m) (are : AreQuotas s quotas m) (is_page : IsTrue (is_page_size s.page_words)) where
  -- if page g has an object, some task has an object on it
  stands_for_one : (g : ℕ) → one (nat_lt 0 (count_on (task_paging s) m g))
      ≤ sum_by (λ task. one (nat_lt 0 (count_on (task_paging s) (objects_of_task m task) g))) (range_with_len 0 16)
  stands_for_one g = elim (cases_lt 0 (count_on (task_paging s) m g)) [
    | inr none ↦ (let e = not_less_counts_none 0 (count_on (task_paging s) m g) none in omega arith)
    | inl some ↦ (
        let o = standing (task_paging s) m g some in
        let f = found_part m o.0 o.1 o.2 in
        let there = counted_here (task_paging s) (objects_of_task m (task_of o.0)) (number_in_task o.0) o.1 f in
        let there' : 0 < count_on (task_paging s) (objects_of_task m (task_of o.0)) g =
        subst (λ k. 0 < count_on (task_paging s) (objects_of_task m (task_of o.0)) k) o.3 there in
        let yes = less_counts 0 (count_on (task_paging s) (objects_of_task m (task_of o.0)) g) there' in
        let most = one_le (nat_lt 0 (count_on (task_paging s) m g)) in
        let t = shared.tasks o.0 o.1 o.2 in
        let le = sum_at_least (λ task. one (nat_lt 0 (count_on (task_paging s) (objects_of_task m task) g))) 0 16 (task_of o.0) (omega arith) (omega arith) in
        omega arith)
  ]

  -- no task uses more than its quota
  used_within : (task : ℕ) → used_pages (task_paging s) (objects_of_task m task) ≤ get_or quotas task 0
  used_within task =
      let e = used_at_one (task_paging s) (tasks_paged s is_page) (tasks_at_one s) (objects_of_task m task) (shared.sound task) in
      let le = are.enough task in
      omega arith

  pub page_left : (task : ℕ) → task < 16 → used_pages (task_paging s) (objects_of_task m task) < get_or quotas task 0
      → (page : ℕ) × (page < s.pages) × (count_on (task_paging s) m page ≡ 0)
  page_left task lt less =
      let a : count_by (λ g. nat_lt 0 (count_on (task_paging s) m g)) (range_with_len 0 s.pages)
      ≤ sum_by (λ g. sum_by (λ t. one (nat_lt 0 (count_on (task_paging s) (objects_of_task m t) g))) (range_with_len 0 16)) (range_with_len 0 s.pages) =
      sum_grows (λ g. one (nat_lt 0 (count_on (task_paging s) m g)))
      (λ g. sum_by (λ t. one (nat_lt 0 (count_on (task_paging s) (objects_of_task m t) g))) (range_with_len 0 16)) (range_with_len 0 s.pages) stands_for_one in
      let b = sums_swapped (λ g t. one (nat_lt 0 (count_on (task_paging s) (objects_of_task m t) g))) (range_with_len 0 s.pages) (range_with_len 0 16) in
      let c = sum_same (λ t. sum_by (λ g. one (nat_lt 0 (count_on (task_paging s) (objects_of_task m t) g))) (range_with_len 0 s.pages))
      (λ t. used_pages (task_paging s) (objects_of_task m t)) (range_with_len 0 16) (λ t. sym (used_is (task_paging s) (objects_of_task m t) (shared.sound t))) in
      let d = sum_less (λ t. used_pages (task_paging s) (objects_of_task m t)) (λ t. get_or quotas t 0) 0 16 task (omega arith) (omega arith) used_within less in
      let e = sum_by_places (λ t. get_or quotas t 0) quotas 0 (λ i. ap (λ j. get_or quotas j 0) (omega arith)) in
      let f : sum_by (λ t. get_or quotas t 0) (range_with_len 0 (length quotas)) ≡ sum_by (λ t. get_or quotas t 0) (range_with_len 0 16) =
      ap (λ n. sum_by (λ t. get_or quotas t 0) (range_with_len 0 n)) are.many in
      let all = are.all in
      let found = one_fails (λ g. nat_lt 0 (count_on (task_paging s) m g)) 0 s.pages (omega arith) in (
        found.0,
        (let within = found.1 in omega arith),
        elim (cases_lt 0 (count_on (task_paging s) m found.0)) [
          | inl some ↦ absurd (let y = less_counts 0 (count_on (task_paging s) m found.0) some in let z = found.2 in omega arith)
          | inr none ↦ omega arith
        ],
      )
