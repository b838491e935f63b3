-- For `refusal`, `malloc` and `pages`: a task's objects and quota in contracts are those of its record. The tests of its proxies, quota and partly full pages
-- find the cause for which a malloc is refused; if there is none, a proxy is left, and a partly full page or a free one.
use Rattle.std.proofs.Common.{◌≡◌, ◌≢◌, ℕ, Bool, true, false, cond, ◌+◌, ◌-◌, ◌<◌, ◌≤◌, List, [], ◌∷◌, length, Option, Some, None, arith, refl}
use Rattle.std.proofs.Common.{sym, ◌∙◌, ap, subst}
use Rattle.std.proofs.Common.{inl, inr}
use Rattle.std.specs.Prelude.{nat_lt, slice_get, sum, sum_by}
use Rattle.std.proofs.lemmas.Bool.{cases_eq, cases_lt}
use Rattle.std.proofs.lemmas.List.Sums.{sum_by-cons}
use Rattle.std.specs.FinMap.{len}
use Rattle.cf_base.specs.Classes.{need}
use Rattle.cf_base.specs.Settings.{profile_of}
use Rattle.cf_base.specs.declared.results.Refusal.{Refusal}
use Rattle.cf_base.specs.declared.results.Refusal.TheVariants.{Proxy, Size, Space}
use Rattle.cf_base.proofs.Tests.{eq_no, eq_yes, lt_no, lt_yes}
use Rattle.class_lists.specs.PageLists.{pages_in}
use Rattle.class_lists.specs.declared.Which.TheVariants.{NotFull}
use Rattle.page_model.specs.Arrangement.{pages_needed, pages_needed_with}
use Rattle.page_model.specs.Held.{objects}
use Rattle.page_model.specs.Paging.{class_for, classes}
use Rattle.page_slots.proofs.CallerLemmas.{not_full_pages_are}
use Rattle.quota_model.specs.Refusals.{malloc_refusal}
use Rattle.quota_heap.specs.Layout.{IsTask, IsTaskIn, IsValid, held_of, objects_of, quotas_of, shared_paging, tables_of, tasks_state_of}
use Rattle.quota_heap.specs.State.{objects_by, quota_of}
use Rattle.quota_heap.specs.declared.open_tasks.OpenTasks.{OpenTasks}
use Rattle.quota_heap.specs.declared.task.Task.{Task}
use Rattle.quota_heap.proofs.Facts.{at_one, objects_len, paging_ok}
use Rattle.quota_heap.proofs.NextPage.{needed_next, not_full_few}
use Rattle.quota_heap.proofs.Sums.{sum_less}
use Rattle.quota_heap.proofs.Tasks.{part_is, quota_here}

picks_proxy : (a b : Bool) (rest : Option Refusal) → a ≡ false → b ≡ true → cond a (Some Size) (cond b (Some Proxy) rest) ≡ Some Proxy
picks_proxy a b rest ea eb = rw (ea, eb) refl

picks_space : (a b c : Bool) → a ≡ false → b ≡ false → c ≡ true → cond a (Some Size) (cond b (Some Proxy) (cond c (Some Space) None)) ≡ Some Space
picks_space a b c ea eb ec = rw (ea, eb, ec) refl

picks_none : (a b c : Bool) → a ≡ false → b ≡ false → c ≡ false → cond a (Some Size) (cond b (Some Proxy) (cond c (Some Space) None)) ≡ None
picks_none a b c ea eb ec = rw (ea, eb, ec) refl

module _ (h : OpenTasks) (k : IsValid h) (t : ℕ) (x : Task) (at : IsTaskIn h t x) where
  abbrev i : IsTask h.shared_pages t x
  i = k.task t x at

  -- the objects and the quota of task t, as contracts show them, are those of its record x
  pub objects_same : objects_by (tasks_state_of h) t ≡ objects_of h.shared_pages x
  objects_same = ap objects (part_is h k t x at)

  pub quota_same : quota_of (tasks_state_of h) t ≡ x.quota
  quota_same = quota_here h k t x at

  abbrev pub reason : ℕ → Option Refusal
  reason n = malloc_refusal (profile_of h.shared_pages.settings) (quota_of (tasks_state_of h) t) (objects_by (tasks_state_of h) t) n

  module _ (c n : ℕ) (fits : need n ≤ h.shared_pages.settings.page_words) (class : class_for (shared_paging h.shared_pages) n ≡ c) (lt : c < classes (shared_paging h.shared_pages)) where
    few : length (pages_in x.lists c NotFull) ≤ 1
    few =
        let e = not_full_pages_are (shared_paging h.shared_pages) (paging_ok h.shared_pages) (held_of h.shared_pages x) (tables_of h.shared_pages x) i.serve i.occupied c in
        let l = not_full_few (shared_paging h.shared_pages) (paging_ok h.shared_pages) (at_one h.shared_pages) (held_of h.shared_pages x) i.sound c lt in
        omega arith

    next : pages_needed_with (shared_paging h.shared_pages) (objects_by (tasks_state_of h) t) n ≡ x.pages + (1 - length (pages_in x.lists c NotFull))
    next =
        let o = ap (λ os. pages_needed_with (shared_paging h.shared_pages) os n) objects_same in
        let e = needed_next (shared_paging h.shared_pages) (paging_ok h.shared_pages) (at_one h.shared_pages) (held_of h.shared_pages x) i.sound n
        (subst (λ d. d < classes (shared_paging h.shared_pages)) (sym class) lt) in
        let f = not_full_pages_are (shared_paging h.shared_pages) (paging_ok h.shared_pages) (held_of h.shared_pages x) (tables_of h.shared_pages x) i.serve i.occupied
        (class_for (shared_paging h.shared_pages) n) in
        let g : length (pages_in x.lists (class_for (shared_paging h.shared_pages) n) NotFull) ≡ length (pages_in x.lists c NotFull) =
        ap (λ d. length (pages_in x.lists d NotFull)) class in
        let p = i.pages in
        omega arith

    no_size : nat_lt h.shared_pages.settings.page_words (need n) ≡ false
    no_size = lt_no h.shared_pages.settings.page_words (need n) fits

    len_same : len (objects_by (tasks_state_of h) t) ≡ len x.proxies.places
    len_same = ap len objects_same ∙ objects_len h.shared_pages k.shared_pages t x i

    pub proxy_refused : len x.proxies.places ≡ h.shared_pages.settings.proxies → reason n ≡ Some Proxy
    proxy_refused all = picks_proxy _ _ _ no_size (eq_yes (len (objects_by (tasks_state_of h) t)) h.shared_pages.settings.proxies (len_same ∙ all))

    pub space_refused : len x.proxies.places ≢ h.shared_pages.settings.proxies → length (pages_in x.lists c NotFull) ≡ 0 → x.quota ≤ x.pages → reason n ≡ Some Space
    space_refused ne none le = picks_space _ _ _ no_size
        (eq_no (len (objects_by (tasks_state_of h) t)) h.shared_pages.settings.proxies (λ e. ne (sym len_same ∙ e)))
        (lt_yes (quota_of (tasks_state_of h) t) (pages_needed_with (shared_paging h.shared_pages) (objects_by (tasks_state_of h) t) n)
        (let e = next in let q = quota_same in omega arith))

    pub not_refused : len x.proxies.places ≢ h.shared_pages.settings.proxies → (length (pages_in x.lists c NotFull) ≡ 0 → x.pages < x.quota) → reason n ≡ None
    not_refused ne room = picks_none _ _ _ no_size
        (eq_no (len (objects_by (tasks_state_of h) t)) h.shared_pages.settings.proxies (λ e. ne (sym len_same ∙ e)))
        (lt_no (quota_of (tasks_state_of h) t) (pages_needed_with (shared_paging h.shared_pages) (objects_by (tasks_state_of h) t) n)
        (let e = next in let q = quota_same in let w = within in elim (cases_eq (length (pages_in x.lists c NotFull)) 0) [
          | inl none ↦ (let r = room none in omega arith)
          | inr some ↦ (let l = few in omega arith)
        ]))
      where
        within : x.pages ≤ x.quota
        within = (let e = k.quotas.enough t in let q = quota_same in let p = i.pages in
            let o = ap (λ os. pages_needed (shared_paging h.shared_pages) os) objects_same in omega arith)

    pub has_proxy : None ≡ reason n → len x.proxies.places ≢ h.shared_pages.settings.proxies
    has_proxy none all = absurd (let z : None ≡ Some Proxy = none ∙ proxy_refused all in cc)

    -- if the malloc isn't refused and no page of the class is partly full, the pool has a page
    pub has_room : None ≡ reason n → pages_in x.lists c NotFull ≡ [] → h.shared_pages.tables.pool.free ≡ [] → ⊥
    has_room none no_part empty = elim (cases_lt x.pages x.quota) [
      | inr le ↦ absurd (let z : None ≡ Some Space = none ∙ space_refused (has_proxy none) (ap length no_part) le in cc)
      | inl less ↦ absurd (
          let s = sum_less (λ (y : Task). y.pages) (λ (y : Task). y.quota) h.tasks.items t x at within less in
          let all = k.quotas.all in
          let q = sum_quotas h.tasks.items in
          let e = ap length empty in
          let a = k.accounted in
          omega arith)
    ]
      where
        within : (u : ℕ) (y : Task) → slice_get h.tasks.items u ≡ Some y → y.pages ≤ y.quota
        within u y e =
            let le = k.quotas.enough u in
            let q = quota_here h k u y e in
            let p = (k.task u y e).pages in
            let o = ap (λ os. pages_needed (shared_paging h.shared_pages) (objects os)) (part_is h k u y e) in
            omega arith

        sum_quotas : (ts : List Task) → sum (quotas_of ts) ≡ sum_by (λ (y : Task). y.quota) ts
        sum_quotas [] = refl
        sum_quotas (y ∷ ts) =
            let a = sum_by-cons (λ (n : ℕ). n) y.quota (quotas_of ts) in
            let b = sum_by-cons (λ (y : Task). y.quota) y ts in
            let rest = sum_quotas ts in
            omega arith
