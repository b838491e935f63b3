-- For `set_quota` and `grant`: the tests find the cause for which a new quota of a task is refused; if there is none, the heap with the new quota is valid, and
-- nothing else changes.
use Rattle.std.proofs.Common.{◌≡◌, ℕ, Bool, true, false, cond, zero, suc, ◌+◌, ◌<◌, ◌≤◌, List, [], ◌∷◌, length, get_or, set, Option, Some, None, arith, refl}
use Rattle.std.proofs.Common.{sym, ◌∙◌, ap, subst, inl, inr}
use Rattle.std.specs.Prelude.{nat_lt, slice_get, sum}
use Rattle.std.proofs.lemmas.Bool.{cases_eq}
use Rattle.std.proofs.lemmas.List.{length-set}
use Rattle.std.proofs.lemmas.List.Sums.{sum_by-cons}
use Rattle.std.proofs.lemmas.Option.{slice_get_within}
use Rattle.cf_base.specs.Settings.{profile_of}
use Rattle.cf_base.proofs.Tests.{lt_no, lt_yes}
use Rattle.page_model.specs.Arrangement.{pages_needed}
use Rattle.page_model.specs.Bytes.{held_at}
use Rattle.quota_model.specs.Joined.{joined_places}
use Rattle.quota_model.specs.Refusals.{quota_refusal}
use Rattle.quota_model.specs.Shared.{AreQuotas, IsShared}
use Rattle.quota_model.specs.declared.results.QuotaFault.{QuotaFault}
use Rattle.quota_model.specs.declared.results.QuotaFault.TheVariants.{Sum, Used}
use Rattle.quota_model.proofs.CallerLemmas.{granted_quotas}
use Rattle.page_model.specs.Image.{IsSlotImage}
use Rattle.page_slots.specs.Tables.{AreOthers, tables}
use Rattle.quota_heap.specs.Layout.{IsTask, IsTaskIn, IsValid, pages_of, places_of, quotas_of, shared_paging, tasks_held_in, tasks_state_of}
use Rattle.quota_heap.specs.State.{objects_by, quota_of}
use Rattle.quota_heap.specs.declared.open_tasks.OpenTasks.{OpenTasks}
use Rattle.quota_heap.specs.declared.task.Task.{Task}
use Rattle.quota_heap.proofs.Sums.{sum_set}
use Rattle.quota_heap.proofs.Tasks.{map_set, map_set_same, set_here, set_there}

-- the sum of a list in which number i is replaced by n
sum_changed_at : (xs : List ℕ) (i n : ℕ) → i < length xs → sum (set xs i n) + get_or xs i 0 ≡ sum xs + n
sum_changed_at [] i n lt = absurd (omega arith)
sum_changed_at (x ∷ xs) zero n lt =
    let a = sum_by-cons (λ (m : ℕ). m) x xs in
    let b = sum_by-cons (λ (m : ℕ). m) n xs in
    omega arith
sum_changed_at (x ∷ xs) (suc i) n lt =
    let a = sum_by-cons (λ (m : ℕ). m) x xs in
    let b = sum_by-cons (λ (m : ℕ). m) x (set xs i n) in
    let rest = sum_changed_at xs i n (omega arith) in
    omega arith

picks_used : (a b : Bool) → a ≡ false → b ≡ true → cond a (Some Sum) (cond b (Some Used) None) ≡ Some Used
picks_used a b ea eb = rw (ea, eb) refl

picks_neither : (a b : Bool) → a ≡ false → b ≡ false → cond a (Some Sum) (cond b (Some Used) None) ≡ None
picks_neither a b ea eb = rw (ea, eb) refl

module _ (h : OpenTasks) (k : IsValid h) (t : ℕ) (sixteen : t < 16) (n : ℕ) where
  abbrev pub fault : Option QuotaFault
  fault = quota_refusal (profile_of h.shared_pages.settings) (quotas_of h.tasks.items) t n (objects_by (tasks_state_of h) t)

  -- the sum that the quotas would have with the new quota n of task t
  pub sum_is : sum (set (quotas_of h.tasks.items) t n) + quota_of (tasks_state_of h) t ≡ h.granted + n
  sum_is = (
      let s = sum_changed_at (quotas_of h.tasks.items) t n (let m = k.quotas.many in omega arith) in
      let g = k.granted in
      omega arith)

  -- the quota of a task is at most the sum of all
  pub quota_within : quota_of (tasks_state_of h) t ≤ h.granted
  quota_within = (
      let s = sum_changed_at (quotas_of h.tasks.items) t 0 (let m = k.quotas.many in omega arith) in
      let g = k.granted in
      omega arith)

  module _ (fits : h.granted + n ≤ h.shared_pages.settings.pages + quota_of (tasks_state_of h) t) where
    no_sum : nat_lt h.shared_pages.settings.pages (sum (set (quotas_of h.tasks.items) t n)) ≡ false
    no_sum = lt_no h.shared_pages.settings.pages (sum (set (quotas_of h.tasks.items) t n)) (let s = sum_is in omega arith)

    pub used_refused : n < pages_needed (shared_paging h.shared_pages) (objects_by (tasks_state_of h) t) → fault ≡ Some Used
    used_refused less = picks_used _ _ no_sum (lt_yes n (pages_needed (shared_paging h.shared_pages) (objects_by (tasks_state_of h) t)) less)

    pub quota_granted : pages_needed (shared_paging h.shared_pages) (objects_by (tasks_state_of h) t) ≤ n → fault ≡ None
    quota_granted le = picks_neither _ _ no_sum (lt_no n (pages_needed (shared_paging h.shared_pages) (objects_by (tasks_state_of h) t)) le)

  -- after the quota of task t became n, and nothing else changed
  module _ (x : Task) (at : IsTaskIn h t x) (fits : fault ≡ None) (new : OpenTasks) (shared_pages : new.shared_pages ≡ h.shared_pages)
      (tasks : new.tasks.items ≡ set h.tasks.items t (record x { quota = n })) (sums : new.granted + quota_of (tasks_state_of h) t ≡ h.granted + n) where
    abbrev x' : Task
    x' = record x { quota = n }

    abbrev left : OpenTasks
    left = record new { shared_pages = h.shared_pages }

    same : new ≡ left
    same = ap (λ g. record new { shared_pages = g }) shared_pages

    lt : t < length h.tasks.items
    lt = slice_get_within h.tasks.items t x at

    -- each task is as before, but for its quota
    was : (u : ℕ) (y : Task) → IsTaskIn left u y → (z : Task) × IsTaskIn h u z × (y ≡ record z { quota = y.quota })
    was u y e = elim (cases_eq u t) [
      | inl is ↦ (
          let same : Some x' ≡ Some y = sym (set_here h.tasks.items t x' lt) ∙ sym (ap (λ ts. slice_get ts t) tasks)
          ∙ subst (λ v. slice_get new.tasks.items v ≡ Some y) is e in
          let y_is : x' ≡ y = cc in
          (x, subst (λ v. IsTaskIn h v x) (sym is) at, subst (λ (v : Task). v ≡ record x { quota = v.quota }) y_is refl))
      | inr ne ↦ (y, sym (set_there h.tasks.items t u x' ne) ∙ sym (ap (λ ts. slice_get ts u) tasks) ∙ e, refl)
    ]

    places_same : places_of new.tasks.items ≡ places_of h.tasks.items
    places_same = ap places_of tasks ∙ map_set_same (λ (y : Task). y.proxies.places) h.tasks.items t x x' at refl

    held_same : tasks_held_in left ≡ tasks_held_in h
    held_same = ap (λ ps. held_at h.shared_pages.region (joined_places ps)) places_same

    quotas_are : quotas_of new.tasks.items ≡ set (quotas_of h.tasks.items) t n
    quotas_are = ap quotas_of tasks ∙ map_set (λ (y : Task). y.quota) h.tasks.items t x'

    task_kept : (u : ℕ) (y : Task) → IsTaskIn left u y → IsTask h.shared_pages u y
    task_kept u y e =
        let w = was u y e in
        let z : Task = w.0 in
        let i = k.task u w.0 w.1 in
        subst (IsTask h.shared_pages u) (sym w.2) (record {
          sound = i.sound;
          serve = i.serve;
          occupied = i.occupied;
          headed = i.headed;
          numbers = i.numbers;
          handles = i.handles;
          live_long = i.live_long;
          counted = i.counted;
          pages = i.pages;
        })

    left_kept : IsValid left
    left_kept = record {
      shared_pages = k.shared_pages;
      many = ap length tasks ∙ length-set h.tasks.items t x' ∙ k.many;
      task = task_kept;
      others = λ u v y z e f ne. (
          let a = was u y e in
          let b = was v z f in
          let o = k.others u v a.0 b.0 a.1 b.1 ne in
          let ly : (a.0).lists ≡ y.lists = sym (ap (λ (s : Task). s.lists) a.2) in
          let lz : (b.0).lists ≡ z.lists = sym (ap (λ (s : Task). s.lists) b.2) in
          subst (λ ls. AreOthers (tables h.shared_pages.tables.maps.pages ls h.shared_pages.tables.pool) z.lists) ly
          (subst (λ ls. AreOthers (tables h.shared_pages.tables.maps.pages (a.0).lists h.shared_pages.tables.pool) ls) lz o));
      shared = subst (IsShared (profile_of h.shared_pages.settings)) (sym held_same) k.shared;
      image = subst (λ m. IsSlotImage (shared_paging h.shared_pages) m h.shared_pages.region) (sym held_same) k.image;
      quotas = subst (AreQuotas (profile_of h.shared_pages.settings) (quotas_of new.tasks.items)) (sym held_same)
          (subst (λ qs. AreQuotas (profile_of h.shared_pages.settings) qs (tasks_held_in h)) (sym quotas_are)
          (granted_quotas (profile_of h.shared_pages.settings) (quotas_of h.tasks.items) (tasks_held_in h) t n sixteen k.quotas fits));
      granted = (let e = ap sum quotas_are in let s = sum_is in omega arith);
      accounted = (
          let s = sum_set (λ (y : Task). y.pages) h.tasks.items t x x' at in
          let a = k.accounted in
          let e = ap pages_of tasks in
          omega arith);
    }

    pub quota_kept : IsValid new
    quota_kept = subst IsValid (sym same) left_kept

    pub quota_state : tasks_state_of new ≡ record (tasks_state_of h) { quotas = set (quotas_of h.tasks.items) t n }
    quota_state = ap tasks_state_of same ∙ ap (λ qs. record (tasks_state_of h) { quotas = qs; held = tasks_held_in left }) quotas_are
        ∙ ap (λ m. record (tasks_state_of h) { quotas = set (quotas_of h.tasks.items) t n; held = m }) held_same
