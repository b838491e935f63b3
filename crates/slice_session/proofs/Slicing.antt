-- For `the_sliced_headline`: when the page of a job's slot is full, and how a malloc, a free and a slice change what lines and replies show.
use Rattle.std.proofs.Common.{◌≡◌, ◌≢◌, ℕ, true, false, cond, ◌+◌, ◌%◌, ◌<◌, ◌≤◌, Bool, Some, None, arith, sym, ◌∙◌, ap, refl, subst, inl, inr, ◌||◌, nat_eq, nat_le, Option, ◌&&◌, not}
use Rattle.std.proofs.lemmas.Bool.{cases_eq, cases_lt, leb-true, leb-false, eqb-false}
use Rattle.run_model.specs.Terms.{class_at, classes, get, Held, insert, IsSound, Moving, Objects, objects, page_of, Paging, Placed, Profile, remove, Request, slot_words, slots_of}
use Rattle.cf_base.specs.declared.results.Figures.{Figures}
use Rattle.cf_base.proofs.MapValues.{map_values-insert}
use Rattle.cf_base.proofs.Maps.{get_inserted, get_insert_other}
use Rattle.cf_base.proofs.Ranges.{one, count_changed}
use Rattle.cf_base.proofs.Tests.{eq_yes, le_yes, lt_no, lt_yes}
use Rattle.page_model.specs.Arrangement.{IsSlotAt, is_on, live, not_full_pages, objects_on}
use Rattle.page_model.proofs.CallerLemmas.{bytes_missing, less_where_vacant, live_added, objects_on-elsewhere, objects_on-inserted, open_counts, part_full, part_yes, slots_some, part_over}
use Rattle.slice_model.specs.declared.job_slot.JobSlot.{JobSlot}
use Rattle.slice_model.specs.State.{IsKept, IsPlan, Plan, Sliced, job_slot, placeholder, with_slot, Idle, left_of_slot}
use Rattle.slice_model.proofs.CallerLemmas.{job_class, must_is_two, no_placeholder, one_more, other_than, same_elsewhere, sound_without_slot, placeholder_class, two_is_last, begun_fresh, begun_once, followed_once, kept_begun, kept_malloc, kept_slice, objects_sliced, slot_advanced}
use Rattle.script_laws.specs.AtOne.{part_pages}
use Rattle.script_laws.proofs.CallerLemmas.{figures_are}
use Rattle.cf_base.specs.declared.kind.Layout.TheVariants.{Words}
use Rattle.page_model.specs.Paging.{first_bounds, paging_of}
use Rattle.page_model.specs.Steps.{Moves, zeros_at}
use Rattle.slice_model.specs.Steps.{AddsSlicedObject, GoesOn, IsDone, IsSlice, SliceOf, LeavesJob, done_after, fresh_slot}
use Rattle.script_laws.specs.ById.{ById, begun}
use Rattle.slice_session.specs.ShownSlices.{ShownJob, ShownSlices, after_slice, are_full, job_noted, job_sliced, noted, words_of_job}

-- Unless its class has two partly full pages, the page of a job's slot is full if and only if the slots of the class's objects and the job's
-- fill whole pages. So the replies determine `filled`.

-- true if the page of the job's slot is full, with the slot counted as taken
abbrev pub is_filled : Paging → Held → JobSlot → Bool
is_filled p m k = nat_le (slots_of p k.class) (objects_on p m k.class (page_of p k.address) + 1)

-- true if n slots and the job's own, all of its class, fill whole pages
abbrev pub are_filled : Paging → ℕ → JobSlot → Bool
are_filled p n k = nat_eq ((n + 1) % slots_of p k.class) 0

-- a new object adds one to the live objects of its class
pub live_with : (p : Paging) (m : Held) (h : ℕ) (x : Placed) → get m h ≡ None → (c : ℕ)
    → live p (objects (insert m h x)) c ≡ live p (objects m) c + one (nat_eq (class_at p x) c)
live_with p m h x none c =
    let e = map_values-insert (λ (x : Placed). x.bytes) m h x in
    rw e (live_added p (objects m) h x.bytes c (bytes_missing m h none))

module _ (plan : Plan) (ok : IsPlan plan) (s : Sliced) (kept : IsKept plan s) (k : JobSlot) (is : job_slot s.job ≡ Some k) where
  abbrev p : Paging
  p = plan.paging

  abbrev all : Held
  all = insert s.held plan.proxies (placeholder p k)

  abbrev here : ℕ
  here = page_of p k.address

  none : get s.held plan.proxies ≡ None
  none = no_placeholder plan s.held kept.numbers

  class : k.class < classes p
  class = (job_class p s.held s.job kept.job k is).class

  sound : IsSound p all
  sound = subst (λ o. IsSound p (with_slot plan s.held o)) is kept.sound

  pub few : not_full_pages plan.paging (insert s.held plan.proxies (placeholder plan.paging k)) k.class ≤ 1
  few = (let f = sound.few_not_full k.class class in let o = ok.ones k.class class in omega arith)

  pub live_all : (c : ℕ) → live plan.paging (objects (insert s.held plan.proxies (placeholder plan.paging k))) c
      ≡ live plan.paging (objects s.held) c + one (nat_eq k.class c)
  live_all c = live_with p s.held plan.proxies (placeholder p k) none c
      ∙ ap (λ d. live p (objects s.held) c + one (nat_eq d c)) (placeholder_class p ok.paging k class)

  own_live : live p (objects all) k.class ≡ live p (objects s.held) k.class + 1
  own_live = live_all k.class ∙ ap (λ b. live p (objects s.held) k.class + one b) (eq_yes k.class k.class refl)

  parts : not_full_pages p all k.class ≡ part_pages (live p (objects s.held) k.class + 1) (slots_of p k.class)
  parts = ap (λ (f : Figures). f.not_full) (figures_are p ok.paging ok.ones all sound k.class class)
      ∙ ap (λ n. part_pages n (slots_of p k.class)) own_live

  no_part : are_filled p (live p (objects s.held) k.class) k ≡ true → not_full_pages p all k.class ≡ 0
  no_part full = parts ∙ ap (λ b. cond b 0 1) full

  one_part : are_filled p (live p (objects s.held) k.class) k ≡ false → not_full_pages p all k.class ≡ 1
  one_part full = parts ∙ ap (λ b. cond b 0 1) full

  within : here < p.pages
  within = (sound.slots plan.proxies (placeholder p k) (get_inserted s.held plan.proxies (placeholder p k))).page

  -- if no page is partly full, the slot's page is full
  pub full_is_filled : are_filled plan.paging (live plan.paging (objects s.held) k.class) k ≡ true → is_filled plan.paging s.held k ≡ true
  full_is_filled full = elim (cases_lt (objects_on p s.held k.class here + 1) (slots_of p k.class)) [
    | inr filled ↦ le_yes (slots_of p k.class) (objects_on p s.held k.class here + 1) filled
    | inl less ↦ absurd (
        let more = one_more plan ok s.held k none class sound in
        let o = open_counts p all k.class here (record { within = within; some = omega arith; less = omega arith }) in
        let z = no_part full in
        omega arith)
  ]

  -- if a second page is partly full, the slot's page is filled, and with the slot one page is partly full
  pub two_is_filled : not_full_pages plan.paging s.held k.class ≡ 2 → (is_filled plan.paging s.held k ≡ true)
      × (are_filled plan.paging (live plan.paging (objects s.held) k.class) k ≡ false)
  two_is_filled two =
      let l = two_is_last plan ok s.held k none class sound two in
      let filled = l.filled in
      (le_yes (slots_of p k.class) (objects_on p s.held k.class here + 1) (omega arith), go (are_filled p (live p (objects s.held) k.class) k) refl l.other)
    where
      go : (b : Bool) → are_filled p (live p (objects s.held) k.class) k ≡ b → not_full_pages p all k.class ≡ 1
          → are_filled p (live p (objects s.held) k.class) k ≡ false
      go false e other = e
      go true e other = absurd (let z = no_part e in omega arith)

  pub filled_is_two : is_filled plan.paging s.held k ≡ true → are_filled plan.paging (live plan.paging (objects s.held) k.class) k ≡ false
      → not_full_pages plan.paging s.held k.class ≡ 2
  filled_is_two filled full = elim (cases_eq (not_full_pages p s.held k.class) 2) [
    | inl two ↦ two
    | inr ne ↦ (
        let le = leb-true (slots_of p k.class) (objects_on p s.held k.class here + 1) filled in
        let less = below ne in
        let more = one_more plan ok s.held k none class sound in
        let of_class = placeholder_class p ok.paging k class in
        let several : 1 < slots_of p k.class = elim (cases_eq (slots_of p k.class) 1) [
          | inl single ↦ absurd (eqb-false ((live p (objects s.held) k.class + 1) % slots_of p k.class) 0 full (rw single (omega arith)))
          | inr other ↦ (let some = slots_some p ok.paging k.class class in omega arith)
        ] in
        must_is_two plan ok s.held k none class sound (record {
          full = rw of_class (omega arith);
          several = rw of_class several;
          many = rw of_class (one_part full ∙ sym (ok.ones k.class class));
        }))
  ]
    where
      vacant : (q : ℕ) (y : Placed) → get s.held q ≡ Some y → y.place ≢ k.address
      vacant q y there = sound.own_place q y plan.proxies (placeholder p k)
          (get_insert_other s.held plan.proxies (placeholder p k) q (other_than s.held plan.proxies q y none there) ∙ there)
          (get_inserted s.held plan.proxies (placeholder p k)) (λ e. other_than s.held plan.proxies q y none there (sym e))

      below : not_full_pages p s.held k.class ≢ 2 → objects_on p s.held k.class here < slots_of p k.class
      below ne =
          let slot = sound.slots plan.proxies (placeholder p k) (get_inserted s.held plan.proxies (placeholder p k)) in
          let at = subst (λ c. IsSlotAt p c k.address) (placeholder_class p ok.paging k class) slot in
          less_where_vacant p ok.paging k.class s.held (sound_without_slot plan ok s.held k none class sound ne) k.address at vacant

  -- so unless the class has two partly full pages, the slot's page is full if and only if the taken slots fill whole pages
  pub once_filled : not_full_pages plan.paging s.held k.class ≢ 2
      → is_filled plan.paging s.held k ≡ are_filled plan.paging (live plan.paging (objects s.held) k.class) k
  once_filled ne = go (is_filled p s.held k) (are_filled p (live p (objects s.held) k.class) k) refl refl
    where
      go : (a b : Bool) → is_filled p s.held k ≡ a → are_filled p (live p (objects s.held) k.class) k ≡ b → a ≡ b
      go true true e f = refl
      go false false e f = refl
      go true false e f = absurd (ne (filled_is_two e f))
      go false true e f = absurd (let z : true ≡ false = sym (full_is_filled f) ∙ e in cc)

-- a malloc while a job is pending: the new object may fill the page of the job's slot
module _ (plan : Plan) (ok : IsPlan plan) (old new : Sliced) (kept : IsKept plan old) (after : IsKept plan new) (k : JobSlot)
    (is : job_slot old.job ≡ Some k) (still : job_slot new.job ≡ Some k) (h : ℕ) (x : Placed) (unused : get old.held h ≡ None)
    (came : new.held ≡ insert old.held h x) where
  abbrev size : ℕ
  size = slots_of plan.paging k.class

  abbrev page : ℕ
  page = page_of plan.paging k.address

  abbrev before : Held
  before = insert old.held plan.proxies (placeholder plan.paging k)

  abbrev then_ : Held
  then_ = insert new.held plan.proxies (placeholder plan.paging k)

  more : (g : ℕ) → objects_on plan.paging new.held k.class g ≡ objects_on plan.paging old.held k.class g + one (is_on plan.paging k.class g x)
  more g = ap (λ m. objects_on plan.paging m k.class g) came ∙ objects_on-inserted plan.paging old.held h x unused k.class g

  still_filled : is_filled plan.paging old.held k ≡ true → is_filled plan.paging new.held k ≡ true
  still_filled filled =
      let le = leb-true size (objects_on plan.paging old.held k.class page + 1) filled in
      let m = more page in
      le_yes size (objects_on plan.paging new.held k.class page + 1) (omega arith)

  -- if the new object is on the slot's page, no other page changes
  away : page_of plan.paging x.place ≡ page → (g : ℕ) → g ≢ page
      → objects_on plan.paging then_ k.class g ≡ objects_on plan.paging before k.class g
  away on g ne =
      same_elsewhere plan ok new.held k (none plan ok new after k still) (class plan ok new after k still) (sound plan ok new after k still) g ne
      ∙ ap (λ m. objects_on plan.paging m k.class g) came
      ∙ objects_on-elsewhere plan.paging old.held h x unused k.class g (inl (λ e. ne (sym e ∙ on)))
      ∙ sym (same_elsewhere plan ok old.held k (none plan ok old kept k is) (class plan ok old kept k is) (sound plan ok old kept k is) g ne)

  differ : page_of plan.paging x.place ≡ page
      → not_full_pages plan.paging then_ k.class + one (part_full (objects_on plan.paging before k.class page) size)
      ≡ not_full_pages plan.paging before k.class + one (part_full (objects_on plan.paging then_ k.class page) size)
  unfolding not_full_pages
  differ on = count_changed (λ g. part_full (objects_on plan.paging then_ k.class g) size)
      (λ g. part_full (objects_on plan.paging before k.class g) size) 0 plan.paging.pages page (omega arith)
      (let w = within plan ok old kept k is in omega arith) (λ g ne. ap (λ n. part_full n size) (away on g ne))

  -- if the new object fills the slot's page, the taken slots of the class then fill whole pages
  filled_now : is_filled plan.paging old.held k ≡ false → is_filled plan.paging new.held k ≡ true
      → are_filled plan.paging (live plan.paging (objects new.held) k.class) k ≡ false → ⊥
  filled_now less filled part =
      let lt = leb-false size (objects_on plan.paging old.held k.class page + 1) less in
      let le = leb-true size (objects_on plan.paging new.held k.class page + 1) filled in
      elim (cases_eq (page_of plan.paging x.place) page) [
        | inr ne ↦ (
            let same = ap (λ m. objects_on plan.paging m k.class page) came
            ∙ objects_on-elsewhere plan.paging old.held h x unused k.class page (inl ne) in
            omega arith)
        | inl on ↦ (
            let a = one_more plan ok old.held k (none plan ok old kept k is) (class plan ok old kept k is) (sound plan ok old kept k is) in
            let b = one_more plan ok new.held k (none plan ok new after k still) (class plan ok new after k still) (sound plan ok new after k still) in
            let yes = part_yes (objects_on plan.paging before k.class page) size (omega arith) (omega arith) in
            let no' = part_over (objects_on plan.paging then_ k.class page) size (omega arith) in
            let f = few plan ok old kept k is in
            let one_is = one_part plan ok new after k still part in
            let d = differ on in
            omega arith)
      ]

  pub filled_after : is_filled plan.paging new.held k
      ≡ (is_filled plan.paging old.held k || are_filled plan.paging (live plan.paging (objects new.held) k.class) k)
  filled_after = go (is_filled plan.paging old.held k) (are_filled plan.paging (live plan.paging (objects new.held) k.class) k)
      (is_filled plan.paging new.held k) refl refl refl
    where
      go : (a b r : Bool) → is_filled plan.paging old.held k ≡ a → are_filled plan.paging (live plan.paging (objects new.held) k.class) k ≡ b
          → is_filled plan.paging new.held k ≡ r → r ≡ (a || b)
      go true b true e f g = refl
      go true b false e f g = absurd (let z : true ≡ false = sym (still_filled e) ∙ g in cc)
      go false true true e f g = refl
      go false true false e f g = absurd (let z : true ≡ false = sym (full_is_filled plan ok new after k still f) ∙ g in cc)
      go false false false e f g = refl
      go false false true e f g = absurd (filled_now e g f)

-- What lines and replies in mode `slice` show of a state of the sliced heap's model (`ShownSlices`); a slice, a malloc and a free change it as the
-- claim computes.

abbrev pub job_of : Paging → Held → JobSlot → ShownJob
job_of paging m k = record { class = k.class; done = k.done; filled = is_filled paging m k }

abbrev pub job_shown : Paging → Held → Option JobSlot → Option ShownJob
job_shown paging m None = None
job_shown paging m (Some k) = Some (job_of paging m k)

abbrev pub heap_with : Profile → Objects → ById
heap_with s o = record (begun Moving s) { objects = o }

abbrev pub plan_by : Profile → ℕ → Plan
plan_by s quantum = record { paging = paging_of s Words (first_bounds s Words); proxies = s.proxies; quantum = quantum }

-- the heap that a state of the model shows, with these objects by id
abbrev pub state_shown : Profile → ℕ → Objects → Sliced → ShownSlices
state_shown s quantum o w = record {
  heap = heap_with s o;
  quantum = quantum;
  job = job_shown (plan_by s quantum).paging w.held (job_slot w.job);
}

module _ (s : Profile) (quantum : ℕ) (ok : IsPlan (plan_by s quantum)) where
  abbrev plan : Plan
  plan = plan_by s quantum

  abbrev paging : Paging
  paging = plan.paging

  abbrev with_job : Objects → Option ShownJob → ShownSlices
  with_job o job = record { heap = heap_with s o; quantum = quantum; job = job }

  -- each class has the same number of objects by id as by handle
  abbrev pub AreCounted : Objects → Held → Type 0
  AreCounted o m = (c : ℕ) → live (plan_by s quantum).paging o c ≡ live (plan_by s quantum).paging (objects m) c

  full_shown : (o : Objects) (m : Held) → AreCounted o m → (k : JobSlot) (done : ℕ) (filled : Bool)
      → are_full (with_job o (Some (record { class = k.class; done = done; filled = filled }))) k.class ≡ are_filled paging (live paging (objects m) k.class) k
  full_shown o m counted k done filled = λ i. nat_eq ((counted k.class i + cond (eq_yes k.class k.class refl i) 1 0) % slots_of paging k.class) 0

  -- the heap that is shown after a malloc
  pub malloc_noted : (o : Objects) (old new : Sliced) → IsKept (plan_by s quantum) old → (asked : Request) → AddsSlicedObject (plan_by s quantum) old asked new
      → AreCounted o new.held
      → noted (record { heap = heap_with s o; quantum = quantum; job = job_shown (plan_by s quantum).paging old.held (job_slot old.job) })
      ≡ state_shown s quantum o new
  malloc_noted o old new kept asked g counted = ap (with_job o) (go (job_slot old.job) refl)
    where
      job_is : job_slot new.job ≡ job_slot old.job
      job_is = ap (λ (w : Sliced). job_slot w.job) g.placed

      go : (q : Option JobSlot) → job_slot old.job ≡ q → job_noted (with_job o (job_shown paging old.held q)) (job_shown paging old.held q)
          ≡ job_shown paging new.held (job_slot new.job)
      go None e = sym (ap (job_shown paging new.held) (job_is ∙ e))
      go (Some k) e =
          let full = full_shown o new.held counted k k.done (is_filled paging old.held k) in
          let after = filled_after plan ok old new kept (kept_malloc plan ok old kept asked new g) k e (job_is ∙ e) asked.number
          (zeros_at g.place asked.length) g.unused (ap (λ (w : Sliced). w.held) g.placed) in
          ap (λ b. Some (record { class = k.class; done = k.done; filled = is_filled paging old.held k || b })) full
          ∙ ap (λ b. Some (record { class = k.class; done = k.done; filled = b })) (sym after)
          ∙ sym (ap (job_shown paging new.held) (job_is ∙ e))

  -- the heap that is shown after a free, before its first slice
  pub free_noted : (o : Objects) (m : Held) → IsKept (plan_by s quantum) (record { held = m; job = Idle }) → (h : ℕ) (x : Placed) → get m h ≡ Some x
      → (moved : Option ℕ) → Moves (plan_by s quantum).paging m x moved → (after : Sliced)
      → LeavesJob (remove m h) x.place (class_at (plan_by s quantum).paging x) moved after → AreCounted o after.held
      → noted (record {
        heap = heap_with s o;
        quantum = quantum;
        job = Some (record { class = class_at (plan_by s quantum).paging x; done = 0; filled = false });
      })
      ≡ state_shown s quantum o after
  free_noted o m kept h x there moved moves after is counted =
      let fresh = begun_fresh plan ok (remove m h) x.place (class_at paging x) moved after is in
      let k : JobSlot = fresh_slot fresh.0 (class_at paging x) in
      let full = full_shown o after.held counted k 0 false in
      let once = once_filled plan ok after (kept_begun plan ok m kept h x there moved moves after is) k fresh.1
      (begun_once plan ok m kept h x there moved moves after is) in
      ap (with_job o) (ap (λ b. Some (record { class = class_at paging x; done = 0; filled = b })) (full ∙ sym once)
      ∙ sym (ap (job_shown paging after.held) fresh.1))

  -- the heap that is shown after a slice
  module _ (o : Objects) (old new : Sliced) (kept : IsKept (plan_by s quantum) old) (slice : IsSlice (plan_by s quantum) old new)
      (counted : AreCounted o old.held) where
    abbrev Shows : Option JobSlot → Type 0
    Shows q = job_sliced (with_job o (job_shown paging old.held q)) (job_shown paging old.held q) ≡ job_shown paging new.held (job_slot new.job)

    goes_on : (k : JobSlot) → job_slot old.job ≡ Some k → GoesOn plan old k new → Shows (Some k)
    goes_on k e on =
        let left = on.left in
        let done : done_after plan k ≡ k.done + quantum = omega arith in
        let yes = lt_yes (k.done + quantum) (slot_words paging k.class) (omega arith) in
        ap (λ b. cond b (Some (record { class = k.class; done = k.done + quantum; filled = is_filled paging old.held k }))
        (cond (is_filled paging old.held k && not (are_full (with_job o (Some (job_of paging old.held k))) k.class))
        (Some (record { class = k.class; done = 0; filled = false })) None)) yes
        ∙ ap (λ n. Some (record { class = k.class; done = n; filled = is_filled paging old.held k })) (sym done)
        ∙ sym (ap (λ (w : Sliced). job_shown paging w.held (job_slot w.job)) on.whole
        ∙ ap (job_shown paging old.held) (slot_advanced old.job k (done_after plan k) e))

    both_no : (b : Bool) → (b && not b) ≡ false
    both_no true = refl
    both_no false = refl

    ended : (k : JobSlot) → job_slot old.job ≡ Some k → IsDone plan old k new → (a b : Bool) → is_filled paging old.held k ≡ a
        → are_filled paging (live paging (objects old.held) k.class) k ≡ b
        → cond (a && not b) (Some (record { class = k.class; done = 0; filled = false })) None ≡ job_shown paging new.held (job_slot new.job)
        → Shows (Some k)
    ended k e end a b filled full rest =
        let all = end.all in
        let no' = lt_no (k.done + quantum) (slot_words paging k.class) (omega arith) in
        (λ i. cond (no' i) (Some (record { class = k.class; done = k.done + quantum; filled = is_filled paging old.held k }))
        (cond (filled i && not ((full_shown o old.held counted k k.done (is_filled paging old.held k) ∙ full) i))
        (Some (record { class = k.class; done = 0; filled = false })) None))
        ∙ rest

    go : (q : Option JobSlot) → job_slot old.job ≡ q → SliceOf plan old q new → Shows q
    go None e same = sym (ap (λ (w : Sliced). job_shown paging w.held (job_slot w.job)) same ∙ ap (job_shown paging old.held) e)
    go (Some k) e (inl on) = goes_on k e on
    go (Some k) e (inr end) = elim end.ends [
      | inl (ne, whole) ↦ (
          let once = once_filled plan ok old kept k e ne in
          ended k e end (are_filled paging (live paging (objects old.held) k.class) k) (are_filled paging (live paging (objects old.held) k.class) k) once refl
          (ap (λ b. cond b (Some (record { class = k.class; done = 0; filled = false })) None)
          (both_no (are_filled paging (live paging (objects old.held) k.class) k))
          ∙ sym (ap (λ (w : Sliced). job_shown paging w.held (job_slot w.job)) whole)))
      | inr chains ↦ (
          let two = two_is_filled plan ok old kept k e chains.two in
          let next : JobSlot = fresh_slot chains.carries.object.place k.class in
          let next_is : job_slot new.job ≡ Some (fresh_slot chains.carries.object.place k.class) =
          ap (λ (w : Sliced). job_slot w.job) chains.carries.whole in
          let kept' = kept_slice plan ok old new kept slice in
          let ne = followed_once plan ok old.held k.address k.class chains.object new chains.beside chains.carries kept' in
          let once = once_filled plan ok new kept' (fresh_slot chains.carries.object.place k.class) next_is ne in
          let same = objects_sliced plan old new slice in
          let fresh : is_filled paging new.held (fresh_slot chains.carries.object.place k.class) ≡ false =
          once ∙ ap (λ o. are_filled paging (live paging o k.class) k) same ∙ two.1 in
          ended k e end true false two.0 two.1
          (sym (ap (job_shown paging new.held) next_is ∙ ap (λ b. Some (record { class = k.class; done = 0; filled = b })) fresh)))
    ]

    pub slice_shown : after_slice (state_shown s quantum o old) ≡ state_shown s quantum o new
    slice_shown = ap (with_job o) (go (job_slot old.job) refl slice)

  -- the heap that is shown has as many words left as the model's job
  pub left_shown : (o : Objects) (w : Sliced) (q : Option JobSlot)
      → words_of_job (state_shown s quantum o w) (job_shown (plan_by s quantum).paging w.held q) ≡ left_of_slot (plan_by s quantum).paging q
  left_shown o w None = refl
  left_shown o w (Some k) = refl
