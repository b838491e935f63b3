-- For `who_is_busy_and_how_long`: which calls wait for a job, how many words the job has left after each slice, and that it ends.
use Rattle.std.proofs.Common.{◌≡◌, ◌≢◌, ℕ, zero, suc, true, false, cond, ◌+◌, ◌-◌, ◌*◌, ◌<◌, ◌≤◌, Bool, List, Option, Some, None, length, get_or, arith, sym, ◌∙◌, ap, refl, subst, inl, inr, ◌&&◌, ◌||◌, ◌↔◌, codes, if◌then◌else◌, nat_eq, nat_lt, not}
use Rattle.std.proofs.lemmas.Bool.{cases_lt}
use Rattle.run_model.specs.Terms.{classes, Free, get, IsPaging, len, need, Paging, remove, Slice, slot_words, slots_of}
use Rattle.cf_base.proofs.Ranges.{one}
use Rattle.cf_base.proofs.Tests.{lt_no, lt_yes}
use Rattle.page_model.specs.Arrangement.{live, pages_for, pages_needed_with}
use Rattle.page_model.specs.Counts.{ceil_div}
use Rattle.page_model.specs.Paging.{class_for}
use Rattle.page_model.proofs.CallerLemmas.{ceil_mono, slots_some}
use Rattle.slice_model.specs.declared.refusals.SliceRefusal.{SliceRefusal}
use Rattle.slice_model.proofs.CallerLemmas.{ceil_one_more, sum_one_more}
use Rattle.slice_session.specs.SliceRun.{slice_free_text}
use Rattle.slice_session.specs.ShownSlices.{ShownJob, ShownSlices, after_slice, are_full, job_sliced, job_takes, needed_beside, noted, paging_shown, words_left, words_of_job}
use Rattle.slice_session.specs.SliceHeadline.{after, after_free, after_slices, job_begun, slice_line, slice_fault, slice_refusal, with_objects}
use Rattle.slice_session.proofs.Claims.{refusal_by}
use Rattle.slice_model.specs.declared.refusals.SliceRefusal.TheVariants as refusal

-- For `who_is_busy_and_how_long`: a free prints `busy` if and only if a job is pending, a malloc doesn't while a page is to spare, and each slice lowers the
-- words left of a free's job by the quantum.

-- a free prints `busy` if and only if a job is pending
pub free_is_busy : (t : ShownSlices) (id : ℕ) (v : List ℕ) → get t.heap.objects id ≡ Some v → (slice_line t (Free id) ≡ codes "busy") ↔ (t.job ≢ None)
free_is_busy t id v there = go t.job (ap (λ o. slice_free_text (slice_fault o t.job)) there)
  where
    go : (j : Option ShownJob) → slice_line t (Free id) ≡ slice_free_text (slice_fault (Some v) j) → (slice_line t (Free id) ≡ codes "busy") ↔ (j ≢ None)
    go None e = (
      (λ busy _. (let z : ◌≡◌ {A = ℕ} 98 111 = ap (λ l. get_or l 0 0) (sym busy ∙ e) in omega arith)),
      (λ ne. absurd (ne refl)),
    )
    go (Some job) e = ((λ _ none. (let z : Some job ≡ None = none in cc)), (λ _. e))

-- a malloc doesn't print `busy` if a page is to spare, since the job's slot needs at most one page
module _ (t : ShownSlices) (n : ℕ) (ok : IsPaging (paging_shown t)) where
  abbrev p : Paging
  p = paging_shown t

  one_slot : (q : Option ShownJob) → pages_for p (λ c. live p t.heap.objects c + job_takes q c + one (nat_eq (class_for p n) c))
      ≤ pages_for p (λ c. live p t.heap.objects c + one (nat_eq (class_for p n) c)) + 1
  one_slot None = sum_one_more (λ c. ceil_div (live p t.heap.objects c + one (nat_eq (class_for p n) c)) (slots_of p c))
      (λ c. ceil_div (live p t.heap.objects c + 0 + one (nat_eq (class_for p n) c)) (slots_of p c)) 0 0 (classes p)
      (λ d _ lt. (let m = ceil_mono (live p t.heap.objects d + 0 + one (nat_eq (class_for p n) d)) (live p t.heap.objects d + one (nat_eq (class_for p n) d))
      (slots_of p d) (omega arith) in omega arith))
  one_slot (Some job) = sum_one_more (λ c. ceil_div (live p t.heap.objects c + one (nat_eq (class_for p n) c)) (slots_of p c))
      (λ c. ceil_div (live p t.heap.objects c + one (nat_eq job.class c) + one (nat_eq (class_for p n) c)) (slots_of p c)) job.class 0 (classes p)
      (λ d _ lt. step d (nat_eq job.class d) (omega arith))
    where
      step : (d : ℕ) (b : Bool) → d < classes p → ceil_div (live p t.heap.objects d + one b + one (nat_eq (class_for p n) d)) (slots_of p d)
          ≤ ceil_div (live p t.heap.objects d + one (nat_eq (class_for p n) d)) (slots_of p d) + one b
      step d false lt =
          let m = ceil_mono (live p t.heap.objects d + 0 + one (nat_eq (class_for p n) d)) (live p t.heap.objects d + one (nat_eq (class_for p n) d))
          (slots_of p d) (omega arith) in
          omega arith
      step d true lt =
          let m = ceil_mono (live p t.heap.objects d + 1 + one (nat_eq (class_for p n) d)) (live p t.heap.objects d + one (nat_eq (class_for p n) d) + 1)
          (slots_of p d) (omega arith) in
          let more = ceil_one_more (live p t.heap.objects d + one (nat_eq (class_for p n) d)) (slots_of p d) (slots_some p ok d lt) in
          omega arith

  pub spare_page : pages_needed_with (paging_shown t) t.heap.objects n < t.heap.profile.pages → slice_refusal t n ≢ Some refusal.Busy
  unfolding pages_needed_with
  spare_page spare = go (nat_lt t.heap.profile.page_words (need n)) (nat_eq (len t.heap.objects) t.heap.profile.proxies)
      (nat_lt t.heap.profile.pages (pages_needed_with p t.heap.objects n)) (nat_lt t.heap.profile.pages (needed_beside t n))
      (let m = one_slot t.job in lt_no t.heap.profile.pages (needed_beside t n) (omega arith))
    where
      go : (a b c d : Bool) → d ≡ false → cond a (Some refusal.Size) (cond b (Some refusal.Proxy) (cond c (Some refusal.Space)
          (cond d (Some refusal.Busy) None))) ≢ Some refusal.Busy
      go true b c d e is = (let z : Some refusal.Size ≡ Some refusal.Busy = is in cc)
      go false true c d e is = (let z : Some refusal.Proxy ≡ Some refusal.Busy = is in cc)
      go false false true d e is = (let z : Some refusal.Space ≡ Some refusal.Busy = is in cc)
      go false false false true e is = absurd (let z : true ≡ false = e in cc)
      go false false false false e is = (let z : ◌≡◌ {A = Option SliceRefusal} None (Some refusal.Busy) = is in cc)

-- a job after which no other follows
abbrev pub IsAlone : ShownSlices → Option ShownJob → Type 0
IsAlone t None = Unit {0}
IsAlone t (Some job) = (job.filled && not (are_full t job.class)) ≡ false

pub one_lower : (t : ShownSlices) → IsAlone t t.job → (words_left (after_slice t) ≡ words_left t - t.quantum) × IsAlone (after_slice t) (after_slice t).job
one_lower t alone = go t.job alone
  where
    go : (j : Option ShownJob) → IsAlone (record t { job = j }) j → (words_left (after_slice (record t { job = j })) ≡ words_left (record t { job = j }) - t.quantum)
        × IsAlone (after_slice (record t { job = j })) (after_slice (record t { job = j })).job
    go None alone = (omega arith, tt)
    go (Some job) alone = elim (cases_lt (job.done + t.quantum) (slot_words (paging_shown t) job.class)) [
      | inl more ↦ (
          let yes = lt_yes (job.done + t.quantum) (slot_words (paging_shown t) job.class) more in
          let is : job_sliced (record t { job = Some job }) (Some job) ≡ Some (record job { done = job.done + t.quantum }) =
          ap (λ b. cond b (Some (record job { done = job.done + t.quantum })) (cond (job.filled && not (are_full (record t { job = Some job }) job.class))
          (Some (record { class = job.class; done = 0; filled = false })) None)) yes in
          by_job job (Some (record job { done = job.done + t.quantum })) is (omega arith) alone)
      | inr last ↦ (
          let no' = lt_no (job.done + t.quantum) (slot_words (paging_shown t) job.class) last in
          let is : job_sliced (record t { job = Some job }) (Some job) ≡ None =
          λ i. cond (no' i) (Some (record job { done = job.done + t.quantum })) (cond (alone i)
          (Some (record { class = job.class; done = 0; filled = false })) None) in
          by_job job None is (omega arith) tt)
    ]
      where
        by_job : (job : ShownJob) (next : Option ShownJob) → job_sliced (record t { job = Some job }) (Some job) ≡ next
            → words_left (record t { job = next }) ≡ words_left (record t { job = Some job }) - t.quantum → IsAlone (record t { job = next }) next
            → (words_left (after_slice (record t { job = Some job })) ≡ words_left (record t { job = Some job }) - t.quantum)
            × IsAlone (after_slice (record t { job = Some job })) (after_slice (record t { job = Some job })).job
        by_job job next is left alone = (
          ap (λ j. words_left (record t { job = j })) is ∙ left,
          subst (λ j. IsAlone (record t { job = j }) j) (sym is) alone,
        )

lower : (n : ℕ) (t : ShownSlices) → IsAlone t t.job → words_left (after_slices n t) ≡ words_left t - n * t.quantum
lower zero t alone = omega arith
lower (suc n) t alone =
    let one' = one_lower t alone in
    let here = one'.0 in
    let rest = lower n (after_slice t) one'.1 in
    omega arith

-- after a free and n slices n + 1 quanta fewer words are left than the object's slot has, or none
pub left_after_free : (t : ShownSlices) (id n : ℕ) (v : List ℕ) → get t.heap.objects id ≡ Some v → t.job ≡ None
    → words_left (after_slices n (after t (Free id))) ≡ slot_words (paging_shown t) (class_for (paging_shown t) (length v)) - (n + 1) * t.quantum
left_after_free t id n v there none =
    let start : ShownSlices = noted (record (with_objects t (remove t.heap.objects id)) { job = Some (job_begun t v) }) in
    let is : after t (Free id) ≡ after_slice (noted (record (with_objects t (remove t.heap.objects id)) { job = Some (job_begun t v) })) =
    λ i. after_free (there i) (none i) t id in
    let low = lower (suc n) (noted (record (with_objects t (remove t.heap.objects id)) { job = Some (job_begun t v) }))
    (both_no (are_full (record (with_objects t (remove t.heap.objects id)) { job = Some (job_begun t v) }) (class_for (paging_shown t) (length v)))) in
    ap (λ u. words_left (after_slices n u)) is ∙ low ∙ omega arith
  where
    both_no : (b : Bool) → ((false || b) && not b) ≡ false
    both_no true = refl
    both_no false = refl

-- after a slice no words are left if and only if no job is pending
module _ (t : ShownSlices) where
  abbrev HasWords : Option ShownJob → Type 0
  HasWords None = Unit {0}
  HasWords (Some job) = 0 < slot_words (paging_shown t) job.class - job.done

  left_or_none : (j : Option ShownJob) → HasWords j → (words_of_job t j ≡ 0) ↔ (j ≡ None)
  left_or_none None has = ((λ _. refl), (λ _. refl))
  left_or_none (Some job) has = ((λ none. absurd (omega arith)), (λ e. absurd (let z : Some job ≡ None = e in cc)))

  abbrev next : ShownJob → Option ShownJob
  next job = if job.filled && not (are_full t job.class) then Some (record { class = job.class; done = 0; filled = false }) else None

  sliced_has : (j : Option ShownJob) → ((job : ShownJob) → j ≡ Some job → 0 < slot_words (paging_shown t) job.class) → HasWords (job_sliced t j)
  sliced_has None some = tt
  sliced_has (Some job) some = elim (cases_lt (job.done + t.quantum) (slot_words (paging_shown t) job.class)) [
    | inl more ↦ (
        let yes = lt_yes (job.done + t.quantum) (slot_words (paging_shown t) job.class) more in
        subst HasWords (sym (ap (λ b. cond b (Some (record job { done = job.done + t.quantum })) (next job)) yes)) (going more))
    | inr last ↦ (
        let no' = lt_no (job.done + t.quantum) (slot_words (paging_shown t) job.class) last in
        subst HasWords (sym (ap (λ b. cond b (Some (record job { done = job.done + t.quantum })) (next job)) no'))
        (begun (job.filled && not (are_full t job.class)) (some job refl)))
  ]
    where
      going : job.done + t.quantum < slot_words (paging_shown t) job.class → HasWords (Some (record job { done = job.done + t.quantum }))
      going more = omega arith

      begun : (b : Bool) → 0 < slot_words (paging_shown t) job.class
          → HasWords (if b then Some (record { class = job.class; done = 0; filled = false }) else None)
      begun true size = omega arith
      begun false size = tt

pub none_left : (t : ShownSlices) → ((job : ShownJob) → t.job ≡ Some job → 0 < slot_words (paging_shown t) job.class)
    → (words_left (after t Slice) ≡ 0) ↔ ((after t Slice).job ≡ None)
none_left t some = left_or_none t (job_sliced t t.job) (sliced_has t t.job some)

-- For `who_is_busy_and_how_long`: slices alone end the pending job and the one that may follow; then a malloc that was refused with `busy` isn't refused.

abbrev size : ShownSlices → ShownJob → ℕ
size t job = slot_words (paging_shown t) job.class

-- the job has words left, and n slices are enough for them; true without a job
abbrev IsWithin : ℕ → ShownSlices → Option ShownJob → Type 0
IsWithin n t None = Unit {0}
IsWithin n t (Some job) = (job.done < size t job) × (size t job ≤ job.done + n * t.quantum)

-- n slices are enough for all words of the job's slot; true without a job
abbrev Fits : ℕ → ShownSlices → Option ShownJob → Type 0
Fits n t None = Unit {0}
Fits n t (Some job) = size t job ≤ n * t.quantum

abbrev moved : ShownSlices → ShownJob → ShownJob
moved t job = record job { done = job.done + t.quantum }

abbrev followed : ShownJob → ShownJob
followed job = record { class = job.class; done = 0; filled = false }

-- true if another job follows when this one ends
abbrev chains : ShownSlices → ShownJob → Bool
chains t job = job.filled && not (are_full t job.class)

module _ (t : ShownSlices) (job : ShownJob) where
  goes_on : job.done + t.quantum < size t job → job_sliced t (Some job) ≡ Some (moved t job)
  goes_on more = ap (λ b. cond b (Some (moved t job)) (cond (chains t job) (Some (followed job)) None)) (lt_yes (job.done + t.quantum) (size t job) more)

  is_over : size t job ≤ job.done + t.quantum → job_sliced t (Some job) ≡ cond (chains t job) (Some (followed job)) None
  is_over last = ap (λ b. cond b (Some (moved t job)) (cond (chains t job) (Some (followed job)) None)) (lt_no (job.done + t.quantum) (size t job) last)

fewer : (n : ℕ) (t : ShownSlices) (j : Option ShownJob) → IsAlone t j → IsWithin (suc n) t j → IsWithin n t (job_sliced t j)
fewer n t None alone within = tt
fewer n t (Some job) alone (some, most) = elim (cases_lt (job.done + t.quantum) (size t job)) [
  | inl more ↦ subst (IsWithin n t) (sym (goes_on t job more)) (still more most)
  | inr last ↦ subst (IsWithin n t) (sym (is_over t job last ∙ ap (λ b. cond b (Some (followed job)) None) alone)) tt
]
  where
    still : job.done + t.quantum < size t job → size t job ≤ job.done + suc n * t.quantum → IsWithin n t (Some (moved t job))
    still more most = (more, omega arith)

-- n slices end a job that no other one follows, if they are enough for its words
alone_ends : (n : ℕ) (t : ShownSlices) → IsAlone t t.job → IsWithin n t t.job → (after_slices n t).job ≡ None
alone_ends zero t alone within = go t.job refl within
  where
    go : (j : Option ShownJob) → t.job ≡ j → IsWithin 0 t j → t.job ≡ None
    go None e w = e
    go (Some job) e (some, most) = absurd (omega arith)
alone_ends (suc n) t alone within = alone_ends n (after_slice t) (one_lower t alone).1 (fewer n t t.job alone within)

idle_stays : (n : ℕ) (t : ShownSlices) → t.job ≡ None → (after_slices n t).job ≡ None
idle_stays n t none = alone_ends n t (subst (IsAlone t) (sym none) tt) (subst (IsWithin n t) (sym none) tt)

-- slices that are enough for the words left of a job (`a`) and for a whole slot (`b`) end the job and the one that follows it
both_end : (a b : ℕ) (t : ShownSlices) → IsWithin a t t.job → Fits b t t.job → (after_slices (a + b) t).job ≡ None
both_end zero b t within fits = go t.job refl within
  where
    go : (j : Option ShownJob) → t.job ≡ j → IsWithin 0 t j → (after_slices (0 + b) t).job ≡ None
    go None e w = idle_stays (0 + b) t e
    go (Some job) e (some, most) = absurd (omega arith)
both_end (suc a) b t within fits =
    let n : suc (a + b) ≡ suc a + b = omega arith in
    subst (λ n. (after_slices n t).job ≡ None) n (go t.job refl within fits (both_end a b (after_slice t)))
  where
    once : (job : ShownJob) (c : Bool) → chains t job ≡ c → (after_slice t).job ≡ cond (chains t job) (Some (followed job)) None → 0 < size t job
        → size t job ≤ b * t.quantum → (after_slices (a + b) (after_slice t)).job ≡ None
    once job false e is some most = idle_stays (a + b) (after_slice t) (is ∙ ap (λ c. cond c (Some (followed job)) None) e)
    once job true e is some most =
        let next : (after_slice t).job ≡ Some (followed job) = is ∙ ap (λ c. cond c (Some (followed job)) None) e in
        alone_ends (a + b) (after_slice t) (subst (IsAlone (after_slice t)) (sym next) refl)
        (subst (IsWithin (a + b) (after_slice t)) (sym next) (some, omega arith))

    go : (j : Option ShownJob) → t.job ≡ j → IsWithin (suc a) t j → Fits b t j
        → (IsWithin a (after_slice t) (after_slice t).job → Fits b (after_slice t) (after_slice t).job → (after_slices (a + b) (after_slice t)).job ≡ None)
        → (after_slices (a + b) (after_slice t)).job ≡ None
    go None e w f again = idle_stays (a + b) (after_slice t) (ap (job_sliced t) e)
    go (Some job) e (some, most) f again = elim (cases_lt (job.done + t.quantum) (size t job)) [
      | inl more ↦ (
          let next : (after_slice t).job ≡ Some (moved t job) = ap (job_sliced t) e ∙ goes_on t job more in
          let most' : size t job ≤ job.done + t.quantum + a * t.quantum = omega arith in
          again (subst (IsWithin a (after_slice t)) (sym next) (more, most')) (subst (Fits b (after_slice t)) (sym next) f))
      | inr last ↦ once job (chains t job) refl (ap (job_sliced t) e ∙ is_over t job last) (omega arith) f
    ]

-- slices change no object
same_heap : (n : ℕ) (t : ShownSlices) → (after_slices n t).heap ≡ t.heap
same_heap zero t = refl
same_heap (suc n) t = same_heap n (after_slice t)

-- without a job a malloc that was refused with `busy` succeeds
module _ (t : ShownSlices) (n : ℕ) where
  alone_needed : needed_beside (record t { job = None }) n ≡ pages_needed_with (paging_shown t) t.heap.objects n
  unfolding pages_needed_with
  alone_needed = λ i. pages_for (paging_shown t) (λ c. no_more (live (paging_shown t) t.heap.objects c) i + one (nat_eq (class_for (paging_shown t) n) c))
    where
      no_more : (k : ℕ) → k + 0 ≡ k
      no_more k = omega arith

  done_idle : slice_refusal t n ≡ Some refusal.Busy → slice_refusal (record t { job = None }) n ≡ None
  done_idle busy = go (nat_lt t.heap.profile.page_words (need n)) (nat_eq (len t.heap.objects) t.heap.profile.proxies)
      (nat_lt t.heap.profile.pages (pages_needed_with (paging_shown t) t.heap.objects n)) (nat_lt t.heap.profile.pages (needed_beside t n))
      (nat_lt t.heap.profile.pages (needed_beside (record t { job = None }) n)) (ap (nat_lt t.heap.profile.pages) alone_needed) busy
    where
      go : (a b c d e : Bool) → e ≡ c → refusal_by a b c d ≡ Some refusal.Busy → refusal_by a b c e ≡ None
      go true b c d e same is = absurd (let z : Some refusal.Size ≡ Some refusal.Busy = is in cc)
      go false true c d e same is = absurd (let z : Some refusal.Proxy ≡ Some refusal.Busy = is in cc)
      go false false true d e same is = absurd (let z : Some refusal.Space ≡ Some refusal.Busy = is in cc)
      go false false false d e same is = ap (refusal_by false false false) same

pub waiting_ends : (t : ShownSlices) (job : ShownJob) (n a b : ℕ) → t.job ≡ Some job → job.done < slot_words (paging_shown t) job.class
    → slot_words (paging_shown t) job.class ≤ job.done + a * t.quantum → slot_words (paging_shown t) job.class ≤ b * t.quantum
    → slice_refusal t n ≡ Some refusal.Busy → slice_refusal (after_slices (a + b) t) n ≡ None
waiting_ends t job n a b e some most all busy =
    let none = both_end a b t (subst (IsWithin a t) (sym e) (some, most)) (subst (Fits b t) (sym e) all) in
    (λ i. slice_refusal (record (after_slices (a + b) t) { heap = same_heap (a + b) t i; job = none i }) n)
    ∙ done_idle t n busy
