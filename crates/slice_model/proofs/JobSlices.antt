-- For the laws of `jobs.rt`: how a slice advances the pending job, which no other call changes; how many slices end it; that after it at most one more job
-- follows; and that slices begin no job if none is pending.
use Rattle.std.proofs.Common.{◌≡◌, ◌≢◌, ℕ, zero, suc, ◌+◌, ◌-◌, ◌*◌, ◌%◌, ◌<◌, ◌≤◌, List, [], ◌∷◌, Some, None, arith, sym, ◌∙◌, ap, refl, subst, inl, inr}
use Rattle.std.specs.Prelude.{◌⊎◌, Ok, Err}
use Rattle.std.proofs.lemmas.Nat.{div-add-mod'}
use Rattle.std.proofs.Math.Nat.{mod-lt}
use Rattle.std.specs.FinMap.{insert, remove}
use Rattle.cf_base.proofs.Maps.{get_removed}
use Rattle.cf_base.proofs.Ranges.{one}
use Rattle.cf_base.proofs.Sums.{insert_again}
use Rattle.page_model.specs.Arrangement.{class_at, not_full_pages, objects_on}
use Rattle.page_model.specs.Counts.{ceil_div}
use Rattle.page_model.specs.Held.{Held, Placed}
use Rattle.page_model.specs.Paging.{page_of, slot_words, slots_of}
use Rattle.page_model.proofs.CallerLemmas.{objects_on-elsewhere, objects_on-left}
use Rattle.slice_model.specs.State.{Plan, IsPlan, JobSlot, Job, Sliced, IsKept, advanced, job_slot, Idle, Clear, Move}
use Rattle.slice_model.specs.Steps.{AreSlices, BeginsMove, EndsJob, GoesOn, IsBeside, IsDone, IsOver, IsSlice, SliceOf, done_after, fresh_slot}
use Rattle.slice_model.specs.Runs.{Event, Happens, Runs, TaskCall, HeapWithWords, is_step, steps_in, Malloc, Free, Step, Write, Read}
use Rattle.slice_model.proofs.Occupied.{job_class, no_placeholder}
use Rattle.slice_model.proofs.KeptSteps.{kept_slice, two_is_last}

-- n words take `ceil_div n q` slices of q words: one slice fewer does not do them all
pub ceil_bounds : (n q : ℕ) → 0 < n → 1 ≤ q → (k : ℕ) × (ceil_div n q ≡ suc k) × (k * q < n) × (n ≤ k * q + q)
ceil_bounds n q some one = go (ceil_div n q) refl
  where
    go : (c : ℕ) → ceil_div n q ≡ c → (k : ℕ) × (c ≡ suc k) × (k * q < n) × (n ≤ k * q + q)
    go zero e = absurd (
        let d : ceil_div n q * q + (n + (q - 1)) % q ≡ n + (q - 1) = div-add-mod' (n + (q - 1)) q in
        let r = mod-lt (n + (q - 1)) one in
        let z : 0 * q + (n + (q - 1)) % q ≡ n + (q - 1) = rw e at d in
        omega arith)
    go (suc k) e =
        let d : ceil_div n q * q + (n + (q - 1)) % q ≡ n + (q - 1) = div-add-mod' (n + (q - 1)) q in
        let r = mod-lt (n + (q - 1)) one in
        let z : suc k * q + (n + (q - 1)) % q ≡ n + (q - 1) = rw e at d in
        let m : suc k * q ≡ k * q + q = omega arith in
        (k, refl, omega arith, omega arith)

advanced_twice : (j : Job) (d e : ℕ) → advanced (advanced j d) e ≡ advanced j e
advanced_twice Idle d e = refl
advanced_twice (Clear k) d e = refl
advanced_twice (Move h k) d e = refl

advanced_not : (j : Job) (k : JobSlot) → job_slot j ≡ Some k → advanced j k.done ≡ j
advanced_not Idle k e = refl
advanced_not (Clear g) k e = (let f : k ≡ g = (let e' : Some g ≡ Some k = e in cc) in rw f refl)
advanced_not (Move h g) k e = (let f : k ≡ g = (let e' : Some g ≡ Some k = e in cc) in rw f refl)

pub slot_advanced : (j : Job) (k : JobSlot) (d : ℕ) → job_slot j ≡ Some k → job_slot (advanced j d) ≡ Some (record k { done = d })
slot_advanced Idle k d e = absurd (let e' : None ≡ Some k = e in cc)
slot_advanced (Clear g) k d e = (let f : g ≡ k = (let e' : Some g ≡ Some k = e in cc) in ap (λ (z : JobSlot). Some (record z { done = d })) f)
slot_advanced (Move q g) k d e = (let f : g ≡ k = (let e' : Some g ≡ Some k = e in cc) in ap (λ (z : JobSlot). Some (record z { done = d })) f)

module _ (plan : Plan) where
  -- a slice does a quantum if more words than that are left
  slice_goes_on : (old new : Sliced) (k : JobSlot) → job_slot old.job ≡ Some k → k.done + plan.quantum < slot_words plan.paging k.class → IsSlice plan old new
      → new ≡ record old { job = advanced old.job (k.done + plan.quantum) }
  slice_goes_on old new k e more slice = go (rw e at slice)
    where
      all : done_after plan k ≡ k.done + plan.quantum
      all = omega arith

      go : GoesOn plan old k new ⊎ IsDone plan old k new → new ≡ record old { job = advanced old.job (k.done + plan.quantum) }
      go (inl on) = on.whole ∙ ap (λ d. record old { job = advanced old.job d }) all
      go (inr done) = absurd (let a = done.all in omega arith)

  -- a slice ends the job if at most a quantum is left
  slice_ends : (old new : Sliced) (k : JobSlot) → job_slot old.job ≡ Some k → slot_words plan.paging k.class ≤ k.done + plan.quantum → IsSlice plan old new
      → EndsJob plan.paging old.held k new
  slice_ends old new k e few slice = go (rw e at slice)
    where
      go : GoesOn plan old k new ⊎ IsDone plan old k new → EndsJob plan.paging old.held k new
      go (inl on) = absurd (let l = on.left in omega arith)
      go (inr done) = done.ends

  ends_over : (m : Held) (k : JobSlot) (new : Sliced) → EndsJob plan.paging m k new → IsOver k new.job
  ends_over m k new (inl (_, whole)) = inl (rw whole refl)
  ends_over m k new (inr chains) = inr (
    chains.object,
    fresh_slot chains.carries.object.place k.class,
    (let w = chains.carries.whole in rw w refl),
    refl,
    refl,
  )

  -- n slices in a row, before the job's end, do n quanta
  slices_go_on : (n : ℕ) (old new : Sliced) (k : JobSlot) → job_slot old.job ≡ Some k → k.done + n * plan.quantum < slot_words plan.paging k.class
      → AreSlices plan n old new → new ≡ record old { job = advanced old.job (k.done + n * plan.quantum) }
  slices_go_on zero old new k e more same =
      let z : k.done + 0 * plan.quantum ≡ k.done = omega arith in
      same ∙ ap (λ j. record old { job = j }) (sym (ap (advanced old.job) z ∙ advanced_not old.job k e))
  slices_go_on (suc n) old new k e more (mid, slice, rest) =
      let m : suc n * plan.quantum ≡ n * plan.quantum + plan.quantum = omega arith in
      let first = slice_goes_on old mid k e (omega arith) slice in
      let e' : job_slot mid.job ≡ Some (record k { done = k.done + plan.quantum }) = ap (λ (s : Sliced). job_slot s.job) first
      ∙ slot_advanced old.job k (k.done + plan.quantum) e in
      let then = slices_go_on n mid new (record k { done = k.done + plan.quantum }) e' (omega arith) rest in
      let d : k.done + plan.quantum + n * plan.quantum ≡ k.done + suc n * plan.quantum = omega arith in
      then ∙ ap (λ (s : Sliced). record s { job = advanced s.job (k.done + plan.quantum + n * plan.quantum) }) first
      ∙ ap (λ j. record old { job = j }) (advanced_twice old.job (k.done + plan.quantum) (k.done + plan.quantum + n * plan.quantum) ∙ ap (advanced old.job) d)

  pub slices_split : (a b : ℕ) (old new : Sliced) → AreSlices plan (a + b) old new → (mid : Sliced) × AreSlices plan a old mid × AreSlices plan b mid new
  slices_split zero b old new s = (old, refl, (let e : 0 + b ≡ b = omega arith in subst (λ n. AreSlices plan n old new) e s))
  slices_split (suc a) b old new s =
      let e : suc a + b ≡ suc (a + b) = omega arith in
      let s' = subst (λ n. AreSlices plan n old new) e s in
      let rest = slices_split a b s'.0 new s'.2 in
      (rest.0, (s'.0, s'.1, rest.1), rest.2)

  -- a job's slices end it
  slices_end : (old new : Sliced) (k : JobSlot) → 1 ≤ plan.quantum → job_slot old.job ≡ Some k → k.done < slot_words plan.paging k.class
      → AreSlices plan (ceil_div (slot_words plan.paging k.class - k.done) plan.quantum) old new → EndsJob plan.paging old.held k new
  slices_end old new k one e under s =
      let c = ceil_bounds (slot_words plan.paging k.class - k.done) plan.quantum (omega arith) one in
      let low = c.2 in
      let high = c.3 in
      let n : ceil_div (slot_words plan.paging k.class - k.done) plan.quantum ≡ c.0 + 1 = c.1 ∙ omega arith in
      let parts = slices_split c.0 1 old new (subst (λ n. AreSlices plan n old new) n s) in
      let before = slices_go_on c.0 old parts.0 k e (omega arith) parts.1 in
      let e' : job_slot (parts.0).job ≡ Some (record k { done = k.done + c.0 * plan.quantum }) = ap (λ (s : Sliced). job_slot s.job) before
      ∙ slot_advanced old.job k (k.done + c.0 * plan.quantum) e in
      let held : (parts.0).held ≡ old.held = ap (λ (s : Sliced). s.held) before in
      let last = parts.2 in
      let end = slice_ends parts.0 last.0 (record k { done = k.done + c.0 * plan.quantum }) e' (omega arith) last.1 in
      let new_is : new ≡ last.0 = last.2 in
      let end' : EndsJob plan.paging old.held (record k { done = k.done + c.0 * plan.quantum }) new = rw new_is (rw held at end) in
      same_ends old.held k (k.done + c.0 * plan.quantum) new end'
    where
      same_ends : (m : Held) (k : JobSlot) (d : ℕ) (new : Sliced) → EndsJob plan.paging m (record k { done = d }) new → EndsJob plan.paging m k new
      same_ends m k d new (inl x) = inl x
      same_ends m k d new (inr c) = inr (record { two = c.two; object = c.object; beside = c.beside; carries = c.carries })

  -- without a job slices do nothing
  pub slices_idle : (n : ℕ) (old new : Sliced) → old.job ≡ Idle → AreSlices plan n old new → new.job ≡ Idle
  slices_idle zero old new idle same = rw same idle
  slices_idle (suc n) old new idle (mid, slice, rest) =
      let same : mid ≡ old = subst (λ j. SliceOf plan old (job_slot j) mid) idle slice in
      slices_idle n mid new (rw same idle) rest

  -- a job that follows another one is followed by none: once it begins, its class has no second partly full page
  module _ (ok : IsPlan plan) where
    pub followed_once : (m : Held) (a e q : ℕ) (new : Sliced) → IsBeside plan.paging m a e q → BeginsMove m q a e new → IsKept plan new
        → not_full_pages plan.paging new.held e ≢ 2
    followed_once m a e q new beside carries kept two =
        let y : Placed = carries.object in
        let w = carries.whole in
        let found : Some beside.object ≡ Some carries.object = sym beside.found ∙ carries.found in
        let same : beside.object ≡ carries.object = cc in
        let class : class_at plan.paging carries.object ≡ e = rw same at beside.class in
        let apart : page_of plan.paging carries.object.place ≢ page_of plan.paging a = rw same at beside.page in
        let less : objects_on plan.paging m e (page_of plan.paging carries.object.place) < slots_of plan.paging e = rw same at beside.not_full in
        let z : Placed = record { place = a; bytes = carries.object.bytes } in
        let away : objects_on plan.paging (insert (remove m q) q (record { place = a; bytes = carries.object.bytes })) e
        (page_of plan.paging carries.object.place) ≡ objects_on plan.paging (remove m q) e (page_of plan.paging carries.object.place) =
        objects_on-elsewhere plan.paging (remove m q) q (record { place = a; bytes = carries.object.bytes })
        (get_removed m q) e
        (page_of plan.paging carries.object.place) (inl (λ e. apart (sym e))) in
        let left = objects_on-left plan.paging m q carries.object carries.found e class in
        let again = insert_again m q (record { place = a; bytes = carries.object.bytes }) in
        let away' : objects_on plan.paging (insert m q (record { place = a; bytes = carries.object.bytes })) e
        (page_of plan.paging carries.object.place) ≡ objects_on plan.paging (remove m q) e (page_of plan.paging carries.object.place) =
        rw again at away in
        let kept' : IsKept plan (record {
          held = insert m q (record { place = a; bytes = carries.object.bytes });
          job = Move q (fresh_slot carries.object.place e);
        }) = subst (IsKept plan) w kept in
        let two' : not_full_pages plan.paging (insert m q (record { place = a; bytes = carries.object.bytes })) e ≡ 2 =
        sym (ap (λ (s : Sliced). not_full_pages plan.paging s.held e) w) ∙ two in
        let l = two_is_last plan ok (insert m q (record { place = a; bytes = carries.object.bytes }))
        (fresh_slot carries.object.place e)
        (no_placeholder plan (insert m q (record { place = a; bytes = carries.object.bytes })) kept'.numbers) kept'.job.0.class kept'.sound
        two' in
        let filled = l.filled in
        omega arith

    kept_slices : (n : ℕ) (old new : Sliced) → IsKept plan old → AreSlices plan n old new → IsKept plan new
    kept_slices zero old new kept same = rw same kept
    kept_slices (suc n) old new kept (mid, slice, rest) = kept_slices n mid new (kept_slice plan ok old mid kept slice) rest

    -- slices alone end every job, with the one that may follow
    pub slices_end_all : (old new : Sliced) (k : JobSlot) → IsKept plan old → job_slot old.job ≡ Some k
        → AreSlices plan (ceil_div (slot_words plan.paging k.class - k.done) plan.quantum + ceil_div (slot_words plan.paging k.class) plan.quantum) old new
        → new.job ≡ Idle
    slices_end_all old new k kept e s =
        let under = job_class plan.paging old.held old.job kept.job k e in
        let parts = slices_split (ceil_div (slot_words plan.paging k.class - k.done) plan.quantum)
        (ceil_div (slot_words plan.paging k.class) plan.quantum) old new s in
        let end = slices_end old parts.0 k ok.quantum e under.under_way parts.1 in
        let kept' = kept_slices (ceil_div (slot_words plan.paging k.class - k.done) plan.quantum) old parts.0 kept parts.1 in
        then parts.0 end kept' parts.2
      where
        then : (mid : Sliced) → EndsJob plan.paging old.held k mid → IsKept plan mid
            → AreSlices plan (ceil_div (slot_words plan.paging k.class) plan.quantum) mid new
            → new.job ≡ Idle
        then mid (inl (_, whole)) kept' rest = slices_idle (ceil_div (slot_words plan.paging k.class) plan.quantum) mid new (rw whole refl) rest
        then mid (inr c) kept' rest =
            let once = followed_once old.held k.address k.class c.object mid c.beside c.carries kept' in
            let g : JobSlot = fresh_slot c.carries.object.place k.class in
            let e' : job_slot mid.job ≡ Some (fresh_slot c.carries.object.place k.class) = ap (λ (s : Sliced). job_slot s.job) c.carries.whole in
            let under = job_class plan.paging old.held old.job kept.job k e in
            let more = under.under_way in
            let z : slot_words plan.paging k.class - 0 ≡ slot_words plan.paging k.class = omega arith in
            let rest' : AreSlices plan (ceil_div (slot_words plan.paging k.class - 0) plan.quantum) mid new = rw z rest in
            let end = slices_end mid new (fresh_slot c.carries.object.place k.class) ok.quantum e' (omega arith) rest' in
            done (fresh_slot c.carries.object.place k.class) end once
          where
            done : (g : JobSlot) → EndsJob plan.paging mid.held g new → not_full_pages plan.paging mid.held g.class ≢ 2 → new.job ≡ Idle
            done g (inl (_, whole)) once = rw whole refl
            done g (inr c) once = absurd (once c.two)

-- a call that isn't a slice doesn't change a pending job
stays_pending : (plan : Plan) (old : HeapWithWords) (event : Event) (new : HeapWithWords) → Happens plan old event new → old.state.job ≢ Idle
    → ((is_step event ≡ 0) × (new.state.job ≡ old.state.job)) ⊎ ((is_step event ≡ 1) × IsSlice plan old.state new.state)
stays_pending plan old (Malloc n (Ok h)) new is pending = inl (refl, (let w = is.gives.placed in rw w refl))
stays_pending plan old (Malloc n (Err e)) new is pending = inl (refl, (let same = is.1 in rw same refl))
stays_pending plan old (Free h None) new is pending = absurd (pending is.removes.idle)
stays_pending plan old (Free h (Some e)) new is pending = inl (refl, (let same = is.1 in rw same refl))
stays_pending plan old Step new is pending = inr (refl, is.slice)
stays_pending plan old (Write part bytes None) new is pending = inl (refl, (let w = is.state in rw w refl))
stays_pending plan old (Write part bytes (Some e)) new is pending = inl (refl, (let same = is.1 in rw same refl))
stays_pending plan old (Read part count (Ok out)) new is pending = inl (refl, (let same = is.1 in rw same refl))
stays_pending plan old (Read part count (Err e)) new is pending = inl (refl, (let same = is.1 in rw same refl))

not_idle : (j : Job) (k : JobSlot) → job_slot j ≡ Some k → j ≢ Idle
not_idle j k e idle = (let e' : None ≡ Some k = sym (ap job_slot idle) ∙ e in cc)

-- a list of calls before the end of the pending job does a quantum for each slice in it
pub runs_go_on : (plan : Plan) (turns : List TaskCall) (old new : HeapWithWords) (k : JobSlot) → job_slot old.state.job ≡ Some k
    → k.done + steps_in turns * plan.quantum < slot_words plan.paging k.class → Runs plan old turns new
    → new.state.job ≡ advanced old.state.job (k.done + steps_in turns * plan.quantum)
runs_go_on plan [] old new k e more same =
    let z : k.done + 0 * plan.quantum ≡ k.done = omega arith in
    rw same (sym (ap (advanced old.state.job) z ∙ advanced_not old.state.job k e))
runs_go_on plan (turn ∷ rest) old new k e more (mid, is, then) = elim (stays_pending plan old turn.event mid is (not_idle old.state.job k e)) [
  | inl (none, same) ↦ (
      let n : steps_in (turn ∷ rest) ≡ steps_in rest = omega arith in
      let more' : k.done + steps_in rest * plan.quantum < slot_words plan.paging k.class = rw n at more in
      let e' : job_slot mid.state.job ≡ Some k = ap job_slot same ∙ e in
      let go = runs_go_on plan rest mid new k e' more' then in
      rw n (go ∙ ap (λ j. advanced j (k.done + steps_in rest * plan.quantum)) same))
  | inr (one, slice) ↦ (
      let n : steps_in (turn ∷ rest) ≡ suc (steps_in rest) = omega arith in
      let m : suc (steps_in rest) * plan.quantum ≡ steps_in rest * plan.quantum + plan.quantum = omega arith in
      let more' : k.done + suc (steps_in rest) * plan.quantum < slot_words plan.paging k.class = rw n at more in
      let first = slice_goes_on plan old.state mid.state k e (omega arith) slice in
      let job : mid.state.job ≡ advanced old.state.job (k.done + plan.quantum) = ap (λ (s : Sliced). s.job) first in
      let e' : job_slot mid.state.job ≡ Some (record k { done = k.done + plan.quantum }) = ap job_slot job
      ∙ slot_advanced old.state.job k (k.done + plan.quantum) e in
      let go = runs_go_on plan rest mid new (record k { done = k.done + plan.quantum }) e' (omega arith) then in
      let d : k.done + plan.quantum + steps_in rest * plan.quantum ≡ k.done + suc (steps_in rest) * plan.quantum = omega arith in
      rw n (go ∙ ap (λ j. advanced j (k.done + plan.quantum + steps_in rest * plan.quantum)) job
      ∙ advanced_twice old.state.job (k.done + plan.quantum) (k.done + plan.quantum + steps_in rest * plan.quantum) ∙ ap (advanced old.state.job) d))
]

-- the slice that does the last words of a job ends it, whatever calls come before
pub runs_end : (plan : Plan) → IsPlan plan → (turns : List TaskCall) (old mid new : HeapWithWords) (k : JobSlot) → job_slot old.state.job ≡ Some k
    → k.done < slot_words plan.paging k.class → Runs plan old turns mid
    → steps_in turns + 1 ≡ ceil_div (slot_words plan.paging k.class - k.done) plan.quantum → Happens plan mid Step new → IsOver k new.state.job
runs_end plan ok turns old mid new k e under runs count step =
    let c = ceil_bounds (slot_words plan.paging k.class - k.done) plan.quantum (omega arith) ok.quantum in
    let n : c.0 ≡ steps_in turns = (let f = c.1 in omega arith) in
    let low : steps_in turns * plan.quantum < slot_words plan.paging k.class - k.done = rw n at c.2 in
    let high : slot_words plan.paging k.class - k.done ≤ steps_in turns * plan.quantum + plan.quantum = rw n at c.3 in
    let before = runs_go_on plan turns old mid k e (omega arith) runs in
    let e' : job_slot mid.state.job ≡ Some (record k { done = k.done + steps_in turns * plan.quantum }) = ap job_slot before
    ∙ slot_advanced old.state.job k (k.done + steps_in turns * plan.quantum) e in
    let end = slice_ends plan mid.state new.state (record k { done = k.done + steps_in turns * plan.quantum }) e' (omega arith) step.slice in
    over (k.done + steps_in turns * plan.quantum) (ends_over plan mid.state.held (record k { done = k.done + steps_in turns * plan.quantum }) new.state end)
  where
    over : (d : ℕ) → IsOver (record k { done = d }) new.state.job → IsOver k new.state.job
    over d o = o
