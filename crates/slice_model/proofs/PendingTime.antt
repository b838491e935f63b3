-- For `each_malloc_between_prolongs_a_job_once`: after a free, until no job is pending, each malloc of the freed object's class adds at most the slices of one
-- whole slot; no other call but a successful free adds any. A free's job begins with no word done, while its class has no second partly full page.
use Rattle.std.proofs.Common.{◌≡◌, ◌≢◌, ℕ, ◌+◌, ◌-◌, ◌*◌, ◌<◌, ◌≤◌, List, [], ◌∷◌, Option, Some, None, length, replicate, arith, sym, ◌∙◌, ap, refl, subst, inl, inr}
use Rattle.std.specs.Prelude.{◌⊎◌, Ok, Err, nat_eq, if◌then◌else◌}
use Rattle.std.proofs.lemmas.Bool.{cases_eq}
use Rattle.std.proofs.lemmas.List.{length-replicate}
use Rattle.std.specs.FinMap.{get, insert, remove}
use Rattle.cf_base.proofs.Maps.{get_remove_other, get_removed}
use Rattle.cf_base.proofs.Sums.{insert_again}
use Rattle.cf_base.proofs.Tests.{eq_no, eq_yes}
use Rattle.page_model.specs.Arrangement.{class_at, not_full_pages, objects_on}
use Rattle.page_model.specs.Bytes.{written}
use Rattle.page_model.specs.Counts.{ceil_div}
use Rattle.page_model.specs.Held.{Held, Placed}
use Rattle.page_model.specs.Paging.{class_for, page_of, slot_words, slots_of}
use Rattle.page_model.specs.Steps.{Moves, zeros_at}
use Rattle.page_model.proofs.CallerLemmas.{length-written, mover_is_other, not_full-same, objects_on-away, objects_on-elsewhere, objects_on-exchanged}
use Rattle.slice_model.specs.State.{Plan, IsPlan, JobSlot, Sliced, IsKept, job_slot, placeholder, Idle, Clear}
use Rattle.slice_model.specs.Steps.{AddsSlicedObject, GoesOn, IsBeside, IsDone, IsSlice, SliceOf, LeavesJob, done_after, fresh_slot}
use Rattle.slice_model.specs.Runs.{Event, Happens, IsConsistent, Runs, TaskCall, HeapWithWords, frees_in, is_done_free, is_malloc_of, is_step, mallocs_in, steps_in}
use Rattle.slice_model.specs.Runs.{Malloc, Free, Step, Write, Read}
use Rattle.slice_model.proofs.JobSlices.{ceil_bounds, followed_once, slot_advanced}
use Rattle.slice_model.proofs.KeptSteps.{kept_begun, kept_slice, other_than, two_is_must}
use Rattle.slice_model.proofs.Occupied.{job_class, no_placeholder, placeholder_class}
use Rattle.slice_model.proofs.OneMap.{call_on_map, run_on_map}
use Rattle.slice_model.proofs.SparePage.{ceil_more}

module _ (plan : Plan) (ok : IsPlan plan) where
  -- the number of slices of a whole slot of class c
  abbrev whole : ℕ → ℕ
  whole c = ceil_div (slot_words plan.paging c) plan.quantum

  -- the number of slices of the job that follows: those of a whole slot if the class has a second partly full page, else 0
  abbrev next : Held → ℕ → ℕ
  next m c = if nat_eq (not_full_pages plan.paging m c) 2 then whole c else 0

  next_two : (m : Held) (c : ℕ) → not_full_pages plan.paging m c ≡ 2 → next m c ≡ whole c
  next_two m c two = (let e = eq_yes (not_full_pages plan.paging m c) 2 two in rw e refl)

  next_none : (m : Held) (c : ℕ) → not_full_pages plan.paging m c ≢ 2 → next m c ≡ 0
  next_none m c ne = (let e = eq_no (not_full_pages plan.paging m c) 2 ne in rw e refl)

  next_most : (m : Held) (c : ℕ) → next m c ≤ whole c
  next_most m c = elim (cases_eq (not_full_pages plan.paging m c) 2) [
    | inl two ↦ (let e = next_two m c two in omega arith)
    | inr ne ↦ (let e = next_none m c ne in omega arith)
  ]

  next_same : (m n : Held) (c : ℕ) → ((g : ℕ) → objects_on plan.paging n c g ≡ objects_on plan.paging m c g) → next n c ≡ next m c
  next_same m n c same = ap (λ k. if nat_eq k 2 then whole c else 0) (not_full-same plan.paging m n c same)

  -- In state s a job of class c is pending. The slices that it needs, those of the job that follows it, and the `done` slices so far are at most `most`.
  record IsWithin (c done most : ℕ) (s : Sliced) : Type 0 where
    k : JobSlot
    slot : job_slot s.job ≡ Some k
    class : k.class ≡ c
    bound : ceil_div (slot_words plan.paging c - k.done) plan.quantum + next s.held c + done ≤ most

  abbrev InTime : ℕ → ℕ → ℕ → Sliced → Type 0
  InTime c done most s = (s.job ≡ Idle) ⊎ IsWithin c done most s

  -- a slice counts as one more that is done; `most` stays
  slice_within : (c done most : ℕ) (old new : Sliced) → IsKept plan old → IsSlice plan old new → InTime c done most old → InTime c (done + 1) most new
  slice_within c done most old new kept slice (inl idle) =
      let same : new ≡ old = subst (λ j. SliceOf plan old (job_slot j) new) idle slice in
      inl (ap (λ (s : Sliced). s.job) same ∙ idle)
  slice_within c done most old new kept slice (inr b) = go b.k b.slot b.class b.bound (subst (λ o. SliceOf plan old o new) b.slot slice)
    where
      go : (k : JobSlot) → job_slot old.job ≡ Some k → k.class ≡ c
          → ceil_div (slot_words plan.paging c - k.done) plan.quantum + next old.held c + done ≤ most
          → GoesOn plan old k new ⊎ IsDone plan old k new → InTime c (done + 1) most new
      go k slot class bound (inl on) =
          let left = on.left in
          let whole_is = on.whole in
          let size : slot_words plan.paging k.class ≡ slot_words plan.paging c = ap (slot_words plan.paging) class in
          let d : done_after plan k ≡ k.done + plan.quantum = omega arith in
          let rest : slot_words plan.paging c - k.done ≡ slot_words plan.paging c - done_after plan k + plan.quantum = omega arith in
          let fewer : ceil_div (slot_words plan.paging c - k.done) plan.quantum
          ≡ ceil_div (slot_words plan.paging c - done_after plan k) plan.quantum + 1 =
          ap (λ n. ceil_div n plan.quantum) rest ∙ ceil_more (slot_words plan.paging c - done_after plan k) plan.quantum ok.quantum in
          let same : next new.held c ≡ next old.held c = ap (λ (s : Sliced). next s.held c) whole_is in
          inr (record {
            k = record k { done = done_after plan k };
            slot = ap (λ (s : Sliced). job_slot s.job) whole_is ∙ slot_advanced old.job k (done_after plan k) slot;
            class = class;
            bound = omega arith;
          })
      go k slot class bound (inr all) = elim all.ends [
        | inl (_, whole_is) ↦ inl (ap (λ (s : Sliced). s.job) whole_is)
        | inr chains ↦ (
            let under = (job_class plan.paging old.held old.job kept.job k slot).under_way in
            let size : slot_words plan.paging k.class ≡ slot_words plan.paging c = ap (slot_words plan.paging) class in
            let some = ceil_bounds (slot_words plan.paging c - k.done) plan.quantum (omega arith) ok.quantum in
            let some' = some.1 in
            let two : not_full_pages plan.paging old.held c ≡ 2 = rw class at chains.two in
            let was = next_two old.held c two in
            let kept' = kept_slice plan ok old new kept slice in
            let once : not_full_pages plan.paging new.held c ≢ 2 = subst (λ e. not_full_pages plan.paging new.held e ≢ 2) class
            (followed_once plan ok old.held k.address k.class chains.object new chains.beside chains.carries kept') in
            let is = next_none new.held c once in
            let from_start : slot_words plan.paging c - 0 ≡ slot_words plan.paging c = omega arith in
            let again : ceil_div (slot_words plan.paging c - 0) plan.quantum ≡ whole c = ap (λ n. ceil_div n plan.quantum) from_start in
            inr (record {
              k = fresh_slot chains.carries.object.place k.class;
              slot = ap (λ (s : Sliced). job_slot s.job) chains.carries.whole;
              class = class;
              bound = omega arith;
            }))
      ]

  -- if the job is unchanged, and the job that follows needs at most `more` slices more, `most` rises by `more`
  same_job : (c done most more : ℕ) (old new : Sliced) → new.job ≡ old.job → next new.held c ≤ next old.held c + more → InTime c done most old
      → InTime c done (most + more) new
  same_job c done most more old new same le (inl idle) = inl (same ∙ idle)
  same_job c done most more old new same le (inr b) =
      let bound = b.bound in
      inr (record { k = b.k; slot = ap job_slot same ∙ b.slot; class = b.class; bound = omega arith })

  -- a malloc of class c raises `most` by the slices of a whole slot; one of another class doesn't
  malloc_within : (c done most bytes q : ℕ) (old new : Sliced) → AddsSlicedObject plan old (record { number = q; length = bytes }) new → InTime c done most old
      → InTime c done (most + (if nat_eq (class_for plan.paging bytes) c then 1 else 0) * whole c) new
  malloc_within c done most bytes q old new g time = elim (cases_eq (class_for plan.paging bytes) c) [
    | inl is ↦ (
        let one = eq_yes (class_for plan.paging bytes) c is in
        let n = next_most new.held c in
        let m : 1 * whole c ≡ whole c = omega arith in
        rw (one, m) (same_job c done most (whole c) old new job (omega arith) time))
    | inr ne ↦ (
        let none = eq_no (class_for plan.paging bytes) c ne in
        let size : class_at plan.paging (zeros_at g.place bytes) ≡ class_for plan.paging bytes =
        ap (class_for plan.paging) (length-replicate {A = ℕ} bytes 0) in
        let away : class_at plan.paging (zeros_at g.place bytes) ≢ c = λ e. ne (sym size ∙ e) in
        let same : next (insert old.held q (zeros_at g.place bytes)) c ≡ next old.held c =
        next_same old.held (insert old.held q (zeros_at g.place bytes)) c
        (λ page. objects_on-elsewhere plan.paging old.held q (zeros_at g.place bytes) g.unused c page (inr away)) in
        let now : next new.held c ≡ next old.held c = ap (λ (s : Sliced). next s.held c) g.placed ∙ same in
        let m : 0 * whole c ≡ 0 = omega arith in
        rw (none, m) (same_job c done most 0 old new job (omega arith) time))
  ]
    where
      job : new.job ≡ old.job
      job = ap (λ (s : Sliced). s.job) g.placed

  -- a write doesn't raise `most`
  write_within : (c done most : ℕ) (old : Sliced) (h : ℕ) (x : Placed) (bytes : List ℕ) (new : Sliced) → get old.held h ≡ Some x → length bytes ≡ length x.bytes
      → new ≡ record old { held = insert old.held h (record { place = x.place; bytes = bytes }) } → InTime c done most old → InTime c done (most + 0) new
  write_within c done most old h x bytes new there len is time =
      let class : class_at plan.paging (record { place = x.place; bytes = bytes }) ≡ class_at plan.paging x = ap (class_for plan.paging) len in
      let counts = objects_on-exchanged plan.paging old.held h x there h bytes (get_removed old.held h) class in
      let again = insert_again old.held h (record { place = x.place; bytes = bytes }) in
      let same : next (insert (remove old.held h) h (record { place = x.place; bytes = bytes })) c ≡ next old.held c =
      next_same old.held (insert (remove old.held h) h (record { place = x.place; bytes = bytes })) c (λ page. counts c page) in
      let same' : next (insert old.held h (record { place = x.place; bytes = bytes })) c ≡ next old.held c = rw again at same in
      let now : next new.held c ≡ next old.held c = ap (λ (s : Sliced). next s.held c) is ∙ same' in
      same_job c done most 0 old new (ap (λ (s : Sliced). s.job) is) (omega arith) time

  -- a call that changes nothing doesn't raise `most`
  still_within : (c done most : ℕ) (old new : HeapWithWords) → new ≡ old → InTime c done most old.state → InTime c (done + 0) (most + 0 * whole c) new.state
  still_within c done most old new same time =
      let d : done + 0 ≡ done = omega arith in
      let m : most + 0 * whole c ≡ most = omega arith in
      rw (d, m) (subst (λ (w : HeapWithWords). InTime c done most w.state) (sym same) time)

  -- each call other than a successful free: a slice raises `done` by 1, a malloc of class c raises `most` by the slices of a whole slot
  call_within : (c done most : ℕ) (old : HeapWithWords) (event : Event) (new : HeapWithWords) → IsConsistent plan old → Happens plan old event new
      → is_done_free event ≡ 0 → InTime c done most old.state
      → InTime c (done + is_step event) (most + is_malloc_of plan c event * whole c) new.state
  call_within c done most old (Malloc bytes (Ok h)) new good is none time =
      let d : done + 0 ≡ done = omega arith in
      rw d (malloc_within c done most bytes h.0 old.state new.state is.gives time)
  call_within c done most old (Malloc bytes (Err e)) new good is none time = still_within c done most old new is.1 time
  call_within c done most old (Free h None) new good is none time = absurd (omega arith)
  call_within c done most old (Free h (Some e)) new good is none time = still_within c done most old new is.1 time
  call_within c done most old Step new good is none time =
      let m : most + 0 * whole c ≡ most = omega arith in
      rw m (slice_within c done most old.state new.state good.kept is.slice time)
  call_within c done most old (Write part bytes None) new good is none time =
      let d : done + 0 ≡ done = omega arith in
      let m : 0 * whole c ≡ 0 = omega arith in
      rw (d, m) (write_within c done most old.state part.number is.object (written is.object.bytes part.from bytes) new.state is.found
      (length-written is.object.bytes part.from bytes is.fits) is.state time)
  call_within c done most old (Write part bytes (Some e)) new good is none time = still_within c done most old new is.1 time
  call_within c done most old (Read part count (Ok out)) new good is none time = still_within c done most old new is.1 time
  call_within c done most old (Read part count (Err e)) new good is none time = still_within c done most old new is.1 time

  -- the same for a list of calls without a successful free
  run_within : (c done most : ℕ) (turns : List TaskCall) (old new : HeapWithWords) → IsConsistent plan old → Runs plan old turns new → frees_in turns ≡ 0
      → InTime c done most old.state → InTime c (done + steps_in turns) (most + mallocs_in plan c turns * whole c) new.state
  run_within c done most [] old new good same none time = still_within c done most old new same time
  run_within c done most (turn ∷ rest) old new good (mid, is, on) none time =
      let good' = (call_on_map plan ok old turn.event mid good is).1 in
      let first = call_within c done most old turn.event mid good is (omega arith) time in
      let more = run_within c (done + is_step turn.event) (most + is_malloc_of plan c turn.event * whole c) rest mid new good' on (omega arith) first in
      let d : done + is_step turn.event + steps_in rest ≡ done + (is_step turn.event + steps_in rest) = omega arith in
      let m : most + is_malloc_of plan c turn.event * whole c + mallocs_in plan c rest * whole c
      ≡ most + (is_malloc_of plan c turn.event + mallocs_in plan c rest) * whole c = omega arith in
      subst (λ n. InTime c n (most + (is_malloc_of plan c turn.event + mallocs_in plan c rest) * whole c) new.state) d
      (subst (λ n. InTime c (done + is_step turn.event + steps_in rest) n new.state) m more)

  -- a job with no word done yet, which no other job follows, needs the slices of a whole slot
  fresh_within : (c a : ℕ) (s : Sliced) → job_slot s.job ≡ Some (fresh_slot a c) → next s.held c ≡ 0 → IsWithin c 0 (whole c) s
  fresh_within c a s slot none =
      let from_start : slot_words plan.paging c - 0 ≡ slot_words plan.paging c = omega arith in
      let all : ceil_div (slot_words plan.paging c - 0) plan.quantum ≡ whole c = ap (λ n. ceil_div n plan.quantum) from_start in
      record { k = fresh_slot a c; slot = slot; class = refl; bound = omega arith }

  -- when a free begins a job, the class has no second partly full page
  pub begun_once : (m : Held) → IsKept plan (record { held = m; job = Idle }) → (h : ℕ) (x : Placed) → get m h ≡ Some x → (moved : Option ℕ)
      → Moves plan.paging m x moved → (begun : Sliced) → LeavesJob (remove m h) x.place (class_at plan.paging x) moved begun
      → not_full_pages plan.paging begun.held (class_at plan.paging x) ≢ 2
  begun_once m kept h x there None never begun is two =
      let lt = (kept.sound.slots h x there).class in
      let none = no_placeholder plan m kept.numbers in
      let ne = other_than m plan.proxies h x none there in
      let none' : get (remove m h) plan.proxies ≡ None = get_remove_other m h plan.proxies (λ e. ne (sym e)) ∙ none in
      let class = placeholder_class plan.paging ok.paging (fresh_slot x.place (class_at plan.paging x)) lt in
      let kept' : IsKept plan (record { held = remove m h; job = Clear (fresh_slot x.place (class_at plan.paging x)) }) =
      subst (IsKept plan) is (kept_begun plan ok m kept h x there None never begun is) in
      let counts = objects_on-exchanged plan.paging m h x there plan.proxies (replicate (8 * (slot_words plan.paging (class_at plan.paging x) - 1)) 0) none' class in
      let two' : not_full_pages plan.paging (remove m h) (class_at plan.paging x) ≡ 2 =
      sym (ap (λ (s : Sliced). not_full_pages plan.paging s.held (class_at plan.paging x)) is) ∙ two in
      let must = two_is_must plan ok (remove m h) (fresh_slot x.place (class_at plan.paging x)) none' lt kept'.sound two' in
      let full = must.full in
      let several = must.several in
      let many = must.many in
      let full' : objects_on plan.paging (insert (remove m h) plan.proxies (placeholder plan.paging (fresh_slot x.place (class_at plan.paging x))))
      (class_at plan.paging x) (page_of plan.paging x.place) ≡ slots_of plan.paging (class_at plan.paging x) = rw class at full in
      let several' : 1 < slots_of plan.paging (class_at plan.paging x) = rw class at several in
      never (record {
        full = sym (counts (class_at plan.paging x) (page_of plan.paging x.place)) ∙ full';
        several = several';
        many = sym (not_full-same plan.paging m (insert (remove m h) plan.proxies (placeholder plan.paging (fresh_slot x.place (class_at plan.paging x))))
            (class_at plan.paging x) (λ page. counts (class_at plan.paging x) page)) ∙ (rw class at many);
      })
  begun_once m kept h x there (Some q) (must, (y, there', may)) begun is two =
      let ne = mover_is_other plan.paging ok.paging m kept.sound h x there q y there' must may in
      let kept' = kept_begun plan ok m kept h x there (Some q) (must, (y, there', may)) begun is in
      let full = must.full in
      let not_full = may.not_full in
      let apart : page_of plan.paging y.place ≢ page_of plan.paging x.place = λ e. absurd (
      let not_full' : objects_on plan.paging m (class_at plan.paging x) (page_of plan.paging x.place) < slots_of plan.paging (class_at plan.paging x) =
      rw e at not_full in
      omega arith) in
      let away = objects_on-away plan.paging m h x there (class_at plan.paging x) (page_of plan.paging y.place) (inl (λ e. apart (sym e))) in
      let beside : IsBeside plan.paging (remove m h) x.place (class_at plan.paging x) q = record {
        object = y;
        found = get_remove_other m h q ne ∙ there';
        class = may.class;
        page = apart;
        not_full = omega arith;
      } in
      followed_once plan ok (remove m h) x.place (class_at plan.paging x) q begun beside is kept' two

  -- the job that a free begins is of the freed object's class, and nothing of it is done
  pub begun_fresh : (m : Held) (a c : ℕ) (moved : Option ℕ) (begun : Sliced) → LeavesJob m a c moved begun
      → (b : ℕ) × (job_slot begun.job ≡ Some (fresh_slot b c))
  begun_fresh m a c None begun is = (a, ap (λ (s : Sliced). job_slot s.job) is)
  begun_fresh m a c (Some q) begun is = (is.object.place, ap (λ (s : Sliced). job_slot s.job) is.whole)

  -- the job of a free, right after it begins, takes at most the slices of a whole slot; no other job follows
  begun_within : (m : Held) → IsKept plan (record { held = m; job = Idle }) → (h : ℕ) (x : Placed) → get m h ≡ Some x → (moved : Option ℕ)
      → Moves plan.paging m x moved → (begun : Sliced) → LeavesJob (remove m h) x.place (class_at plan.paging x) moved begun
      → InTime (class_at plan.paging x) 0 (whole (class_at plan.paging x)) begun
  begun_within m kept h x there moved moves begun is =
      let fresh = begun_fresh (remove m h) x.place (class_at plan.paging x) moved begun is in
      inr (fresh_within (class_at plan.paging x) fresh.0 begun fresh.1
      (next_none begun.held (class_at plan.paging x) (begun_once m kept h x there moved moves begun is)))

  -- the law: the first slice, which the free does, counts as one of the slices
  pub freed_idle : (old freed new : HeapWithWords) (h : ℕ) (x : Placed) (turns : List TaskCall) → IsConsistent plan old → get old.state.held h ≡ Some x
      → Happens plan old (Free h None) freed → Runs plan freed turns new → frees_in turns ≡ 0
      → (1 + mallocs_in plan (class_at plan.paging x) turns) * ceil_div (slot_words plan.paging (class_at plan.paging x)) plan.quantum ≤ 1 + steps_in turns
      → new.state.job ≡ Idle
  freed_idle old freed new h x turns good there is runs none enough =
      let r = is.removes in
      let e : Some r.freed ≡ Some x = sym r.found ∙ there in
      let same : r.freed ≡ x = cc in
      let kept : IsKept plan (record { held = old.state.held; job = Idle }) =
      subst (λ j. IsKept plan (record { held = old.state.held; job = j })) r.idle good.kept in
      let kept' = kept_begun plan ok old.state.held kept h r.freed r.found r.moved r.moves r.begun r.begins in
      let first = begun_within old.state.held kept h r.freed r.found r.moved r.moves r.begun r.begins in
      let sliced : InTime (class_at plan.paging r.freed) 1 (whole (class_at plan.paging r.freed)) freed.state =
      slice_within (class_at plan.paging r.freed) 0 (whole (class_at plan.paging r.freed)) r.begun freed.state kept' r.slice first in
      let at_x : InTime (class_at plan.paging x) 1 (whole (class_at plan.paging x)) freed.state =
      subst (λ (z : Placed). InTime (class_at plan.paging z) 1 (whole (class_at plan.paging z)) freed.state) same sliced in
      let good' = (call_on_map plan ok old (Free h None) freed good is).1 in
      let last = run_within (class_at plan.paging x) 1 (whole (class_at plan.paging x)) turns freed new good' runs none at_x in
      let end = (run_on_map plan ok turns freed new good' runs).1 in
      elim last [
        | inl idle ↦ idle
        | inr b ↦ absurd (
            let under = (job_class plan.paging new.state.held new.state.job end.kept.job b.k b.slot).under_way in
            let size : slot_words plan.paging b.k.class ≡ slot_words plan.paging (class_at plan.paging x) = ap (slot_words plan.paging) b.class in
            let some = ceil_bounds (slot_words plan.paging (class_at plan.paging x) - b.k.done) plan.quantum (omega arith) ok.quantum in
            let some' = some.1 in
            let bound = b.bound in
            omega arith)
      ]
