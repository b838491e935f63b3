-- For `the_sliced_headline`: the heap that a run shows, and that its replies meet the claim. For `Ending` too: the cause of a refusal, by four tests
-- (`refusal_by`).
use Rattle.std.proofs.Common.{◌≡◌, ◌≢◌, ℕ, false, cond, ◌+◌, ◌*◌, ◌<◌, ◌≤◌, Bool, List, Option, Some, None, length, replicate, arith, sym, ◌∙◌, ap, refl, subst, inl, inr, [], ◌∷◌}
use Rattle.std.specs.Prelude.{Result, Ok, Err, codes, nat_eq, nat_le, nat_lt, option_map, slice_get, slice_index, ⊤}
use Rattle.std.specs.Option.{MatchOption}
use Rattle.std.proofs.lemmas.Bool.{cases_lt}
use Rattle.std.proofs.lemmas.Option.{slice_get-get_or, slice_get_past}
use Rattle.run_model.specs.Terms.{AccessFault, asks, at_bound_one, bad, Command, empty, get, Handle, Held, insert, Item, len, need, Objects, objects, page_of, Paging, Placed, Profile, remove, Reply, said, slots_of, starts, with_number, written}
use Rattle.cf_base.proofs.MapValues.{get-map_values}
use Rattle.cf_base.proofs.Maps.{get_removed}
use Rattle.cf_base.proofs.Renaming.{CountAlike}
use Rattle.cf_base.proofs.Sums.{insert_again}
use Rattle.cf_base.proofs.Tests.{eq_no, eq_yes, lt_no, lt_yes}
use Rattle.page_model.specs.Arrangement.{live, objects_on, pages_for, pages_needed_with}
use Rattle.page_model.specs.Paging.{class_for}
use Rattle.page_model.proofs.CallerLemmas.{class_fits, lacks_room_at_one, len-objects, length-written, objects_on-exchanged}
use Rattle.run_model.specs.Replies.{peek_text}
use Rattle.slice_model.specs.declared.refusals.SliceFault.{SliceFault}
use Rattle.slice_model.specs.declared.refusals.SliceRefusal.{SliceRefusal}
use Rattle.slice_model.specs.declared.job_slot.JobSlot.{JobSlot}
use Rattle.slice_model.specs.Runs.{Event, Free, Malloc, Step, Write}
use Rattle.slice_model.specs.State.{Clear, Idle, IsKept, Job, Move, Sliced, job_slot, left_of, with_slot}
use Rattle.slice_model.specs.Steps.{AddsSlicedObject, IsSlicedRefusedBy}
use Rattle.slice_model.proofs.CallerLemmas.{given_or_refused, kept_begun, lacking_is_no_place, no_place_is_lacking, objects_sliced}
use Rattle.sliced_heap.specs.Access.{access_fault}
use Rattle.sliced_heap.specs.Shown.{SlicedState, plan_in, working_in}
use Rattle.script_laws.specs.ObjectRun.{WritesId}
use Rattle.slice_session.specs.SliceRun.{DoesEvent, IsGoingSliced, SliceRun, SliceStep, StepsSliced, slice_free_text, slice_malloc_text, sliced_calls}
use Rattle.run_model.specs.Steps.{Stays}
use Rattle.slice_session.proofs.RunInvariant.{sliced_keeps, begins_going, play_seen}
use Rattle.run_model.specs.ById.{objects_by_id}
use Rattle.script_laws.specs.IdBytes.{read_shown}
use Rattle.script_laws.specs.RepliesById.{ok_or, put_unless}
use Rattle.script_laws.proofs.CallerLemmas.{bytes_by_id, free_by_id, malloc_by_id, refused, taken_unless, write_by_id, live_alike, needed_with_alike, still_going}
use Rattle.run_model.proofs.CallerLemmas.{by_id_counts, none_by_id, run_through}
use Rattle.slice_session.specs.ShownSlices.{ShownJob, ShownSlices, after_slice, job_takes, needed_beside, noted, words_left, slices_opened}
use Rattle.slice_session.specs.SliceHeadline.{AnswersSliced, after, after_free, after_malloc, slice_line, slice_malloc_line, slice_fault, slice_refusal, with_objects, MeetsSliced, OpensSliced}
use Rattle.slice_session.proofs.Slicing.{live_all, AreCounted, free_noted, heap_with, job_of, job_shown, left_shown, malloc_noted, plan_by, slice_shown, state_shown}
use Rattle.run_model.specs.Plays.{IsAt, PlayRun}
use Rattle.script_loop.specs.Semantics.{RunBy}
use Rattle.slice_session.specs.Playing.{BeginsSliced, BeginsSlices, RunsSliced, SlicePlay, first_heap, run_of_play, slices}
use Rattle.script_reader.specs.declared.command.Command.TheVariants as command
use Rattle.slice_model.specs.declared.refusals.SliceFault.TheVariants as fault
use Rattle.slice_model.specs.declared.refusals.SliceRefusal.TheVariants as refusal

-- For `the_sliced_headline`: in a run, each command's reply, and the heap that lines and replies show after it, are those that the claim allows (`AnswersSliced`).

abbrev pub by_id : SliceRun → Objects
by_id s = objects_by_id s.ids (objects s.heap.held)

-- the heap that a run shows
abbrev pub shown : SliceRun → ShownSlices
shown s = state_shown s.heap.profile s.heap.quantum (by_id s) (working_in s.heap).state

-- the refusal by the results of the four tests: the first that is true
abbrev pub refusal_by : (size proxy space busy : Bool) → Option SliceRefusal
refusal_by size proxy space busy =
    cond size (Some refusal.Size) (cond proxy (Some refusal.Proxy) (cond space (Some refusal.Space) (cond busy (Some refusal.Busy) None)))

module _ (s : SliceRun) (going : IsGoingSliced s) where
  abbrev p : Paging
  p = (plan_in s.heap).paging

  abbrev m : Held
  m = s.heap.held

  abbrev state : Sliced
  state = (working_in s.heap).state

  counts : CountAlike (objects s.heap.held) (by_id s)
  counts = by_id_counts s.ids (objects s.heap.held) going.tied

  pub counted : AreCounted s.heap.profile s.heap.quantum going.ready.rules.plan (by_id s) s.heap.held
  counted c = live_alike p (objects m) (by_id s) counts c

  len_is : len (by_id s) ≡ len m
  len_is = counts.count ∙ len-objects m

  -- the taken slots, with one more for an object, need the pages that the objects need with the slot of the job
  beside_is : (n : ℕ) → needed_beside (shown s) n ≡ pages_needed_with (plan_in s.heap).paging (objects (with_slot (plan_in s.heap) s.heap.held (job_slot s.heap.job))) n
  unfolding pages_needed_with
  beside_is n = λ i. pages_for p (λ c. each (job_slot s.heap.job) refl c i + cond (nat_eq (class_for p n) c) 1 0)
    where
      each : (q : Option JobSlot) → job_slot s.heap.job ≡ q → (c : ℕ) → live p (by_id s) c + job_takes (job_shown p m q) c
          ≡ live p (objects (with_slot (plan_in s.heap) m q)) c
      each None e c = (let a = counted c in omega arith)
      each (Some k) e c = ap (λ n. n + job_takes (job_shown p m (Some k)) c) (counted c)
          ∙ sym (live_all (plan_in s.heap) going.ready.rules.plan state going.ready.rules.consistent.kept k e c)

  module _ (n : ℕ) where
    abbrev size_test : Bool
    size_test = nat_lt s.heap.profile.page_words (need n)

    abbrev proxy_test : Bool
    proxy_test = nat_eq (len (by_id s)) s.heap.profile.proxies

    abbrev space_test : Bool
    space_test = nat_lt s.heap.profile.pages (pages_needed_with p (by_id s) n)

    abbrev busy_test : Bool
    busy_test = nat_lt s.heap.profile.pages (needed_beside (shown s) n)

    fits_so : need n ≤ s.heap.profile.page_words → size_test ≡ false
    fits_so fits = lt_no s.heap.profile.page_words (need n) fits

    few_so : len m < s.heap.profile.proxies → proxy_test ≡ false
    few_so few = eq_no (len (by_id s)) s.heap.profile.proxies (λ e. (let l = len_is in omega arith))

    needed_is : pages_needed_with p (by_id s) n ≡ pages_needed_with p (objects m) n
    needed_is = needed_with_alike p (objects m) (by_id s) counts n

    within_so : pages_needed_with p (objects m) n ≤ s.heap.profile.pages → space_test ≡ false
    within_so within = lt_no s.heap.profile.pages (pages_needed_with p (by_id s) n) (let e = needed_is in omega arith)

    refusal_shown : (e : SliceRefusal) → IsSlicedRefusedBy (plan_in s.heap) state n e → slice_refusal (shown s) n ≡ Some e
    refusal_shown refusal.Size why = λ i. refusal_by (lt_yes s.heap.profile.page_words (need n) why i) proxy_test space_test busy_test
    refusal_shown refusal.Proxy why = λ i. refusal_by (fits_so why.fits i)
        (eq_yes (len (by_id s)) s.heap.profile.proxies (len_is ∙ why.all) i) space_test busy_test
    refusal_shown refusal.Space why =
        let over = why.over in
        let e = needed_is in
        let yes = lt_yes s.heap.profile.pages (pages_needed_with p (by_id s) n) (omega arith) in
        λ i. refusal_by (fits_so why.fits i) (few_so why.few i) (yes i) busy_test
    refusal_shown refusal.Busy why =
        let kept = going.ready.rules.consistent.kept in
        let lt = class_fits p going.ready.rules.plan.paging n why.fits in
        let over = (lacks_room_at_one p going.ready.rules.plan.paging going.ready.rules.plan.ones (with_slot (plan_in s.heap) m (job_slot s.heap.job)) kept.sound n lt).0
        (no_place_is_lacking (plan_in s.heap) going.ready.rules.plan state kept (class_for p n) lt why.lacking) in
        let e = beside_is n in
        let yes = lt_yes s.heap.profile.pages (needed_beside (shown s) n) (omega arith) in
        λ i. refusal_by (fits_so why.fits i) (few_so why.few i) (within_so why.within i) (yes i)

    given_shown : (h : ℕ) (new : Sliced) → AddsSlicedObject (plan_in s.heap) state (record { number = h; length = n }) new → slice_refusal (shown s) n ≡ None
    given_shown h new g =
        let kept = going.ready.rules.consistent.kept in
        let plan = going.ready.rules.plan in
        let never = given_or_refused (plan_in s.heap) going.ready.rules.plan state going.ready.rules.consistent.kept (record { number = h; length = n }) new g in
        let lt = class_fits p going.ready.rules.plan.paging n g.fits in
        let within : pages_needed_with p (objects m) n ≤ s.heap.profile.pages = elim (cases_lt s.heap.profile.pages (pages_needed_with p (objects m) n)) [
          | inr le ↦ le
          | inl over ↦ absurd (never refusal.Space (record { fits = g.fits; few = g.few; over = over }))
        ] in
        let room : needed_beside (shown s) n ≤ s.heap.profile.pages = elim (cases_lt s.heap.profile.pages (needed_beside (shown s) n)) [
          | inr le ↦ le
          | inl over ↦ absurd (never refusal.Busy (record {
            fits = g.fits;
            few = g.few;
            within = within;
            lacking = lacking_is_no_place (plan_in s.heap) going.ready.rules.plan state going.ready.rules.consistent.kept (class_for p n)
                ((lacks_room_at_one p going.ready.rules.plan.paging going.ready.rules.plan.ones (with_slot (plan_in s.heap) m (job_slot s.heap.job))
                (going.ready.rules.consistent.kept).sound n lt).1 (let e = beside_is n in omega arith));
          }))
        ] in
        let no' = lt_no s.heap.profile.pages (needed_beside (shown s) n) room in
        λ i. refusal_by (fits_so g.fits i) (few_so g.few i) (within_so within i) (no' i)

    pub answer_shown : (answer : Result Handle SliceRefusal) (new : SlicedState) → DoesEvent s.heap (Malloc n answer) new → slice_refusal (shown s) n ≡ refused answer
    answer_shown (Ok h) new d = given_shown h.0 (working_in new).state d.happens.gives
    answer_shown (Err e) new d = refusal_shown e d.happens.0

-- the heap that a run shows after a call has the settings and the quantum of the heap before it
pub stays_shown : (old new : SliceRun) (event : Event) → DoesEvent old.heap event new.heap
    → shown new ≡ state_shown old.heap.profile old.heap.quantum (by_id new) (working_in new.heap).state
stays_shown old new event d = λ i. state_shown (d.stays.profile i) (d.stays.quantum i) (by_id new) (working_in new.heap).state

module _ (old new : SliceRun) (going : IsGoingSliced old) (later : IsGoingSliced new) (reply : Reply) where
  abbrev s : Profile
  s = old.heap.profile

  abbrev q : ℕ
  q = old.heap.quantum

  abbrev t : ShownSlices
  t = shown old

  abbrev Answered : Command → Type 0
  Answered c = (reply ≡ said (slice_line t c)) × (shown new ≡ after t c)

  -- the counts of the new objects, under the old settings
  counted_new : new.heap.profile ≡ s → new.heap.quantum ≡ q → AreCounted s q going.ready.rules.plan (by_id new) new.heap.held
  counted_new same quantum c = subst (λ (f : Profile). live (plan_by f q).paging (by_id new) c ≡ live (plan_by f q).paging (objects new.heap.held) c) same
      (counted new later c)

  malloc_is : (id n : ℕ) (answer : Result Handle SliceRefusal) → DoesEvent old.heap (Malloc n answer) new.heap
      → by_id new ≡ put_unless (refused answer) (by_id old) id (replicate n 0) → shown new ≡ after_malloc None (refused answer) t id n
  malloc_is id n (Ok h) d left = stays_shown old new (Malloc n (Ok h)) d
      ∙ sym (malloc_noted s q going.ready.rules.plan (by_id new) (working_in old.heap).state (working_in new.heap).state going.ready.rules.consistent.kept
      (record { number = h.0; length = n }) d.happens.gives (counted_new d.stays.profile d.stays.quantum))
      ∙ ap (λ o. noted (record { heap = heap_with s o; quantum = q; job = t.job })) left
  malloc_is id n (Err e) d left = stays_shown old new (Malloc n (Err e)) d ∙ (λ i. state_shown s q (left i) (d.happens.1 i).state)

  text_is : (answer : Result Handle SliceRefusal) → slice_malloc_text answer ≡ ok_or (λ e. slice_malloc_text (Err e)) (refused answer)
  text_is (Ok h) = refl
  text_is (Err e) = refl

  malloc_answered : (id n : ℕ) → SliceStep old (command.Malloc id n) reply new → Answered (command.Malloc id n)
  malloc_answered id n step = malloc_by_id sliced_calls sliced_keeps old new going reply id n step
      (λ v live st. (st.0 ∙ sym (ap (λ o. said (slice_malloc_line o t n)) live), ap shown st.1 ∙ sym (ap (λ o. after_malloc o (slice_refusal t n) t id n) live)))
      (λ none st left. (let stated = answer_shown old going n st.answer new.heap st.step in (
        st.reply_is ∙ ap said (text_is st.answer ∙ sym (ap (λ o. slice_malloc_line o t n) none ∙ ap (ok_or (λ e. slice_malloc_text (Err e))) stated)),
        malloc_is id n st.answer st.step left ∙ sym (λ i. after_malloc (none i) (stated i) t id n),
      )))

  -- the command `f`
  job_is_none : old.heap.job ≡ Idle → t.job ≡ None
  job_is_none idle = ap (λ (j : Job). job_shown (plan_by s q).paging old.heap.held (job_slot j)) idle

  job_is_some : old.heap.job ≢ Idle → (j : ShownJob) × (t.job ≡ Some j)
  job_is_some pending = go old.heap.job pending
    where
      go : (j : Job) → j ≢ Idle → (k : ShownJob) × (job_shown (plan_by s q).paging old.heap.held (job_slot j) ≡ Some k)
      go Idle ne = absurd (ne refl)
      go (Clear k) ne = (job_of (plan_by s q).paging old.heap.held k, refl)
      go (Move h k) ne = (job_of (plan_by s q).paging old.heap.held k, refl)

  freed_is : (id h : ℕ) (v : List ℕ) → get (objects old.heap.held) h ≡ Some v → (d : DoesEvent old.heap (Free h None) new.heap)
      → by_id new ≡ remove (by_id old) id → shown new ≡ after_free (Some v) None t id
  freed_is id h v there d left =
      let r = d.happens.removes in
      let plan = going.ready.rules.plan in
      let kept : IsKept (plan_in old.heap) (record { held = old.heap.held; job = Idle }) =
      subst (λ j. IsKept (plan_in old.heap) (record { held = old.heap.held; job = j })) r.idle going.ready.rules.consistent.kept in
      let kept' = kept_begun (plan_in old.heap) plan old.heap.held kept h r.freed r.found r.moved r.moves r.begun r.begins in
      let same : objects r.begun.held ≡ objects new.heap.held = sym (objects_sliced (plan_in old.heap) r.begun (working_in new.heap).state r.slice) in
      let counted_begun : AreCounted s q plan (by_id new) r.begun.held =
      λ c. counted_new d.stays.profile d.stays.quantum c ∙ ap (λ o. live (plan_by s q).paging o c) (sym same) in
      let bytes : Some r.freed.bytes ≡ Some v =
      sym (get-map_values (λ (x : Placed). x.bytes) old.heap.held h ∙ ap (option_map (λ (x : Placed). x.bytes)) r.found) ∙ there in
      let bytes_are : r.freed.bytes ≡ v = cc in
      stays_shown old new (Free h None) d
      ∙ sym (slice_shown s q plan (by_id new) r.begun (working_in new.heap).state kept' r.slice counted_begun)
      ∙ ap after_slice (sym (free_noted s q plan (by_id new) old.heap.held kept h r.freed r.found r.moved r.moves r.begun r.begins counted_begun))
      ∙ (λ i. after_slice (noted (record {
        heap = heap_with s (left i);
        quantum = q;
        job = Some (record { class = class_for (plan_by s q).paging (length (bytes_are i)); done = 0; filled = false });
      })))

  free_shown : (id h : ℕ) (v : List ℕ) → get (objects old.heap.held) h ≡ Some v → (answer : Option SliceFault) → DoesEvent old.heap (Free h answer) new.heap
      → by_id new ≡ taken_unless answer (by_id old) id → (answer ≡ slice_fault (Some v) t.job) × (shown new ≡ after_free (Some v) t.job t id)
  free_shown id h v there None d left =
      let idle = job_is_none d.happens.removes.idle in
      (sym (ap (slice_fault (Some v)) idle), freed_is id h v there d left ∙ sym (ap (λ j. after_free (Some v) j t id) idle))
  free_shown id h v there (Some fault.Unknown) d left = absurd (
      let none = get-map_values (λ (x : Placed). x.bytes) old.heap.held h ∙ ap (option_map (λ (x : Placed). x.bytes)) d.happens.0 in
      let e : Some v ≡ None = sym there ∙ none in
      cc)
  free_shown id h v there (Some fault.Busy) d left =
      let j = job_is_some d.happens.0.pending in (
        sym (ap (slice_fault (Some v)) j.1),
        stays_shown old new (Free h (Some fault.Busy)) d ∙ (λ i. state_shown s q (left i) (d.happens.1 i).state)
            ∙ sym (ap (λ j. after_free (Some v) j t id) j.1),
      )

  free_answered : (id : ℕ) → SliceStep old (command.Free id) reply new → Answered (command.Free id)
  free_answered id step = free_by_id sliced_calls sliced_keeps old new going reply id step
      (λ none st.
      (st.0 ∙ sym (ap (λ o. said (slice_free_text (slice_fault o t.job))) none), ap shown st.1 ∙ sym (ap (λ o. after_free o t.job t id) none)))
      (λ h v there live st left. (let stated = free_shown id h v there st.answer st.step left in (
        st.reply_is ∙ ap (λ a. said (slice_free_text a)) stated.0 ∙ sym (ap (λ o. said (slice_free_text (slice_fault o t.job))) live),
        stated.1 ∙ sym (ap (λ o. after_free o t.job t id) live),
      )))

  -- the command `w`: it makes, frees and moves no object, so the job stays as it is shown
  same_job : (h : ℕ) (x : Placed) (bytes : List ℕ) → get old.heap.held h ≡ Some x → length bytes ≡ length x.bytes
      → (working_in new.heap).state ≡ record (working_in old.heap).state { held = insert old.heap.held h (record { place = x.place; bytes = bytes }) }
      → job_shown (plan_by s q).paging new.heap.held (job_slot new.heap.job) ≡ t.job
  same_job h x bytes there len is = ap (λ (w : Sliced). job_shown (plan_by s q).paging w.held (job_slot w.job)) is ∙ go (job_slot old.heap.job)
    where
      on_same : (c page : ℕ) → objects_on (plan_by s q).paging (insert old.heap.held h (record { place = x.place; bytes = bytes })) c page
          ≡ objects_on (plan_by s q).paging old.heap.held c page
      on_same c page = ap (λ m. objects_on (plan_by s q).paging m c page) (sym (insert_again old.heap.held h (record { place = x.place; bytes = bytes })))
          ∙ objects_on-exchanged (plan_by s q).paging old.heap.held h x there h bytes (get_removed old.heap.held h)
          (ap (class_for (plan_by s q).paging) len) c page

      go : (k : Option JobSlot) → job_shown (plan_by s q).paging (insert old.heap.held h (record { place = x.place; bytes = bytes })) k
          ≡ job_shown (plan_by s q).paging old.heap.held k
      go None = refl
      go (Some k) = ap (λ n. Some (record {
        class = k.class;
        done = k.done;
        filled =
            nat_le (slots_of (plan_by s q).paging k.class) (n + 1);
      })) (on_same k.class (page_of (plan_by s q).paging k.address))

  write_shown : (h from : ℕ) (bytes : List ℕ) (answer : Result Unit AccessFault)
      → DoesEvent old.heap (Write (record { number = h; from = from }) bytes (access_fault answer)) new.heap → shown new ≡ with_objects t (by_id new)
  write_shown h from bytes (Ok u) d =
      let w = d.happens in
      let job = same_job h w.object (written w.object.bytes from bytes) w.found (length-written w.object.bytes from bytes w.fits) w.state in
      stays_shown old new (Write (record { number = h; from = from }) bytes None) d
      ∙ (λ i. record { heap = heap_with s (by_id new); quantum = q; job = job i })
  write_shown h from bytes (Err e) d = stays_shown old new (Write (record { number = h; from = from }) bytes (Some e)) d
      ∙ (λ i. state_shown s q (by_id new) (d.happens.1 i).state)

  write_answered : (id from : ℕ) (bytes : List ℕ) → SliceStep old (command.Write id from bytes) reply new → Answered (command.Write id from bytes)
  write_answered id from bytes step =
      let w = write_by_id sliced_calls sliced_keeps old new going reply id from bytes step in
      (w.0, go (get old.ids id) step ∙ ap (with_objects t) w.1)
    where
      go : (o : Option ℕ) → MatchOption o (Stays old (codes "unknown") reply new)
          (λ h. WritesId sliced_calls old (record { number = h; from = from }) bytes reply new) → shown new ≡ with_objects t (by_id new)
      go None st = ap shown st.1 ∙ ap (λ (r : SliceRun). with_objects t (by_id r)) (sym st.1)
      go (Some h) st = write_shown h from bytes st.answer st.step

  -- the command `s`
  slice_answered : StepsSliced old reply new → Answered command.Slice
  slice_answered st =
      let d = st.does in
      let slice = d.happens.slice in
      let same : by_id new ≡ by_id old =
      λ i. objects_by_id (st.ids i) (objects_sliced (plan_in old.heap) (working_in old.heap).state (working_in new.heap).state slice i) in
      let is : shown new ≡ after_slice t =
      stays_shown old new Step d
      ∙ ap (λ o. state_shown s q o (working_in new.heap).state) same
      ∙ sym (slice_shown s q going.ready.rules.plan (by_id old) (working_in old.heap).state (working_in new.heap).state going.ready.rules.consistent.kept slice
      (counted old going)) in
      let left : left_of (plan_in new.heap) (working_in new.heap).state ≡ words_left (shown new) =
      sym (left_shown new.heap.profile new.heap.quantum later.ready.rules.plan (by_id new) (working_in new.heap).state (job_slot new.heap.job)) in
      (st.reply_is ∙ ap (λ n. said (with_number (codes "left ") n)) (left ∙ ap words_left is), is)

  -- the command `p`
  peek_answered : (word : ℕ) → reply ≡ said (peek_text (slice_get old.heap.words word)) → new ≡ old → AnswersSliced t (command.Peek word) reply (shown new)
  peek_answered word r same = (let region = going.ready.rules.region in elim (cases_lt word (s.pages * s.page_words)) [
    | inl lt ↦ (
      slice_index old.heap.words word,
      r ∙ ap (λ o. said (peek_text o)) (slice_get-get_or old.heap.words word 0 (omega arith)
          ∙ sym (ap (λ b. cond b (Some (slice_index old.heap.words word)) None) (lt_yes word (s.pages * s.page_words) lt))),
      ap shown same,
    )
    | inr ge ↦ (
      0,
      r ∙ ap (λ o. said (peek_text o)) (slice_get_past old.heap.words word (omega arith)
          ∙ sym (ap (λ b. cond b (Some 0) None) (lt_no word (s.pages * s.page_words) ge))),
      ap shown same,
    )
  ])

  -- each command
  pub answered : (c : Command) → SliceStep old c reply new → AnswersSliced (shown old) c reply (shown new)
  answered (command.Malloc id n) step = malloc_answered id n step
  answered (command.Free id) step = free_answered id step
  answered (command.Write id from bytes) step = write_answered id from bytes step
  answered command.Slice step = slice_answered step
  answered (command.Read id from count) step =
      (step.0 ∙ ap (λ o. said (read_shown o from count)) (bytes_by_id sliced_calls old going id), ap shown step.1)
  answered (command.Peek word) step = peek_answered word step.0 step.1
  answered c step = (step.0, ap shown step.1)

-- For `the_sliced_headline`: the replies of a whole run in mode `slice`, of a session or of the mode handler, meet the claim (`MeetsSliced`), item by item.

opened : (quantum : ℕ) (p : Profile) (s : SliceRun) → BeginsSliced quantum p s → shown s ≡ slices_opened quantum p
opened quantum p s b =
    (λ i. state_shown (b.heap i).profile (b.heap i).quantum (objects_by_id (b.ids i) (objects (b.heap i).held)) (working_in (b.heap i)).state)
    ∙ ap (λ o. state_shown (at_bound_one p) quantum o (working_in (first_heap quantum p)).state) (none_by_id (objects empty))

-- the heap that a run shows, if it has begun
abbrev shown_at : Option SliceRun → Option ShownSlices
shown_at s = option_map shown s

module _ (quantum : ℕ) where
  run_met : (items : List Item) (old : Option SliceRun) (replies : List Reply) (new : Option SliceRun) → IsAt IsGoingSliced old
      → PlayRun (BeginsSlices quantum) SliceStep old items replies new
      → PlayRun (OpensSliced quantum) AnswersSliced (shown_at old) items replies (shown_at new)
  run_met items old replies new goes run = (run_through shown IsGoingSliced (BeginsSlices quantum) SliceStep (OpensSliced quantum) AnswersSliced
      (λ p reply s b. ((b.1, opened quantum p s b.0), begins_going quantum p s b.0))
      (λ old c reply new on step.
      let after = still_going sliced_calls sliced_keeps old new c reply on step in
      (answered old new on after reply c step, after))
      old items replies new goes run).0

-- over a run of a session the replies are as claimed
pub run_meets : (quantum : ℕ) (items : List Item) (replies : List Reply) (end : Option SliceRun) → RunsSliced quantum None items replies end
    → MeetsSliced quantum items replies
run_meets quantum items replies end run = (shown_at end, run_met quantum items None replies end tt run)

-- over a run of the mode handler the replies are as claimed
pub sliced_headline_met : (from : SlicePlay) (items : List Item) (replies : List Reply) (end : Option SlicePlay) → RunBy slices from None items replies end
    → MeetsSliced from.quantum items replies
sliced_headline_met from items replies end run =
    run_meets from.quantum items replies (option_map run_of_play end) (play_seen from items replies end run)
