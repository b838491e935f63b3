-- For `next_frame`, one cycle on the sliced heap (free the last frame, do slices, malloc the next): slices change no object's bytes and leave the heap open,
-- and n of them, of at most q steps each, take at most n * q; after enough of them no job is pending and the malloc isn't `Busy`; and which objects there are
-- after the malloc, refused or not.
use Rattle.std.proofs.Common.{◌≡◌, ◌≢◌, ℕ, zero, suc, ◌+◌, ◌-◌, ◌*◌, ◌≤◌, Option, Some, None, arith, sym, ◌∙◌, ap, refl, subst, replicate}
use Rattle.std.specs.Prelude.{Ok}
use Rattle.std.specs.FinMap.{get, insert}
use Rattle.cf_base.specs.declared.results.Handle.{Handle}
use Rattle.page_model.specs.Counts.{ceil_div}
use Rattle.page_model.specs.Held.{objects}
use Rattle.page_model.specs.Paging.{slot_words}
use Rattle.page_model.proofs.CallerLemmas.{ceil_mono, slot_fits}
use Rattle.slice_model.specs.declared.refusals.SliceRefusal.{SliceRefusal}
use Rattle.slice_model.specs.declared.refusals.SliceRefusal.TheVariants.{Busy}
use Rattle.slice_model.specs.declared.job_slot.JobSlot.{JobSlot}
use Rattle.slice_model.specs.Runs.{Happens, HeapWithWords, Free, Malloc}
use Rattle.slice_model.specs.State.{Plan, IsPlan, Job, Sliced, IsKept, job_slot, Idle, Clear, Move}
use Rattle.slice_model.specs.Steps.{AreSlices, IsSlice, IsSlicedRefusedBy, LacksUsableSlot}
use Rattle.slice_model.proofs.CallerLemmas.{call_on_map, job_class, objects_sliced, slices_idle, slices_split}
use Rattle.sliced_heap.specs.Shown.{KeepsSlicedRules, SlicedState, StaysSlicedOpen, plan_in, working_in}
use Rattle.sliced_heap.proofs.CallerLemmas.{plan_stays}
use Rattle.step_ledger.specs.Counting.{RoseAtMost}
use Rattle.library_example.specs.Cycle.{HasFrame, others}

is_idle : (j : Job) → job_slot j ≡ None → j ≡ Idle
is_idle Idle e = refl
is_idle (Clear k) e = (let no : Some k ≡ None = e in cc)
is_idle (Move h k) e = (let no : Some k ≡ None = e in cc)

module _ (plan : Plan) where
  -- n slices and then one more are n + 1 slices
  pub slices_more : (n : ℕ) (old mid new : Sliced) → AreSlices plan n old mid → IsSlice plan mid new → AreSlices plan (suc n) old new
  slices_more zero old mid new same slice = (new, subst (λ s. IsSlice plan s new) same slice, refl)
  slices_more (suc n) old mid new (first, is, rest) slice = (first, is, slices_more n first mid new rest slice)

  -- slices change no object's bytes
  pub objects_after : (n : ℕ) (old new : Sliced) → AreSlices plan n old new → objects new.held ≡ objects old.held
  objects_after zero old new same = ap (λ (s : Sliced). objects s.held) same
  objects_after (suc n) old new (mid, is, rest) = objects_after n mid new rest ∙ objects_sliced plan old mid is

  -- from the law on slices (`slices_alone_end_every_job`): after enough slices no job is pending
  abbrev pub EndsBySlices : Type 0
  EndsBySlices = (old new : Sliced) (k : JobSlot) → IsPlan plan → IsKept plan old → job_slot old.job ≡ Some k
      → AreSlices plan (ceil_div (slot_words plan.paging k.class - k.done) plan.quantum + ceil_div (slot_words plan.paging k.class) plan.quantum) old new
      → new.job ≡ Idle

  module _ (ok : IsPlan plan) (ends : EndsBySlices) where
    -- after n slices no job is pending, if n is at least twice the slices of a page
    pub idle_after : (n : ℕ) (old new : Sliced) → IsKept plan old → 2 * ceil_div plan.paging.page_words plan.quantum ≤ n → AreSlices plan n old new
        → new.job ≡ Idle
    idle_after n old new kept enough s = go (job_slot old.job) refl
      where
        go : (o : Option JobSlot) → job_slot old.job ≡ o → new.job ≡ Idle
        go None e = slices_idle plan n old new (is_idle old.job e) s
        go (Some k) e =
            let under = job_class plan.paging old.held old.job kept.job k e in
            let fits = slot_fits plan.paging ok.paging k.class under.class in
            let less : slot_words plan.paging k.class - k.done ≤ plan.paging.page_words = omega arith in
            let a = ceil_mono (slot_words plan.paging k.class - k.done) plan.paging.page_words plan.quantum less in
            let b = ceil_mono (slot_words plan.paging k.class) plan.paging.page_words plan.quantum fits in
            let c : ℕ = ceil_div (slot_words plan.paging k.class - k.done) plan.quantum + ceil_div (slot_words plan.paging k.class) plan.quantum in
            let sum : c + (n - c) ≡ n = omega arith in
            let parts = slices_split plan c (n - c) old new (subst (λ m. AreSlices plan m old new) (sym sum) s) in
            slices_idle plan (n - c) parts.0 new (ends old parts.0 k ok kept e parts.1) parts.2

-- the same of heaps: `mid` is the heap after n slices, `new` after one more
pub next_slice : (old mid new : SlicedState) (n : ℕ) → StaysSlicedOpen old mid → AreSlices (plan_in old) n (working_in old).state (working_in mid).state
    → IsSlice (plan_in mid) (working_in mid).state (working_in new).state
    → AreSlices (plan_in old) (n + 1) (working_in old).state (working_in new).state
next_slice old mid new n stays slices slice =
    let is = subst (λ p. IsSlice p (working_in mid).state (working_in new).state) (plan_stays old mid stays) slice in
    let e : suc n ≡ n + 1 = omega arith in
    subst (λ k. AreSlices (plan_in old) k (working_in old).state (working_in new).state) e
    (slices_more (plan_in old) n (working_in old).state (working_in mid).state (working_in new).state slices is)

-- a heap that stays open twice stays open
pub stays_on : (old mid new : SlicedState) → StaysSlicedOpen old mid → StaysSlicedOpen mid new → StaysSlicedOpen old new
stays_on old mid new a b = record { is_open = b.is_open ∙ a.is_open; profile = b.profile ∙ a.profile; quantum = b.quantum ∙ a.quantum; region = b.region ∙ a.region }

-- steps: n slices of at most q steps each, and one more, add at most (n + 1) * q
pub one_more : (old mid new n q r : ℕ) → RoseAtMost old mid (n * q) → RoseAtMost mid new r → r ≡ q → RoseAtMost old new ((n + 1) * q)
one_more old mid new n q r a b same =
    let low = a.kept in
    let low' = b.kept in
    let high = a.bound in
    let high' = b.bound in
    let m : (n + 1) * q ≡ n * q + q = omega arith in
    record { kept = omega arith; bound = rw m (omega arith) }

-- a free, n slices and a malloc: the heap is `old` before the free, `freed` after it, `ready` after the slices, and `new` after the malloc
module _ (old freed ready : SlicedState) (last n : ℕ) (rules : KeepsSlicedRules old)
    (free : Happens (plan_in old) (working_in old) (Free last None) (working_in freed))
    (slices : AreSlices (plan_in freed) n (working_in freed).state (working_in ready).state) (rules' : KeepsSlicedRules ready) where
  -- after the free and the slices the objects are all but the last frame
  left : objects ready.held ≡ others old last
  left =
      let gone = call_on_map (plan_in old) rules.plan (working_in old) (Free last None) (working_in freed) rules.consistent free in
      objects_after (plan_in freed) n (working_in freed).state (working_in ready).state slices ∙ gone.0.1

  -- a malloc that succeeds then makes the new frame
  pub has_frame : (new : SlicedState) (bytes : ℕ) (frame : Handle) → Happens (plan_in ready) (working_in ready) (Malloc bytes (Ok frame)) (working_in new)
      → HasFrame old last bytes frame.0 new
  has_frame new bytes frame malloc =
      let come = call_on_map (plan_in ready) rules'.plan (working_in ready) (Malloc bytes (Ok frame)) (working_in new) rules'.consistent malloc in
      record {
        unused = subst (λ m. get m frame.0 ≡ None) left come.0.0;
        whole = come.0.1 ∙ ap (λ m. insert m frame.0 (replicate bytes 0)) left;
      }

  -- a malloc that is refused then leaves these objects
  pub has_none : (new : SlicedState) (bytes : ℕ) (cause : SliceRefusal) → StaysSlicedOpen ready new
      → IsSlicedRefusedBy (plan_in ready) (working_in ready).state bytes cause → working_in new ≡ working_in ready
      → IsSlicedRefusedBy (plan_in new) (working_in new).state bytes cause × (objects new.held ≡ others old last)
  has_none new bytes cause stays is same =
      let s : (working_in new).state ≡ (working_in ready).state = ap (λ (w : HeapWithWords). w.state) same in (
        subst (λ p. IsSlicedRefusedBy p (working_in new).state bytes cause) (sym (plan_stays ready new stays))
            (subst (λ t. IsSlicedRefusedBy (plan_in ready) t bytes cause) (sym s) is),
        ap (λ (t : Sliced). objects t.held) s ∙ left,
      )

-- from the law on refusals (`a_malloc_is_busy_only_with_a_job`): without a pending job a malloc is not refused as `Busy`
abbrev pub WaitsForJob : Type 0
WaitsForJob = (plan : Plan) (s : Sliced) (bytes : ℕ) → IsPlan plan → IsKept plan s → LacksUsableSlot plan s bytes → s.job ≢ Idle

-- after a free and n slices, at least twice those of a page, a malloc is not refused as `Busy`
pub not_busy : ((plan : Plan) → EndsBySlices plan) → WaitsForJob → (old freed ready : SlicedState) (n bytes : ℕ) (cause : SliceRefusal) → StaysSlicedOpen old freed
    → KeepsSlicedRules freed → KeepsSlicedRules ready → 2 * ceil_div old.profile.page_words old.quantum ≤ n
    → AreSlices (plan_in freed) n (working_in freed).state (working_in ready).state → IsSlicedRefusedBy (plan_in ready) (working_in ready).state bytes cause
    → cause ≢ Busy
not_busy ends waits old freed ready n bytes cause stays rules rules' enough slices is busy =
    let p = stays.profile in
    let q = stays.quantum in
    let enough' : 2 * ceil_div freed.profile.page_words freed.quantum ≤ n = rw p (rw q enough) in
    let idle = idle_after (plan_in freed) rules.plan (ends (plan_in freed)) n (working_in freed).state (working_in ready).state rules.consistent.kept enough'
    slices in
    waits (plan_in ready) (working_in ready).state bytes rules'.plan rules'.consistent.kept
    (subst (λ c. IsSlicedRefusedBy (plan_in ready) (working_in ready).state bytes c) busy is) idle
