-- For the law `replies_show_their_causes`: if the reply to a malloc or free on a sliced heap names a cause of refusal, the cause holds, for a malloc also
-- conversely; `busy` means that a job is pending.
use Rattle.std.proofs.Common.{◌≡◌, ◌≢◌, ℕ, List, [], ◌∷◌, Some, None, get_or, refl, sym, ◌∙◌, ap, subst, ap₂, Option, Result, Ok, Err, codes, nat_eq, if◌then◌else◌, Bool}
use Rattle.std.specs.Option.{MatchOption}
use Rattle.run_model.specs.Terms.{get, Handle, Profile, Reply, said}
use Rattle.script_reader.specs.declared.command.Command.TheVariants as command
use Rattle.page_model.specs.Order.{Order}
use Rattle.slice_model.specs.Runs.{HeapWithWords, Malloc, Free}
use Rattle.slice_model.specs.State.{Idle, Sliced, IsKept, IsPlan, Plan}
use Rattle.slice_model.specs.Steps.{IsFaultOf, IsSlicedRefusedBy, LacksUsableSlot}
use Rattle.slice_model.specs.declared.refusals.SliceFault.{SliceFault}
use Rattle.slice_model.specs.declared.refusals.SliceFault.TheVariants as fault
use Rattle.slice_model.specs.declared.refusals.SliceRefusal.{SliceRefusal}
use Rattle.slice_model.specs.declared.refusals.SliceRefusal.TheVariants as refusal
use Rattle.slice_model.proofs.CallerLemmas.{given_or_refused, one_cause}
use Rattle.sliced_heap.specs.Shown.{SlicedState, plan_in, working_in, StaysSlicedOpen}
use Rattle.script_laws.proofs.CallerLemmas.{refused}
use Rattle.script_laws.specs.ObjectRun.{FreesId, MallocsId, ids_without}
use Rattle.slice_session.specs.SliceRun.{DoesEvent, IsGoingSliced, SliceRun, SliceStep}
use Rattle.run_model.specs.Steps.{Stays, ids_given}
use Rattle.slice_session.specs.SliceRun.{slice_free_text, slice_malloc_text, slice_run, sliced_calls}

-- a heap from its fields
abbrev heap_by : Bool → Profile → ℕ → HeapWithWords → Order → SlicedState
heap_by b p q w o = record { is_open = b; profile = p; quantum = q; held = w.state.held; job = w.state.job; words = w.words; order = o }

heap_same : (old new : SlicedState) → StaysSlicedOpen old new → working_in new ≡ working_in old → new.order ≡ old.order → new ≡ old
heap_same old new s is order = ap (λ b. heap_by b new.profile new.quantum (working_in new) new.order) s.is_open
    ∙ ap (λ p. heap_by old.is_open p new.quantum (working_in new) new.order) s.profile
    ∙ ap (λ q. heap_by old.is_open old.profile q (working_in new) new.order) s.quantum
    ∙ ap (λ w. heap_by old.is_open old.profile old.quantum w new.order) is
    ∙ ap (heap_by old.is_open old.profile old.quantum (working_in old)) order

-- the refusal that a reply names, by one of its letters
abbrev refusal_in : List ℕ → Option SliceRefusal
refusal_in t = if nat_eq (get_or t 9 0) 105 then Some refusal.Size else (if nat_eq (get_or t 9 0) 114 then Some refusal.Proxy
    else (if nat_eq (get_or t 9 0) 112 then Some refusal.Space else (if nat_eq (get_or t 0 0) 98 then Some refusal.Busy else None)))

abbrev fault_in : List ℕ → Option SliceFault
fault_in t = if nat_eq (get_or t 0 0) 117 then Some fault.Unknown else (if nat_eq (get_or t 0 0) 98 then Some fault.Busy else None)

abbrev first : {T : Type 0} → (List ℕ → Option T) → Reply → Option T
first f [] = None
first f (text ∷ rest) = f text

refusal_shown : (a : Result Handle SliceRefusal) → refusal_in (slice_malloc_text a) ≡ refused a
refusal_shown (Ok h) = refl
refusal_shown (Err refusal.Size) = refl
refusal_shown _ = refl

same_refusal : (a : Result Handle SliceRefusal) (e : SliceRefusal) → said (slice_malloc_text (Err e)) ≡ said (slice_malloc_text a) → a ≡ Err e
same_refusal a e is = go a (sym (refusal_shown (Err e)) ∙ ap (first refusal_in) is ∙ refusal_shown a)
  where
    go : (a : Result Handle SliceRefusal) → Some e ≡ refused a → a ≡ Err e
    go (Ok h) is = absurd (let z : Some e ≡ None = is in cc)
    go (Err f) is = (let z : Some e ≡ Some f = is in cc)

fault_shown : (a : Option SliceFault) → fault_in (slice_free_text a) ≡ a
fault_shown None = refl
fault_shown (Some fault.Unknown) = refl
fault_shown (Some fault.Busy) = refl

same_fault : (a : Option SliceFault) (e : SliceFault) → said (slice_free_text (Some e)) ≡ said (slice_free_text a) → a ≡ Some e
same_fault a e is = sym (sym (fault_shown (Some e)) ∙ ap (first fault_in) is ∙ fault_shown a)

module _ (old new : SliceRun) (id : ℕ) where
  -- a malloc for an id that isn't live, and a free of one that is
  mallocs_at : (n : ℕ) (reply : Reply) → get old.ids id ≡ None → SliceStep old (command.Malloc id n) reply new → MallocsId sliced_calls old id n reply new
  mallocs_at n reply none step = go (get old.ids id) none step
    where
      go : (o : Option ℕ) → o ≡ None → MatchOption o (MallocsId sliced_calls old id n reply new) (λ h. Stays old (codes "live") reply new)
          → MallocsId sliced_calls old id n reply new
      go None is m = m
      go (Some h) is s = absurd (let z : Some h ≡ None = is in cc)

  frees_at : (h : ℕ) (reply : Reply) → get old.ids id ≡ Some h → SliceStep old (command.Free id) reply new → FreesId sliced_calls old id h reply new
  frees_at h reply live step = go (get old.ids id) live step
    where
      go : (o : Option ℕ) → o ≡ Some h → MatchOption o (Stays old (codes "unknown") reply new) (λ q. FreesId sliced_calls old id q reply new)
          → FreesId sliced_calls old id h reply new
      go None is s = absurd (let z : ◌≡◌ {A = Option ℕ} None (Some h) = is in cc)
      go (Some q) is f = (let e : q ≡ h = (let z : Some q ≡ Some h = is in cc) in subst (λ k. FreesId sliced_calls old id k reply new) e f)

  pub malloc_cause : (n : ℕ) (e : SliceRefusal) → get old.ids id ≡ None → SliceStep old (command.Malloc id n) (said (slice_malloc_text (Err e))) new
      → IsSlicedRefusedBy (plan_in old.heap) (working_in old.heap).state n e × (new ≡ old)
  malloc_cause n e none step =
      let m = mallocs_at n _ none step in
      let is : m.answer ≡ Err e = same_refusal m.answer e m.reply_is in
      let d = subst (λ (a : Result Handle SliceRefusal). DoesEvent old.heap (Malloc n a) new.heap) is m.step in
      let ids : new.ids ≡ old.ids = m.ids ∙ ap (ids_given old.ids id) is in
      (d.happens.0, ap₂ slice_run ids (heap_same old.heap new.heap d.stays d.happens.1 d.ordered.1))

  pub free_cause : (h : ℕ) (e : SliceFault) → get old.ids id ≡ Some h → SliceStep old (command.Free id) (said (slice_free_text (Some e))) new
      → IsFaultOf (working_in old.heap).state h e × (new ≡ old)
  free_cause h e live step =
      let f = frees_at h _ live step in
      let is : f.answer ≡ Some e = same_fault f.answer e f.reply_is in
      let d = subst (λ (a : Option SliceFault). DoesEvent old.heap (Free h a) new.heap) is f.step in
      let ids : new.ids ≡ old.ids = f.ids ∙ ap (ids_without old.ids id) is in
      (d.happens.0, ap₂ slice_run ids (heap_same old.heap new.heap d.stays d.happens.1 d.ordered.1))

  -- if a cause of refusal holds, the reply is the text of this cause
  pub cause_shown : (n : ℕ) (e : SliceRefusal) (reply : Reply) → IsGoingSliced old → get old.ids id ≡ None
      → IsSlicedRefusedBy (plan_in old.heap) (working_in old.heap).state n e → SliceStep old (command.Malloc id n) reply new
      → reply ≡ said (slice_malloc_text (Err e))
  cause_shown n e reply going none cause step = (let m = mallocs_at n reply none step in go m.answer m.step m.reply_is)
    where
      go : (a : Result Handle SliceRefusal) → DoesEvent old.heap (Malloc n a) new.heap → reply ≡ said (slice_malloc_text a)
          → reply ≡ said (slice_malloc_text (Err e))
      go (Ok h) d is = absurd (given_or_refused (plan_in old.heap) going.ready.rules.plan (working_in old.heap).state going.ready.rules.consistent.kept
          (record { number = h.0; length = n }) (working_in new.heap).state d.happens.gives e cause)
      go (Err f) d is = is ∙ ap (λ (f : SliceRefusal). said (slice_malloc_text (Err f)))
          (one_cause (plan_in old.heap) (working_in old.heap).state n f e d.happens.0 cause)

  -- if the reply to a malloc is `busy`, a job is pending: from the model's law `a_malloc_is_busy_only_with_a_job`
  pub busy_malloc_cause : ((plan : Plan) (s : Sliced) (n : ℕ) → IsPlan plan → IsKept plan s → LacksUsableSlot plan s n → s.job ≢ Idle)
      → (n : ℕ) → IsGoingSliced old → SliceStep old (command.Malloc id n) (said (codes "busy")) new → old.heap.job ≢ Idle
  busy_malloc_cause law n going step = go (get old.ids id) refl step
    where
      go : (o : Option ℕ) → get old.ids id ≡ o
          → MatchOption o (MallocsId sliced_calls old id n (said (codes "busy")) new) (λ h. Stays old (codes "live") (said (codes "busy")) new)
          → old.heap.job ≢ Idle
      go None none m = law (plan_in old.heap) (working_in old.heap).state n going.ready.rules.plan going.ready.rules.consistent.kept
          (malloc_cause n refusal.Busy none step).0
      go (Some h) live s = absurd (let z : ◌≡◌ {A = Option SliceRefusal} (Some refusal.Busy) None = ap (first refusal_in) s.0 in cc)

  pub busy_free_cause : SliceStep old (command.Free id) (said (codes "busy")) new → old.heap.job ≢ Idle
  busy_free_cause step = go (get old.ids id) refl step
    where
      go : (o : Option ℕ) → get old.ids id ≡ o
          → MatchOption o (Stays old (codes "unknown") (said (codes "busy")) new) (λ h. FreesId sliced_calls old id h (said (codes "busy")) new)
          → old.heap.job ≢ Idle
      go None none s = absurd (let z : Some fault.Busy ≡ Some fault.Unknown = ap (first fault_in) s.0 in cc)
      go (Some h) live f = (free_cause h fault.Busy live step).0.pending
