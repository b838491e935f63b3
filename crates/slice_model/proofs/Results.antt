-- For `a_free_has_one_answer`, `a_slice_can_always_be_done` and, in `OrderOnce`, one result by an order: each free is either done or refused, and refused for
-- one cause; from each state a slice leads to a next one.
use Rattle.std.proofs.Common.{◌≡◌, ◌≢◌, ℕ, Option, Some, None, arith, sym, ◌∙◌, ap, refl, subst, inl, inr}
use Rattle.std.specs.Prelude.{◌⊎◌}
use Rattle.std.proofs.lemmas.Bool.{cases_eq, cases_lt}
use Rattle.std.specs.FinMap.{get, insert, remove}
use Rattle.cf_base.proofs.Maps.{get_remove_other}
use Rattle.page_model.specs.Arrangement.{IsSound, class_at, not_full_pages, objects_on}
use Rattle.page_model.specs.Held.{Held, Placed}
use Rattle.page_model.specs.Paging.{page_of, slot_words}
use Rattle.page_model.specs.Steps.{Moves}
use Rattle.page_model.proofs.CallerLemmas.{mover_is_other, on_page}
use Rattle.slice_model.specs.State.{Plan, IsPlan, JobSlot, Job, Sliced, IsKept, advanced, job_slot, placeholder, with_slot, Idle, Clear, Move}
use Rattle.slice_model.specs.Steps.{EndsJob, IsFaultOf, IsSlice, RemovesSlicedObject, SliceOf, LeavesJob, done_after, fresh_slot}
use Rattle.slice_model.specs.declared.refusals.SliceFault.{SliceFault}
use Rattle.slice_model.specs.declared.refusals.SliceFault.TheVariants as fault
use Rattle.slice_model.proofs.KeptSteps.{kept_begun, one_more, same_elsewhere, two_is_last}
use Rattle.slice_model.proofs.Occupied.{job_class, no_placeholder}
use Rattle.cf_base.proofs.Searches.{there_or_not}
use Rattle.page_model.proofs.CallerLemmas.{open_page, some_move}

module _ (plan : Plan) (ok : IsPlan plan) where
  -- after the last word of a job there is a next state: with no job, or with the one that follows
  end_there : (m : Held) (j : Job) (k : JobSlot) → job_slot j ≡ Some k → IsKept plan (record { held = m; job = j }) → (new : Sliced) × EndsJob plan.paging m k new
  end_there m j k is kept = elim (cases_eq (not_full_pages plan.paging m k.class) 2) [
    | inr ne ↦ (record { held = m; job = Idle }, inl (ne, refl))
    | inl two ↦ (
        let none = no_placeholder plan m kept.numbers in
        let class = (job_class plan.paging m j kept.job k is).class in
        let s : IsSound plan.paging (insert m plan.proxies (placeholder plan.paging k)) = subst (λ o. IsSound plan.paging (with_slot plan m o)) is kept.sound in
        let l = two_is_last plan ok m k none class s two in
        let other = l.other in
        let filled = l.filled in
        let o = open_page plan.paging (insert m plan.proxies (placeholder plan.paging k)) k.class (omega arith) in
        let more = one_more plan ok m k none class s in
        let less = (o.1).less in
        let some = (o.1).some in
        let ne : o.0 ≢ page_of plan.paging k.address = (λ e. (
        let f : objects_on plan.paging (insert m plan.proxies (placeholder plan.paging k)) k.class o.0
        ≡ objects_on plan.paging (insert m plan.proxies (placeholder plan.paging k)) k.class (page_of plan.paging k.address) =
        ap (objects_on plan.paging (insert m plan.proxies (placeholder plan.paging k)) k.class) e in
        omega arith)) in
        let same = same_elsewhere plan ok m k none class s o.0 ne in
        let q = on_page plan.paging m k.class o.0 (omega arith) in
        let on = q.3 in (
          record { held = insert m q.0 (record { place = k.address; bytes = (q.1).bytes }); job = Move q.0 (fresh_slot (q.1).place k.class) },
          inr (record {
            two = two;
            object = q.0;
            beside = record {
              object = q.1;
              found = q.2;
              class = q.4;
              page = λ e. ne (sym on ∙ e);
              not_full = rw on (omega arith);
            };
            carries = record { object = q.1; found = q.2; whole = refl };
          }),
        ))
  ]

  slice_of : (m : Held) (j : Job) → IsKept plan (record { held = m; job = j }) → (o : Option JobSlot) → job_slot j ≡ o
      → (new : Sliced) × SliceOf plan (record { held = m; job = j }) o new
  slice_of m j kept None e = (record { held = m; job = j }, refl)
  slice_of m j kept (Some k) e =
      let under = (job_class plan.paging m j kept.job k e).under_way in
      elim (cases_lt (done_after plan k) (slot_words plan.paging k.class)) [
        | inl left ↦ (record { held = m; job = advanced j (done_after plan k) }, inl (record { left = left; whole = refl }))
        | inr over ↦ (
            let end = end_there m j k e kept in
            (end.0, inr (record { all = omega arith; ends = end.1 })))
      ]

  -- each slice can be done
  pub slice_there : (s : Sliced) → IsKept plan s → (new : Sliced) × IsSlice plan s new
  slice_there s kept = slice_of s.held s.job kept (job_slot s.job) refl

  begun_there : (m : Held) → IsSound plan.paging m → (h : ℕ) (x : Placed) → get m h ≡ Some x → (moved : Option ℕ) → Moves plan.paging m x moved
      → (begun : Sliced) × LeavesJob (remove m h) x.place (class_at plan.paging x) moved begun
  begun_there m s h x there None never = (record { held = remove m h; job = Clear (fresh_slot x.place (class_at plan.paging x)) }, refl)
  begun_there m s h x there (Some q) (must, (y, there', may)) =
      let ne = mover_is_other plan.paging ok.paging m s h x there q y there' must may in (
        record {
          held = insert (remove m h) q (record { place = x.place; bytes = y.bytes });
          job = Move q (fresh_slot y.place (class_at plan.paging x));
        },
        record { object = y; found = get_remove_other m h q ne ∙ there'; whole = refl },
      )

  idle_or_not : (j : Job) → (j ≡ Idle) ⊎ (j ≢ Idle)
  idle_or_not Idle = inl refl
  idle_or_not (Clear k) = inr (λ e. (let e' : Clear k ≡ Idle = e in cc))
  idle_or_not (Move h k) = inr (λ e. (let e' : Move h k ≡ Idle = e in cc))

  -- a free is done or refused
  pub free_answered : (s : Sliced) → IsKept plan s → (h : ℕ) → ((e : SliceFault) × IsFaultOf s h e) ⊎ ((new : Sliced) × RemovesSlicedObject plan s h new)
  free_answered s kept h = elim (there_or_not s.held h) [
    | inr none ↦ inl (fault.Unknown, none)
    | inl (x, there) ↦ elim (idle_or_not s.job) [
      | inr pending ↦ inl (fault.Busy, record { object = x; found = there; pending = pending })
      | inl idle ↦ inr (
          let kept' : IsKept plan (record { held = s.held; job = Idle }) = subst (λ j. IsKept plan (record { held = s.held; job = j })) idle kept in
          let moves = some_move plan.paging ok.paging s.held kept'.sound h x there in
          let begun = begun_there s.held kept'.sound h x there moves.0 moves.1 in
          let slice = slice_there begun.0 (kept_begun plan ok s.held kept' h x there moves.0 moves.1 begun.0 begun.1) in (
            slice.0,
            record {
              idle = idle;
              freed = x;
              found = there;
              moved = moves.0;
              moves = moves.1;
              begun = begun.0;
              begins = begun.1;
              slice = slice.1;
            },
          ))
    ]
  ]

-- a refused free has one cause, and a free that is done has none (`freed_or_faulty`)
pub one_fault : (s : Sliced) (h : ℕ) (a b : SliceFault) → IsFaultOf s h a → IsFaultOf s h b → a ≡ b
one_fault s h fault.Unknown fault.Unknown x y = refl
one_fault s h fault.Unknown fault.Busy x y = absurd (let z : Some y.object ≡ None = sym y.found ∙ x in cc)
one_fault s h fault.Busy fault.Unknown x y = absurd (let z : Some x.object ≡ None = sym x.found ∙ y in cc)
one_fault s h fault.Busy fault.Busy x y = refl

pub freed_or_faulty : (plan : Plan) (s : Sliced) (h : ℕ) (new : Sliced) → RemovesSlicedObject plan s h new → (e : SliceFault) → ¬ IsFaultOf s h e
freed_or_faulty plan s h new r fault.Unknown x = (let z : Some r.freed ≡ None = sym r.found ∙ x in cc)
freed_or_faulty plan s h new r fault.Busy x = x.pending r.idle
