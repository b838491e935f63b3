-- For the laws `each_command_has_its_turn`, `a_run_of_tasks_can_always_go_on` and `what_was_cut_is_a_prefix`: a run over tasks can begin with any settings in
-- their ranges, and each command then has a reply and a state after it.
use Rattle.std.proofs.Common.{◌≡◌, ℕ, ◌<◌, List, Some, None, refl, inl, inr, Option, codes}
use Rattle.run_model.specs.Terms.{AreInRange, at_bound_one, Command, empty, need, Profile, region_words, Reply, said}
use Rattle.std.proofs.lemmas.List.{length-replicate}
use Rattle.std.proofs.lemmas.Bool.{cases_lt}
use Rattle.page_model.specs.Image.{slot_for}
use Rattle.page_model.proofs.CallerLemmas.{held_of_bytes, image_empty}
use Rattle.quota_heap.specs.State.{KeepsTasks, empty_state, held_by, quota_of}
use Rattle.quota_session.specs.Tasks.{quota_text, quotas_after}
use Rattle.quota_model.specs.Admission.{CanBeAsked, IsAdmission, Share, declared_in_all, first_large, first_refused_for_space, in_order}
use Rattle.quota_model.specs.Refusals.{task_paging}
use Rattle.quota_model.specs.declared.results.Admission.{Admission}
use Rattle.quota_model.specs.declared.results.Admission.TheVariants.{Yes, No, Size, Proxies}
use Rattle.quota_model.specs.declared.results.Need.{Need}
use Rattle.quota_model.specs.declared.results.QuotaFault.{QuotaFault}
use Rattle.quota_model.proofs.CallerLemmas.{enough_iff, first_quotas, first_shared, granted_quotas, none_iff}
use Rattle.script_laws.specs.ValidItems.{IsValidCommand}
use Rattle.script_laws.proofs.CallerLemmas.{HasCalls, object_step_exists, CanGoOn}
use Rattle.script_reader.specs.declared.command.Command.TheVariants as command
use Rattle.quota_session.specs.Playing.{BeginsTasks, BeginsQuotas}
use Rattle.quota_session.specs.QuotaRun.{IsGoingQuotas, QuotaRun, QuotaStep, StepsPresent, first_session, task_needs}
use Rattle.quota_session.specs.Transcript.{admission_text, need_text}
use Rattle.quota_session.specs.QuotaRun.{present_run, quota_fault, with_ids, with_need, with_present}
use Rattle.quota_session.specs.TaskRun.{task_calls, task_shown}
use Rattle.quota_session.proofs.CallResults.{PageLaw, free_there, malloc_there, write_there}
use Rattle.quota_session.proofs.RunInvariant.{below, present_going, still_going, begins_going}

-- each call for a task has a result
task_there : PageLaw → (task : ℕ) → task < 16 → HasCalls (task_calls task)
task_there law task lt = record {
  malloc = λ s n rules. (let m = malloc_there law s rules task lt n in (m.answer, m.heap, (m.step, m.rules)));
  free = λ s h v rules found. (
      let x = held_of_bytes (held_by s task) h v found in
      let f = free_there law s rules task lt h x.0 x.1 in
      (None, f.heap, (f.answer, f.step, f.rules)));
  write = λ s p bytes v rules found are some few. (
      let x = held_of_bytes (held_by s task) p.number v found in
      let w = write_there law s rules task lt p.number p.from bytes x.0 x.1 in
      (w.answer, w.heap, (w.step, w.rules)));
  other = λ s c rules. (task_shown s.heap task c, s, (refl, refl));
}

-- for each share and all declared needs the admission test has a result
admission_there : (t : Share) (needs : List Need) → (a : Admission) × IsAdmission t needs a
admission_there t needs = by_large (first_large t.profile needs) refl
  where
    by_short : CanBeAsked t.profile needs → (o : Option ℕ) → first_refused_for_space t empty 0 (in_order needs) ≡ o → (a : Admission) × IsAdmission t needs a
    by_short asked None is = (Yes, (asked, (enough_iff t needs asked).1 ((none_iff t needs asked).0 is)))
    by_short asked (Some nth) is = (No nth, (asked, is))

    by_large : (o : Option ℕ) → first_large t.profile needs ≡ o → (a : Admission) × IsAdmission t needs a
    by_large (Some entry) is = (Size entry, is)
    by_large None is = elim (cases_lt t.profile.proxies (declared_in_all needs)) [
      | inl many ↦ (Proxies, (is, many))
      | inr few ↦ by_short (record { none_large = is; few = few }) (first_refused_for_space t empty 0 (in_order needs)) refl
    ]

module _ (law : PageLaw) (old : QuotaRun) (going : IsGoingQuotas old) where
  -- a quota line that is granted leaves the tasks within their quotas
  quota_rules : (task pages : ℕ) → task < 16 → (o : Option QuotaFault) → quota_fault old.heap task pages ≡ o
      → KeepsTasks (record old.heap { quotas = quotas_after o old.heap.quotas task pages })
  quota_rules task pages lt (Some e) is = going.rules
  quota_rules task pages lt None is = record {
    opened = (going.rules).opened;
    page_size = (going.rules).page_size;
    few_proxies = (going.rules).few_proxies;
    shared = (going.rules).shared;
    quotas = granted_quotas old.heap.profile old.heap.quotas old.heap.held task pages lt (going.rules).quotas is;
    region = (going.rules).region;
    image = (going.rules).image;
    slots = (going.rules).slots;
  }

  present_there : (c : Command) → IsValidCommand c → (reply : Reply) × (new : QuotaRun) × StepsPresent old c reply new
  present_there c can =
      let now = old.session.present in
      let a = object_step_exists (task_calls now) (task_there law now going.sixteen.present) (present_run old.session old.heap) c (present_going old going) can in
      (a.0, record old { session = with_ids old.session a.1.ids; heap = a.1.heap }, record { ids = a.1.ids; step = a.2; whole = refl })

  -- every command of the grammar has a reply
  pub quota_step_exists : (c : Command) → IsValidCommand c → (reply : Reply) × (new : QuotaRun) × QuotaStep old c reply new
  quota_step_exists (command.Task task) can = (said (codes "ok"), with_present old task, (refl, refl))
  quota_step_exists (command.Quota task pages) can = (
    said (quota_text (quota_fault old.heap task pages)),
    record old { heap = record old.heap { quotas = quotas_after (quota_fault old.heap task pages) old.heap.quotas task pages } },
    record { whole = refl; rules = quota_rules task pages (below task can.formed) (quota_fault old.heap task pages) refl; reply_is = refl },
  )
  quota_step_exists (command.Need task bytes count) can = (
    said (need_text (task_needs old.session task)),
    record old { session = with_need old.session task (record { bytes = bytes; count = count }) },
    (refl, refl),
  )
  quota_step_exists (command.Admit task) can =
      let a = admission_there (record { profile = old.heap.profile; quota = quota_of old.heap task }) (task_needs old.session task) in
      (said (admission_text a.0), old, (record { answer = a.0; meets = a.1; reply_is = refl }, refl))
  quota_step_exists c can = present_there c can

-- a run begins under any settings in their ranges
pub begin_exists : (p : Profile) → AreInRange p → (new : QuotaRun) × BeginsQuotas p new
begin_exists p can =
    let q = at_bound_one p in
    let slots = image_empty (slot_for (task_paging q)) (region_words q) in (
      record { settings = Some q; session = first_session; heap = empty_state q },
      record {
        settings = refl;
        session = refl;
        heap = refl;
        rules = record {
          opened = refl;
          page_size = can.page_size;
          few_proxies = can.few_proxies;
          shared = first_shared q;
          quotas = first_quotas q;
          region = length-replicate {A = ℕ} (region_words q) 0;
          image = image_empty need (region_words q);
          slots = slots;
        };
      },
    )

-- a run over tasks can be continued after each command
pub tasks_go_on : PageLaw → CanGoOn BeginsTasks QuotaStep
tasks_go_on law = record {
  is_going = IsGoingQuotas;
  begins_going = λ p reply s b. begins_going p s b.0;
  still_going = λ old c reply new going can step. still_going old going c reply new can.formed step;
  begin_exists = λ p can. (let b = begin_exists p can in (said (codes "ok"), b.0, (b.1, refl)));
  step_exists = λ old c going can. quota_step_exists law old going c can;
}
