-- For `what_the_rules_say_of_pages`: while a job is pending, no object is in its slot, those on the slot's page are of its class, and each class has at most
-- one partly full page, the class of the slot at most two; if it has two, the slot is the only free one on its page.
use Rattle.std.proofs.Common.{◌≡◌, ℕ, Some, arith, sym, ◌∙◌, subst}
use Rattle.std.specs.FinMap.{get, insert}
use Rattle.cf_base.proofs.Maps.{get_inserted, get_insert_other}
use Rattle.page_model.specs.Arrangement.{IsSound}
use Rattle.page_model.specs.Held.{Placed}
use Rattle.page_model.proofs.CallerLemmas.{not_full-same}
use Rattle.slice_model.specs.State.{Plan, IsPlan, JobSlot, Sliced, IsKept, AreSoundBesideJob, job_slot, placeholder, with_slot}
use Rattle.slice_model.proofs.Occupied.{job_class, no_placeholder, placeholder_class}
use Rattle.slice_model.proofs.KeptSteps.{at_most_two, other_than, same_class, two_is_last}

pub stand_beside : (plan : Plan) → IsPlan plan → (s : Sliced) → IsKept plan s → (k : JobSlot) → job_slot s.job ≡ Some k → AreSoundBesideJob plan.paging s.held k
stand_beside plan ok s kept k is =
    let none = no_placeholder plan s.held kept.numbers in
    let class = (job_class plan.paging s.held s.job kept.job k is).class in
    let sound : IsSound plan.paging (insert s.held plan.proxies (placeholder plan.paging k)) =
    subst (λ o. IsSound plan.paging (with_slot plan s.held o)) is kept.sound in
    let here = get_inserted s.held plan.proxies (placeholder plan.paging k) in
    record {
      address = λ h x there. sound.own_place h x plan.proxies (placeholder plan.paging k) (beside h x there) here
          (λ e. other_than s.held plan.proxies h x none there (sym e));
      class = λ h x there on. sound.one_class h x plan.proxies (placeholder plan.paging k) (beside h x there) here on
          ∙ placeholder_class plan.paging ok.paging k class;
      others = λ c lt ne. (
          let same = not_full-same plan.paging s.held (insert s.held plan.proxies (placeholder plan.paging k)) c
          (same_class plan ok s.held k none class sound c ne) in
          let few = sound.few_not_full c lt in
          let o = ok.ones c lt in
          omega arith);
      two = at_most_two plan ok s.held k none class sound;
      second = λ two. (let l = two_is_last plan ok s.held k none class sound two in (l.some, l.filled));
    }
  where
    beside : (h : ℕ) (x : Placed) → get s.held h ≡ Some x → get (insert s.held plan.proxies (placeholder plan.paging k)) h ≡ Some x
    beside h x there = get_insert_other s.held plan.proxies (placeholder plan.paging k) h
        (other_than s.held plan.proxies h x (no_placeholder plan s.held kept.numbers) there) ∙ there
