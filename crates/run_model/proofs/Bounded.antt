-- Every step of a run with pages meets `MeetsBounds`: a class with n objects, m to a page, has at most ⌊n/m⌋ + k pages; and if every bound is 1, a malloc of
-- an object that fits a page is refused if and only if `LacksProxyOrPages` holds. So each `Step` is an `IsCommandStep`.
use Rattle.std.proofs.Common.{◌≡◌, ℕ, ◌≤◌, Option, Some, None, Result, Ok, Err, ap, sym, ◌∙◌, subst, inl, inr, refl, ◌↔◌, codes}
use Rattle.run_model.specs.Terms.{Command, EveryBoundIsOne, family_of, get, Handle, HeapState, IsGoing, IsPaged, KeepsRules, Kind, Malloc, need, paging_in, Refusal, Reply, Request, RunState, said}
use Rattle.cf_base.specs.declared.results.Refusal.TheVariants as refusal
use Rattle.id_table.proofs.CallerLemmas.{LacksByNeed, refused_by_need}
use Rattle.page_model.proofs.CallerLemmas.{sound_few}
use Rattle.cf_model.specs.Families as family
use Rattle.cf_model.specs.Families.{Family}
use Rattle.cf_model.specs.Steps.{IsMallocStep}
use Rattle.cf_model.proofs.CallerLemmas.{pages_kept}
use Rattle.run_model.specs.Bounds.{HasFewPages, LacksProxyOrPages, MeetsBounds, Refuses, RefusesByNeed, RefusesForProxyOrSpace}
use Rattle.run_model.specs.Replies.{malloc_text}
use Rattle.run_model.specs.Steps.{Step}
use Rattle.run_model.proofs.RunInvariant.{MallocsAt, step_rules, step_same}

-- a heap with pages that keeps its rules has at most the pages of the bound
pub few_pages : (s : HeapState) → IsPaged s.kind → KeepsRules s → HasFewPages s
few_pages s paged rules = (let k = pages_kept s.kind s paged rules.of_kind in λ c lt. sound_few (paging_in s) k.paging c lt s.held k.sound)

-- the reply to a malloc shows whether it was refused for a proxy or for space
lacks_if_said : (answer : Result Handle Refusal) (reply : Reply) → reply ≡ said (malloc_text answer) → RefusesForProxyOrSpace reply → LacksByNeed answer
lacks_if_said (Ok h) reply shown refused = absurd (elim refused [
  | inl e ↦ (let z : said (codes "ok") ≡ said (codes "refused proxy") = sym shown ∙ e in cc)
  | inr e ↦ (let z : said (codes "ok") ≡ said (codes "refused space") = sym shown ∙ e in cc)
])
lacks_if_said (Err refusal.Size) reply shown refused = absurd (elim refused [
  | inl e ↦ (let z : said (codes "refused size") ≡ said (codes "refused proxy") = sym shown ∙ e in cc)
  | inr e ↦ (let z : said (codes "refused size") ≡ said (codes "refused space") = sym shown ∙ e in cc)
])
lacks_if_said (Err refusal.Proxy) reply shown refused = inl refl
lacks_if_said (Err refusal.Space) reply shown refused = inr refl

said_if_lacks : (answer : Result Handle Refusal) (reply : Reply) → reply ≡ said (malloc_text answer) → LacksByNeed answer → RefusesForProxyOrSpace reply
said_if_lacks answer reply shown (inl e) = inl (shown ∙ ap (λ a. said (malloc_text a)) e)
said_if_lacks answer reply shown (inr e) = inr (shown ∙ ap (λ a. said (malloc_text a)) e)

-- The premises: a heap `s` with pages whose kind is `k`, every bound 1, and a malloc of `bytes` bytes that fit a page.
module _ (k : Kind) (paged : IsPaged k) (s : HeapState) (rules : KeepsRules s) (is : s.kind ≡ k) (bytes : ℕ) (ones : EveryBoundIsOne (paging_in s))
    (fits : need bytes ≤ s.profile.page_words) where
  refused_exactly : (answer : Result Handle Refusal) (new : HeapState) (reply : Reply) → IsMallocStep s bytes answer new → reply ≡ said (malloc_text answer)
      → RefusesForProxyOrSpace reply ↔ LacksProxyOrPages s bytes
  refused_exactly answer new reply step shown =
      let needs = refused_by_need k paged s rules is bytes ones fits answer new step in
      ((λ refused. needs.0 (lacks_if_said answer reply shown refused)), (λ wanting. said_if_lacks answer reply shown (needs.1 wanting)))

refuses_at : (k : Kind) (o : Option ℕ) (old : RunState) (asked : Request) (reply : Reply) (new : RunState) → IsPaged k → KeepsRules old.heap → old.heap.kind ≡ k
    → MallocsAt o old asked reply new → RefusesByNeed o old.heap asked.length reply
refuses_at k (Some h) old asked reply new paged rules is step = tt
refuses_at k None old asked reply new paged rules is step = λ ones fits. refused_exactly k paged old.heap rules is asked.length ones fits step.answer new.heap
    reply step.step step.reply_is

-- if every bound is 1, a malloc is refused if and only if `LacksProxyOrPages` holds
pub step_refuses : (old new : RunState) (c : Command) (reply : Reply) → IsPaged old.heap.kind → KeepsRules old.heap → Step old c reply new → Refuses old c reply
step_refuses old new (Malloc id bytes) reply paged rules step =
    refuses_at old.heap.kind (get old.session.ids id) old (record { number = id; length = bytes }) reply new paged rules refl step
step_refuses old new _ reply paged rules step = tt

meets : (k : Kind) (old new : RunState) (c : Command) (reply : Reply) → (IsPaged k → HasFewPages new.heap) → (IsPaged k → Refuses old c reply)
    → MeetsBounds k old c reply new
meets k old new c reply few refuses = by_family (family_of k) refl
  where
    by_family : (f : Family) → family_of k ≡ f → MeetsBounds k old c reply new
    by_family family.paged is = rw (is, MeetsBounds) (few is, refuses is)
    by_family family.tiled is = rw (is, MeetsBounds) tt

-- every step of a run in progress meets the bounds
pub step_meets_bounds : (old new : RunState) (c : Command) (reply : Reply) → IsGoing old → Step old c reply new → MeetsBounds old.heap.kind old c reply new
step_meets_bounds old new c reply going step = meets old.heap.kind old new c reply
    (λ paged. few_pages new.heap (subst IsPaged (sym (step_same old new c reply going.rules step).kind) paged) (step_rules old new c reply going.rules step))
    (λ paged. step_refuses old new c reply paged going.rules step)
