-- If every bound is 1, a manager with pages refuses a malloc that fits a page if and only if all proxies are in use or the objects with the new one need more
-- pages than there are.
use Rattle.std.proofs.Common.{◌≡◌, ℕ, ◌<◌, ◌≤◌, Result, Ok, Err, arith, sym, subst, inl, inr, refl}
use Rattle.std.specs.Prelude.{◌↔◌, ◌⊎◌}
use Rattle.cf_base.specs.Classes.{need}
use Rattle.cf_base.specs.declared.results.Handle.{Handle}
use Rattle.cf_base.specs.declared.results.Refusal.{Refusal}
use Rattle.cf_base.specs.declared.results.Refusal.TheVariants as refusal
use Rattle.cf_base.specs.declared.kind.Kind.{Kind}
use Rattle.page_model.specs.Arrangement.{LacksRoom, pages_needed_with}
use Rattle.page_model.specs.Held.{objects}
use Rattle.page_model.specs.Paging.{EveryBoundIsOne, class_for}
use Rattle.page_model.specs.Steps.{IsFreePlace, Request}
use Rattle.page_model.proofs.CallerLemmas.{class_fits, lacks_room_at_one, place_is_room}
use Rattle.cf_model.specs.Rules.{IsPaged, KeepsPages, KeepsRules}
use Rattle.cf_model.specs.State.{HeapState, paging_in}
use Rattle.cf_model.specs.Steps.{IsMallocStep, IsPlacedBy, LacksRoomIn}
use Rattle.cf_model.proofs.CallerLemmas.{pages_kept}
use Rattle.id_table.specs.Named.{LacksProxyOrPages}

-- the result of a malloc is a refusal for a proxy or for space
abbrev pub LacksByNeed : Result Handle Refusal → Type 0
LacksByNeed answer = (answer ≡ Err refusal.Proxy) ⊎ (answer ≡ Err refusal.Space)

-- The premises: a heap `s` with pages whose kind is `k`, every bound 1, and a malloc of `bytes` bytes that fit a page.
module _ (k : Kind) (paged : IsPaged k) (s : HeapState) (rules : KeepsRules s) (is : s.kind ≡ k) (bytes : ℕ) (ones : EveryBoundIsOne (paging_in s))
    (fits : need bytes ≤ s.profile.page_words) where
  pages : KeepsPages s
  pages = pages_kept s.kind s (subst IsPaged (sym is) paged) rules.of_kind

  -- no slot is left if and only if the objects with the new one need more pages than there are
  by_need : LacksRoom (paging_in s) s.held (class_for (paging_in s) bytes) ↔ (s.profile.pages < pages_needed_with (paging_in s) (objects s.held) bytes)
  by_need = lacks_room_at_one (paging_in s) pages.paging ones s.held pages.sound bytes (class_fits (paging_in s) pages.paging bytes fits)

  lacking_in : (j : Kind) → IsPaged j → LacksRoomIn j s bytes → LacksRoom (paging_in s) s.held (class_for (paging_in s) bytes)
  lacking_in j p l = rw (p, LacksRoomIn) at l

  placed_in : (j : Kind) (asked : Request) (place : ℕ) (new : HeapState) → IsPaged j → IsPlacedBy j s asked place new
      → IsFreePlace (paging_in s) s.held asked.length place
  placed_in j asked place new p there = rw (p, IsPlacedBy) at there

  pub refused_by_need : (answer : Result Handle Refusal) (new : HeapState) → IsMallocStep s bytes answer new → LacksByNeed answer ↔ LacksProxyOrPages s bytes
  refused_by_need (Ok h) new step = (
    (λ refused. absurd (elim refused [
      | inl e ↦ (let z : Ok h ≡ Err refusal.Proxy = e in cc)
      | inr e ↦ (let z : Ok h ≡ Err refusal.Space = e in cc)
    ])),
    (λ wanting. absurd (elim wanting [
      | inl all ↦ (let few = step.few in omega arith)
      | inr more ↦ place_is_room (paging_in s) s.held bytes step.place
          (placed_in s.kind (record { number = h.0; length = bytes }) step.place new (subst IsPaged (sym is) paged) step.placed) (by_need.1 more)
    ])),
  )
  refused_by_need (Err refusal.Size) new step = absurd (let large = step.0 in omega arith)
  refused_by_need (Err refusal.Proxy) new step = ((λ _. inl step.0.all), (λ _. inl refl))
  refused_by_need (Err refusal.Space) new step = (
    (λ _. inr (by_need.0 (lacking_in s.kind (subst IsPaged (sym is) paged) step.0.lacking))),
    (λ _. inr refl),
  )
