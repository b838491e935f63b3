-- For `heaps.rt`, `by_numbers.rt` and `budget_certificate.rt`: a run of a manager with pages is a run of the page model. So if the model's runs refuse no
-- malloc or resize for space, or never must move an object, the same holds of the manager.
use Rattle.std.proofs.Common.{◌≡◌, ◌≢◌, ℕ, List, [], ◌∷◌, Option, Some, None, Ok, Err, replicate, arith, ap, sym, ◌∙◌, inl, inr, refl, subst}
use Rattle.std.specs.Prelude.{◌⊎◌}
use Rattle.std.specs.FinMap.{empty, get, insert}
use Rattle.cf_base.specs.declared.results.Freed.{Freed}
use Rattle.cf_base.specs.declared.results.Handle.{Handle}
use Rattle.cf_base.specs.declared.results.Refusal.TheVariants as refusal
use Rattle.cf_base.specs.declared.results.ResizeFault.TheVariants as resize
use Rattle.cf_base.proofs.Searches.{fresh_key}
use Rattle.page_model.specs.Arrangement.{LacksRoom, class_at}
use Rattle.page_model.specs.Bytes.{written}
use Rattle.page_model.specs.Held.{Held, Objects, Placed, objects}
use Rattle.page_model.specs.Paging.{IsPaging, Paging, class_for}
use Rattle.page_model.specs.Steps.{Moves, MustMove, RemovesObject, Request, resized}
use Rattle.page_model.proofs.CallerLemmas.{class_fits, length-written}
use Rattle.cf_model.specs.Rules.{IsPaged, KeepsRulesOf}
use Rattle.cf_model.specs.State.{HeapState, paging_in}
use Rattle.cf_model.specs.Steps.{ChangesCost, IsFreeStep, IsLeftByRefusal, IsMallocStep, IsResizeStep, LacksRoomIn, number_of}
use Rattle.cf_model.proofs.PageSteps.{free_removes, malloc_places}
use Rattle.sizing.specs.Heaps.{AnsweredCall, HeapRun, IsFresh, Leads, free_with, malloc_with, resize_with, write_with}
use Rattle.sizing.specs.Runs.{Does, HeapCall, RunCalls, ServesMallocs, ServesResizes, free_of, malloc_of, resize_of, write_of}

-- a call of the manager keeps kind and pages, and is a call of the page model, unless it leaves the objects as they are
record IsTurned (old new : HeapState) : Type 0 where
  kind : new.kind ≡ old.kind
  pages : paging_in new ≡ paging_in old
  step : (new.held ≡ old.held) ⊎ ((c : HeapCall) × Does (paging_in old) old.held c new.held)

only_cost : (old new : HeapState) → ChangesCost old new → IsTurned old new
only_cost old new is = record { kind = ap (λ (s : HeapState). s.kind) is; pages = ap paging_in is; step = inl (ap (λ (s : HeapState). s.held) is) }

turned : (old new : HeapState) (call : AnsweredCall) → IsPaged old.kind → Leads old call new → IsTurned old new
turned old new (malloc_with bytes (Ok h)) is step = record {
  kind = ap (λ (s : HeapState). s.kind) step.whole;
  pages = ap paging_in step.whole;
  step = inr (malloc_of h.0 bytes, malloc_places old new (record { number = h.0; length = bytes }) is step);
}
turned old new (malloc_with bytes (Err e)) is step = only_cost old new step.1
turned old new (free_with h (Ok done)) is step =
    let rest = step.rest in record {
      kind = rest.kind;
      pages = (λ i. paging_in (record old { kind = rest.kind i; profile = rest.profile i; bounds = rest.bounds i }));
      step = inr (free_of h, (number_of done.moved, free_removes old new h done is step));
    }
turned old new (free_with h (Err e)) is step = only_cost old new step.1
turned old new (resize_with asked (Ok done)) is step = record {
  kind = ap (λ (s : HeapState). s.kind) step.whole;
  pages = ap paging_in step.whole;
  step = inr (resize_of asked.number asked.length, (number_of done.moved, step.step));
}
turned old new (resize_with asked (Err e)) is step = only_cost old new (rw (is, IsLeftByRefusal) at step.1)
turned old new (write_with at bytes (Ok u)) is step = record {
  kind = ap (λ (s : HeapState). s.kind) step.whole;
  pages = ap paging_in step.whole;
  step = inr (
    write_of at.number (written step.object.bytes at.from bytes),
    record {
      object = step.object;
      found = step.found;
      long = length-written _ _ _ step.within;
      left = ap (λ (s : HeapState). s.held) step.whole;
    },
  );
}
turned old new (write_with at bytes (Err e)) is step = record {
  kind = ap (λ (s : HeapState). s.kind) step.1;
  pages = ap paging_in step.1;
  step = inl (ap (λ (s : HeapState). s.held) step.1);
}

-- calls of the page model that lead from the objects m to those of the state
record IsRun (p : Paging) (allowed : Objects → Type 0) (m : Held) (last : HeapState) : Type 0 where
  calls : List HeapCall
  run : RunCalls p allowed m calls last.held
  kind : IsPaged last.kind
  pages : paging_in last ≡ p

is_run : (p : Paging) (allowed : Objects → Type 0) (calls : List AnsweredCall) (s last : HeapState) → IsPaged s.kind → paging_in s ≡ p → HeapRun allowed s calls last
    → IsRun p allowed s.held last
is_run p allowed [] s last kind pages run = record {
  calls = [];
  run = ap (λ (t : HeapState). t.held) run;
  kind = subst (λ (t : HeapState). IsPaged t.kind) (sym run) kind;
  pages = ap paging_in run ∙ pages;
}
is_run p allowed (call ∷ rest) s last kind pages run =
    let t = turned s run.0 call kind run.1 in
    let r = is_run p allowed rest run.0 last (subst IsPaged (sym t.kind) kind) (t.pages ∙ pages) run.3 in
    elim t.step [
      | inl same ↦ record { calls = r.calls; run = subst (λ m. RunCalls p allowed m r.calls last.held) same r.run; kind = r.kind; pages = r.pages }
      | inr (c, does) ↦ record {
        calls = c ∷ r.calls;
        run = ((run.0).held, subst (λ q. Does q s.held c (run.0).held) pages does, run.2, r.run);
        kind = r.kind;
        pages = r.pages;
      }
    ]

module _ (allowed : Objects → Type 0) (s : HeapState) (calls : List AnsweredCall) (last new : HeapState) (fresh : IsFresh s) (run : HeapRun allowed s calls last) where
  pub paging_at : IsPaging (paging_in s)
  paging_at = (let rules = fresh.rules in let is = fresh.pages in let r = rw (is, KeepsRulesOf) at rules.of_kind in let k = r.0 in k.paging)

  run_at : IsRun (paging_in s) allowed empty last
  run_at = subst (λ m. IsRun (paging_in s) allowed m last) fresh.none (is_run (paging_in s) allowed calls s last fresh.pages refl run)

  -- a malloc that is refused for space lacks a slot
  pub no_malloc_refused : ServesMallocs (paging_in s) allowed → (n : ℕ) → ((h : ℕ) → get last.held h ≡ None → allowed (insert (objects last.held) h (replicate n 0)))
      → ¬ IsMallocStep last n (Err refusal.Space) new
  no_malloc_refused serves n asked step =
      let at = run_at in
      let lacks = step.0 in
      let is = at.kind in
      let words : (paging_in s).page_words ≡ last.profile.page_words = sym (ap (λ (q : Paging). q.page_words) at.pages) in
      let h = fresh_key last.profile.proxies last.held lacks.few in
      let room : LacksRoom (paging_in last) last.held (class_for (paging_in last) n) = rw (is, LacksRoomIn) at lacks.lacking in
      serves at.calls last.held h.0 n at.run (record {
        unused = h.2;
        fits = class_fits (paging_in s) paging_at n (let f = lacks.fits in omega arith);
        asked = asked h.0 h.2;
        lacking = subst (λ q. LacksRoom q last.held (class_for q n)) at.pages room;
      })

  pub no_resize_refused : ServesResizes (paging_in s) allowed → (r : Request)
      → ((x : Placed) → get last.held r.number ≡ Some x → allowed (insert (objects last.held) r.number (resized x.bytes r.length)))
      → ¬ IsResizeStep last r (Err resize.Space) new
  no_resize_refused serves r asked step =
      let at = run_at in
      let lacks = step.0 in
      let words : (paging_in s).page_words ≡ last.profile.page_words = sym (ap (λ (q : Paging). q.page_words) at.pages) in
      serves at.calls last.held r.number r.length at.run (record {
        object = lacks.object;
        found = lacks.found;
        other = subst (λ q. class_for q r.length ≢ class_at q lacks.object) at.pages lacks.other;
        fits = class_fits (paging_in s) paging_at r.length (let f = lacks.fits in omega arith);
        asked = asked lacks.object lacks.found;
        lacking = subst (λ q. LacksRoom q last.held (class_for q r.length)) at.pages lacks.lacking;
      })

  -- if along runs of the page model nothing must move, no free moves an object
  pub no_free_moves : ((steps : List HeapCall) (m : Held) → RunCalls (paging_in s) allowed empty steps m → (h : ℕ) (x : Placed) → get m h ≡ Some x
      → ¬ MustMove (paging_in s) m x) → (h : ℕ) (done : Freed) → IsFreeStep last h (Ok done) new → done.moved ≡ None
  no_free_moves never h done step =
      let at = run_at in
      let removes = subst (λ q. RemovesObject q last.held h (record { held = new.held; moved = number_of done.moved })) at.pages (free_removes last new h done at.kind step) in
      still done.moved removes.moves (never at.calls last.held at.run h removes.freed removes.found)
    where
      still : {x : Placed} (moved : Option Handle) → Moves (paging_in s) last.held x (number_of moved) → (¬ MustMove (paging_in s) last.held x) → moved ≡ None
      still None moves never = refl
      still (Some g) moves never = absurd (never moves.0)
