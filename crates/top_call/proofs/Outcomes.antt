-- For each mode: from the contract of the function that it calls (`play_script`, `run_bench`, `save_script`, `load_script`) to
-- `EndsWithCause`: what the mode did, and the cause of its status.
use Rattle.std.proofs.Common.{◌≡◌, ◌<◌, ◌⊎◌, ◌∙◌, arith, ℕ, Bool, List, Option, Some, None, refl, ap, sym, subst, length, get_or, set, map, inl, inr, is_some}
use Rattle.std.proofs.lemmas.List.{get_or-map, length-map, map-set}
use Rattle.run_model.specs.Terms.{closed_state, fresh_session, HeapState, Kind, Moving, RunState, SessionState, SinkFailsIf, SinkState, SourceFailsIf, SourceState, Status}
use Rattle.cf_base.specs.declared.status.Status.TheVariants.{Done, Words, BadScript, ReadFault, WriteFault, OutOfMemory, TooLong, BadImage}
use Rattle.cf_model.specs.Ordered.{KeepsPromise}
use Rattle.cf_session.specs.Apply.{run_at}
use Rattle.script_loop.specs.OneManager.{one_manager}
use Rattle.top_call.specs.Loads.{EndsLoad}
use Rattle.top_call.specs.Saves.{EndsSave}
use Rattle.script_loop.specs.ScriptOutcome.{Effects, HasCauses, MeetsOutcome, is_read_fault, is_write_fault}
use Rattle.script_loop.specs.Semantics.{Semantics}
use Rattle.top_call.proofs.Begun.{begun_side_by_side}
use Rattle.top_call.proofs.FirstOfKindLemmas.{chosen_first, chosen_kinds, chosen_none, chosen_orders, first_within, with_first, with_none}
use Rattle.top_call.specs.FirstOfKind.{chosen_manager, first_of_kind, with_chosen_manager}
use Rattle.top_call.specs.SideBySide.{AreFresh, SideBySide, side_by_side_at, many_managers}
use Rattle.top_call.specs.Bench.{EndsBench}
use Rattle.top_call.specs.declared.choice.Choice.{Choice}
use Rattle.top_call.specs.Outcomes.{Benches, Compares, EndsWithCause, CallState, Loads, OrLacks, PlaysOwn, RunsChosen, Saves, effects_of, call_state}

-- `OrLacks`, if the mode's record `Does` holds and nothing was written if memory ran out
or_lacks : (Does : CallState → Status → CallState → Type 0) (old : CallState) (st : Status) (new : CallState)
    → (st ≡ OutOfMemory → new.sink.written ≡ old.sink.written) → Does old st new → OrLacks Does old st new
or_lacks Does old OutOfMemory new silent done = (silent refl, inr done)
or_lacks Does old _ new silent done = done

-- `EndsWithCause`, if the mode's record `Does` holds, the status has its causes, and the managers' kinds and promises of an order are kept
pub ends_of : (Does : CallState → Status → CallState → Type 0) (s : SourceState) (k : SinkState) (hs : List HeapState) (st : Status) (s' : SourceState)
    (k' : SinkState) (hs' : List HeapState)
    → HasCauses s k st s' k' → map (λ (h : HeapState). h.kind) hs' ≡ map (λ h. h.kind) hs
    → map (λ (h : HeapState). is_some h.order) hs' ≡ map (λ h. is_some h.order) hs → Does (call_state s k hs) st (call_state s' k' hs')
    → EndsWithCause Does (call_state s k hs) st (call_state s' k' hs')
ends_of Does s k hs st s' k' hs' causes kinds orders done = record {
  outcome = or_lacks Does (call_state s k hs) st (call_state s' k' hs') causes.silent done;
  kinds = kinds;
  orders = orders;
  causes = causes;
}

module _ (kind : Kind) (s s' : SourceState) (k k' : SinkState) (st : Status) (causes : HasCauses s k st s' k') (session : SessionState) (end : RunState)
    (fresh : session ≡ fresh_session) where
  -- mode `run` on a manager made for the script, since none of the given managers is of the kind
  pub own_ends : (old : HeapState) → old ≡ closed_state kind → (hs : List HeapState) → first_of_kind kind hs ≡ None
      → one_manager.plan end ≡ one_manager.plan (run_at session old)
      → MeetsOutcome one_manager (run_at session old) (effects_of (call_state s k hs) st (call_state s' k' hs)) end
      → EndsWithCause (RunsChosen kind) (call_state s k hs) st (call_state s' k' hs)
  own_ends old closed hs none plan met = ends_of (RunsChosen kind) s k hs st s' k' hs causes refl refl (record {
    end = end;
    outcome = subst (λ (from : RunState). MeetsOutcome one_manager from (effects_of (call_state s k hs) st (call_state s' k' hs)) end)
        (ap (λ t. run_at t old) fresh ∙ ap (λ h. run_at fresh_session h) (closed ∙ sym (chosen_none kind hs none))) met;
    stand = sym (with_none kind hs end.heap none);
    promise = ap (λ (p : Kind × Bool). p.1) plan ∙ ap (λ (h : HeapState). is_some h.order) (closed ∙ sym (chosen_none kind hs none));
  })

  -- mode `run` on the first manager of the kind
  module _ {X : Type 0} (f : X → HeapState) (ms : List X) (i : ℕ) (x n : X) (first : first_of_kind kind (map f ms) ≡ Some i) (is : x ≡ get_or ms i x)
      (end_is : end.heap ≡ f n) where
    lt : i < length ms
    lt = let within = first_within kind (map f ms) i first in omega (arith, within, length-map ms f)

    seen : chosen_manager kind (map f ms) ≡ f x
    seen = chosen_first kind (map f ms) i first ∙ get_or-map f ms i x (closed_state kind) lt ∙ sym (ap f is)

    stands : map f (set ms i n) ≡ with_chosen_manager kind (map f ms) end.heap
    stands = map-set f ms i n ∙ ap (λ h. set (map f ms) i h) (sym end_is) ∙ sym (with_first kind (map f ms) i end.heap first)

    pub first_ends : one_manager.plan end ≡ one_manager.plan (run_at session (f x))
        → MeetsOutcome one_manager (run_at session (f x)) (effects_of (call_state s k (map f ms)) st (call_state s' k' (map f (set ms i n)))) end
        → EndsWithCause (RunsChosen kind) (call_state s k (map f ms)) st (call_state s' k' (map f (set ms i n)))
    first_ends plan met =
        let promise : KeepsPromise (chosen_manager kind (map f ms)) end.heap =
        ap (λ (p : Kind × Bool). p.1) plan ∙ ap (λ (h : HeapState). is_some h.order) (sym seen) in
        ends_of (RunsChosen kind) s k (map f ms) st s' k' (map f (set ms i n)) causes
        (ap (λ l. map (λ (h : HeapState). h.kind) l) stands
        ∙ chosen_kinds kind (map f ms) end.heap (ap (λ (p : Kind × Bool). p.0) plan ∙ ap (λ (h : HeapState). h.kind) (sym seen)))
        (ap (λ l. map (λ (h : HeapState). is_some h.order) l) stands ∙ chosen_orders kind (map f ms) end.heap promise)
        (record {
          end = end;
          outcome = subst (λ (from : RunState). MeetsOutcome one_manager from (effects_of (call_state s k (map f ms)) st (call_state s' k' (map f (set ms i n)))) end)
              (ap (λ t. run_at t (f x)) fresh ∙ ap (λ h. run_at fresh_session h) (sym seen)) met;
          stand = stands;
          promise = promise;
        })

-- mode `compare`
pub each_ends : (s s' : SourceState) (k k' : SinkState) (st : Status) (causes : HasCauses s k st s' k') → {X : Type 0} (f : X → HeapState)
    (ss : List SessionState) (ms : List X) → AreFresh (length ms) ss → (ss' : List SessionState) (ms' : List X)
    → many_managers.plan (side_by_side_at ss' (map f ms')) ≡ many_managers.plan (side_by_side_at ss (map f ms))
    → MeetsOutcome many_managers (side_by_side_at ss (map f ms)) (effects_of (call_state s k (map f ms)) st (call_state s' k' (map f ms'))) (side_by_side_at ss' (map f ms'))
    → EndsWithCause Compares (call_state s k (map f ms)) st (call_state s' k' (map f ms'))
each_ends s s' k k' st causes f ss ms started ss' ms' plan met =
    ends_of Compares s k (map f ms) st s' k' (map f ms') causes (ap (λ (p : List Kind × List Bool). p.0) plan)
    (ap (λ (p : List Kind × List Bool). p.1) plan) (record {
      end = side_by_side_at ss' (map f ms');
      outcome = subst
          (λ (from : SideBySide). MeetsOutcome many_managers from (effects_of (call_state s k (map f ms)) st (call_state s' k' (map f ms'))) (side_by_side_at ss' (map f ms')))
          (begun_side_by_side f ss ms started) met;
      stand = refl;
    })

-- how a bench may end
bench_status : (st : Status) (seed count : ℕ) (from to : RunState) (before after : Option (List ℕ)) → EndsBench st seed count from to before after
    → (st ≡ Done) ⊎ ((st ≡ WriteFault) ⊎ ((st ≡ OutOfMemory) × (after ≡ before)))
bench_status Done seed count from to before after done = inl refl
bench_status WriteFault seed count from to before after done = inr (inl refl)
bench_status OutOfMemory seed count from to before after done = inr (inr (refl, done.unwritten))
bench_status _ seed count from to before after done = absurd done.written

-- mode `bench`
module _ (choice : Choice) (k k' : SinkState) (st : Status) (session : SessionState) (old : HeapState) (end : RunState) (fresh : session ≡ fresh_session)
    (closed : old ≡ closed_state choice.kind) (promise : KeepsPromise old end.heap) (outcome : EndsBench st choice.seed choice.count (run_at session old) end k.written k'.written)
    (fault : SinkFailsIf (is_write_fault st) k k') where
  ended : (st ≡ Done) ⊎ ((st ≡ WriteFault) ⊎ ((st ≡ OutOfMemory) × (k'.written ≡ k.written)))
  ended = bench_status st choice.seed choice.count (run_at session old) end k.written k'.written outcome

  silent : (st ≡ Done) ⊎ ((st ≡ WriteFault) ⊎ ((st ≡ OutOfMemory) × (k'.written ≡ k.written))) → st ≡ OutOfMemory → k'.written ≡ k.written
  silent (inl d) is = absurd (let e : Done ≡ OutOfMemory = sym d ∙ is in cc)
  silent (inr (inl w)) is = absurd (let e : WriteFault ≡ OutOfMemory = sym w ∙ is in cc)
  silent (inr (inr o)) is = o.1

  unread : (st ≡ Done) ⊎ ((st ≡ WriteFault) ⊎ ((st ≡ OutOfMemory) × (k'.written ≡ k.written))) → (s : SourceState) → SourceFailsIf (is_read_fault st) s s
  unread (inl d) s = subst (λ (t : Status). SourceFailsIf (is_read_fault t) s s) (sym d) refl
  unread (inr (inl w)) s = subst (λ (t : Status). SourceFailsIf (is_read_fault t) s s) (sym w) refl
  unread (inr (inr o)) s = subst (λ (t : Status). SourceFailsIf (is_read_fault t) s s) (sym o.0) refl

  short : (st ≡ Done) ⊎ ((st ≡ WriteFault) ⊎ ((st ≡ OutOfMemory) × (k'.written ≡ k.written))) → st ≡ TooLong → ⊥
  short (inl d) is = let e : Done ≡ TooLong = sym d ∙ is in cc
  short (inr (inl w)) is = let e : WriteFault ≡ TooLong = sym w ∙ is in cc
  short (inr (inr o)) is = let e : OutOfMemory ≡ TooLong = sym o.0 ∙ is in cc

  pub bench_done : (s : SourceState) (hs : List HeapState) → EndsWithCause (Benches choice) (call_state s k hs) st (call_state s k' hs)
  bench_done s hs = ends_of (Benches choice) s k hs st s k' hs
      (record { silent = silent ended; source_fault = unread ended s; sink_fault = fault; too_long = λ is. absurd (short ended is) })
      refl refl
      (record {
        end = end;
        outcome = subst (λ (from : RunState). EndsBench st choice.seed choice.count from end k.written k'.written)
            (ap (λ t. run_at t old) fresh ∙ ap (λ h. run_at fresh_session h) closed) outcome;
        ordered = promise ∙ ap (λ (h : HeapState). is_some h.order) closed;
        unread = refl;
        untouched = refl;
      })

-- a mode that runs a script on a heap of its own
pub made_ends : {S P : Type 0} (m : Semantics S P) (IsMade : S → Type 0) (s s' : SourceState) (k k' : SinkState) (hs : List HeapState) (st : Status)
    → HasCauses s k st s' k' → (begin end : S) → IsMade begin → MeetsOutcome m begin (effects_of (call_state s k hs) st (call_state s' k' hs)) end
    → EndsWithCause (PlaysOwn m IsMade) (call_state s k hs) st (call_state s' k' hs)
made_ends m IsMade s s' k k' hs st causes begin end made met = ends_of (PlaysOwn m IsMade) s k hs st s' k' hs causes refl refl
    (record { begin = begin; made = made; end = end; outcome = met; untouched = refl })

-- modes `save` and `load`, on a moving manager that was made for them, with a new session
module _ (s s' : SourceState) (k k' : SinkState) (hs : List HeapState) (st : Status) (session : SessionState) (old : HeapState) (end : RunState)
    (fresh : session ≡ fresh_session) (closed : old ≡ closed_state Moving) where
  begun : run_at session old ≡ run_at fresh_session (closed_state Moving)
  begun = ap (λ t. run_at t old) fresh ∙ ap (λ h. run_at fresh_session h) closed

  abbrev call : Effects
  call = effects_of (call_state s k hs) st (call_state s' k' hs)

  -- mode `save`
  pub saved_ends : HasCauses s k st s' k' → KeepsPromise old end.heap → EndsSave (run_at session old) call end → EndsWithCause Saves (call_state s k hs) st (call_state s' k' hs)
  saved_ends causes promise ends = ends_of Saves s k hs st s' k' hs causes refl refl (record {
    end = end;
    outcome = subst (λ (from : RunState). EndsSave from call end) begun ends;
    ordered = promise ∙ ap (λ (h : HeapState). is_some h.order) closed;
    untouched = refl;
  })

  abbrev call_as : Status → Effects
  call_as st = effects_of (call_state s k hs) st (call_state s' k' hs)

  -- mode `load`
  pub loaded_ends : SourceFailsIf (is_read_fault st) s s' → SinkFailsIf (is_write_fault st) k k' → EndsLoad (run_at session old) call end
      → EndsWithCause Loads (call_state s k hs) st (call_state s' k' hs)
  loaded_ends source sink ends = ends_of Loads s k hs st s' k' hs
      (record {
        silent = λ is. (subst (λ (st : Status). EndsLoad (run_at session old) (call_as st) end) is ends).1;
        source_fault = source;
        sink_fault = sink;
        too_long = λ is. absurd (subst (λ (st : Status). EndsLoad (run_at session old) (call_as st) end) is ends);
      }) refl refl
      (record { end = end; outcome = subst (λ (from : RunState). EndsLoad from call end) begun ends; untouched = refl })
