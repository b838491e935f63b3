-- For `no_call_within_the_needs_lacks_space`: the calls of C are calls of the manager, or leave its heap as it is; so a malloc or resize within the needs is
-- not refused for lack of space.
use Rattle.std.proofs.Common.{◌≡◌, ◌≢◌, ℕ, ℤ, pos, ◌/◌, ◌≤◌, ◌++◌, List, [], ◌∷◌, None, Some, Option, Bool, true, false, replicate, arith, ap, refl, sym, ◌∙◌, subst}
use Rattle.std.proofs.lemmas.Bool.{eqb-true}
use Rattle.std.specs.Prelude.{Result, Ok, Err, if◌then◌else◌, nat_eq, nat_lt}
use Rattle.std.specs.FinMap.{empty_of_len, get, insert, len}
use Rattle.cf_base.specs.Settings.{Profile}
use Rattle.cf_base.specs.declared.results.Handle.{Handle}
use Rattle.cf_base.specs.declared.results.Refusal.{Refusal}
use Rattle.cf_base.specs.declared.results.Refusal.TheVariants as refusal
use Rattle.cf_base.specs.declared.results.Resized.{Resized}
use Rattle.cf_base.specs.declared.results.ResizeFault.{ResizeFault}
use Rattle.cf_base.specs.declared.results.ResizeFault.TheVariants as resize
use Rattle.cf_base.specs.declared.kind.Kind.{Kind}
use Rattle.cf_model.specs.Answers.{class_with, with_bound}
use Rattle.cf_model.specs.Bounds.{Bounds}
use Rattle.cf_model.specs.Rules.{IsPaged}
use Rattle.cf_model.specs.State.{HeapState, layout_of}
use Rattle.cf_model.specs.Steps.{IsMallocStep, IsResizeStep, Position}
use Rattle.page_model.specs.Held.{Placed, objects}
use Rattle.page_model.specs.Steps.{Request, resized}
use Rattle.quota_model.specs.declared.results.Need.{Need}
use Rattle.sizing.specs.Demands.{KeepsTo}
use Rattle.sizing.specs.Heaps.{AnsweredCall, HeapRun, IsFresh, Leads, free_with, malloc_with, resize_with, write_with}
use Rattle.held_heap.specs.Bound.{IsBoundCall, bound_code, class_with_bound}
use Rattle.held_heap.specs.Calls.{IsFreshHeap, IsMallocCall, IsResizeCall}
use Rattle.c_base.specs.Codes.{malloc_code, resize_code}
use Rattle.c_base.specs.Handles.{number_in}
use Rattle.held_heap.specs.HeldState.{HeldState}
use Rattle.held_heap.specs.PagesNeeded.{AreLeastPages, CCall, CallRun, bound_call, free_call, malloc_call, other_call, resize_call, write_call}
use Rattle.c_base.specs.declared.results.NphResized.{NphResized}
use Rattle.held_heap.proofs.SettingsStay.{free_settings, malloc_settings, resize_settings, settings, write_settings}

-- the kind and the settings of a heap with pages
module _ (kind : Kind) (p : Profile) (most : Option Bounds) (needs : List Need) (paged : IsPaged kind) where
  -- a run of the manager leads to s, from a heap without objects: that which was opened, or that whose bounds were set last
  record Reached (s : HeapState) : Type 0 where
    start : HeapState
    fresh : IsFresh start
    begins : settings start ≡ (kind, p)
    done : List AnsweredCall
    run : HeapRun (KeepsTo needs) start done s
    here : settings s ≡ (kind, p)

  one_more : (s mid next : HeapState) (done : List AnsweredCall) (call : AnsweredCall) → HeapRun (KeepsTo needs) s done mid → Leads mid call next
      → KeepsTo needs (objects next.held) → HeapRun (KeepsTo needs) s (done ++ call ∷ []) next
  one_more s mid next [] call run leads within = (next, subst (λ (h : HeapState). Leads h call next) run leads, within, refl)
  one_more s mid next (first ∷ rest) call run leads within = (run.0, run.1, run.2, one_more run.0 mid next rest call run.3 leads within)

  then_call : (s next : HeapState) → Reached s → (call : AnsweredCall) → Leads s call next → KeepsTo needs (objects next.held) → settings next ≡ settings s → Reached next
  then_call s next r call leads within stay = record {
    start = r.start;
    fresh = r.fresh;
    begins = r.begins;
    done = r.done ++ call ∷ [];
    run = one_more r.start s next r.done call r.run leads within;
    here = stay ∙ r.here;
  }

  same_heap : (s next : HeapState) → Reached s → next ≡ s → Reached next
  same_heap s next r is = subst Reached (sym is) r

  -- a heap that gets a bound has no objects
  no_object : (a b d : Bool) (o : Option ℕ) (c : ℕ) → (if a then (if b then (if d then o else None) else None) else None) ≡ Some c → d ≡ true
  no_object true true true o c is = refl
  no_object true true false o c is = absurd (let e : None ≡ Some c = is in cc)
  no_object true false d o c is = absurd (let e : None ≡ Some c = is in cc)
  no_object false b d o c is = absurd (let e : None ≡ Some c = is in cc)

  -- a heap whose bound was set has no objects, so a run begins there
  anew : (old new : HeldState) (words k : ℕ) (code : ℤ) → Reached old.heap → IsBoundCall old words k code new → (o : Option ℕ) → class_with_bound old.heap words k ≡ o
      → Reached new.heap
  anew old new words k code r call None is =
      same_heap old.heap new.heap r (ap (λ (h : HeldState). h.heap) call.whole ∙ ap (λ (o : Option ℕ). with_bound old.heap o k) is)
  anew old new words k code r call (Some c) is =
      let heap : new.heap ≡ with_bound old.heap (Some c) k = ap (λ (h : HeldState). h.heap) call.whole ∙ ap (λ (o : Option ℕ). with_bound old.heap o k) is in
      let stay : settings new.heap ≡ (kind, p) = ap settings heap ∙ r.here in
      let none : len old.heap.held ≡ 0 =
      eqb-true (len old.heap.held) 0 (no_object (nat_lt 0 k) (nat_lt k 65) (nat_eq (len old.heap.held) 0) (class_with old.heap.kind old.heap words) c is) in
      record {
        start = new.heap;
        fresh = record {
          pages = subst IsPaged (sym (ap (λ (q : Kind × Profile). q.0) stay)) paged;
          rules = call.rules (call.by_code ∙ ap (bound_code old.heap k) is);
          none = ap (λ (s : HeapState). s.held) heap ∙ empty_of_len old.heap.held none;
        };
        begins = stay;
        done = [];
        run = refl;
        here = stay;
      }

  reached : (s last : HeldState) (calls : List CCall) → Reached s.heap → CallRun most needs s calls last → Reached last.heap
  reached s last [] r run = same_heap s.heap last.heap r (ap (λ (h : HeldState). h.heap) run)
  reached s last (malloc_call bytes before code after ∷ rest) r run =
      reached run.0 last rest (then_call s.heap (run.0).heap r (malloc_with bytes (run.1).answer) (run.1).step run.2
      (malloc_settings s.heap (run.0).heap bytes (run.1).answer (run.1).step)) run.3
  reached s last (free_call handle before code after ∷ rest) r run =
      reached run.0 last rest (then_call s.heap (run.0).heap r (free_with (number_in s.handles handle) (run.1).answer) (run.1).step run.2
      (free_settings s.heap (run.0).heap (number_in s.handles handle) (run.1).answer (run.1).step)) run.3
  reached s last (resize_call handle bytes before code after ∷ rest) r run =
      let asked : Request = record { number = number_in s.handles handle; length = bytes } in
      reached run.0 last rest (then_call s.heap (run.0).heap r (resize_with asked (run.1).answer) (run.1).step run.2
      (resize_settings s.heap (run.0).heap asked (run.1).answer (run.1).step)) run.3
  reached s last (write_call handle from bytes code ∷ rest) r run =
      let at : Position = record { number = number_in s.handles handle; from = from } in
      reached run.0 last rest (then_call s.heap (run.0).heap r (write_with at bytes (run.1).answer) (run.1).step run.2
      (write_settings s.heap (run.0).heap at bytes (run.1).answer (run.1).step)) run.3
  reached s last (bound_call words k code ∷ rest) r run =
      reached run.0 last rest (anew s run.0 words k code r run.1 (class_with_bound s.heap words k) refl) run.3
  reached s last (other_call ∷ rest) r run = reached run.0 last rest (same_heap s.heap (run.0).heap r run.1) run.3

module _ (kind : Kind) (p : Profile) (last page_bytes pages : ℕ) (needs : List Need) (most : Option Bounds) (first old new : HeldState) (calls : List CCall)
    (paged : IsPaged kind) (fresh : IsFreshHeap kind p last first) (sure : AreLeastPages (layout_of kind) page_bytes needs pages)
    (words : p.page_words ≡ page_bytes / 8) (le : pages ≤ p.pages) (run : CallRun most needs first calls old) where
  opened : Reached kind p most needs paged first.heap
  opened =
      let begins : settings first.heap ≡ (kind, p) = ap settings fresh.whole in
      record {
        start = first.heap;
        fresh = record {
          pages = subst IsPaged (sym (ap (λ (q : Kind × Profile). q.0) begins)) paged;
          rules = fresh.rules;
          none = ap (λ (s : HeapState). s.held) fresh.whole;
        };
        begins = begins;
        done = [];
        run = refl;
        here = begins;
      }

  now : Reached kind p most needs paged old.heap
  now = reached kind p most needs paged first old calls opened run

  of_kind : now.start.kind ≡ kind
  of_kind = ap (λ (q : Kind × Profile). q.0) now.begins

  of_profile : now.start.profile ≡ p
  of_profile = ap (λ (q : Kind × Profile). q.1) now.begins

  enough : pages ≤ now.start.profile.pages
  enough = (let e = ap (λ (q : Profile). q.pages) of_profile in omega arith)

  pub malloc_served : (bytes before after : ℕ) (code : ℤ)
      → ((h : ℕ) → get old.heap.held h ≡ None → KeepsTo needs (insert (objects old.heap.held) h (replicate bytes 0)))
      → IsMallocCall most old bytes before code after new → code ≢ pos 3
  malloc_served bytes before after code asked call is = refused call.answer (sym call.by_code ∙ is) call.step
    where
      refused : (answer : Result Handle Refusal) → malloc_code answer ≡ pos 3 → IsMallocStep old.heap bytes answer new.heap → ⊥
      refused (Ok h) is step = (let e : pos 0 ≡ pos 3 = is in cc)
      refused (Err refusal.Size) is step = (let e : pos 1 ≡ pos 3 = is in cc)
      refused (Err refusal.Proxy) is step = (let e : pos 2 ≡ pos 3 = is in cc)
      refused (Err refusal.Space) is step =
          sure.mallocs now.start now.fresh (ap layout_of of_kind) (ap (λ (q : Profile). q.page_words) of_profile ∙ words) enough
          now.done old.heap new.heap bytes now.run asked step

  pub resize_served : (handle bytes : ℕ) (before after : NphResized) (code : ℤ)
      → ((x : Placed) → get old.heap.held (number_in old.handles handle) ≡ Some x
      → KeepsTo needs (insert (objects old.heap.held) (number_in old.handles handle) (resized x.bytes bytes)))
      → IsResizeCall most old handle bytes before code after new → code ≢ pos 3
  resize_served handle bytes before after code asked call is = refused call.answer (sym call.by_code ∙ is) call.step
    where
      refused : (answer : Result Resized ResizeFault) → resize_code answer ≡ pos 3
          → IsResizeStep old.heap (record { number = number_in old.handles handle; length = bytes }) answer new.heap → ⊥
      refused (Ok done) is step = (let e : pos 0 ≡ pos 3 = is in cc)
      refused (Err resize.Unknown) is step = (let e : pos 4 ≡ pos 3 = is in cc)
      refused (Err resize.Kind) is step = (let e : pos 6 ≡ pos 3 = is in cc)
      refused (Err resize.Size) is step = (let e : pos 1 ≡ pos 3 = is in cc)
      refused (Err resize.Space) is step =
          sure.resizes now.start now.fresh (ap layout_of of_kind) (ap (λ (q : Profile). q.page_words) of_profile ∙ words) enough
          now.done old.heap new.heap (record { number = number_in old.handles handle; length = bytes }) now.run asked step
