-- A run over long objects: its invariant, its `heap` line, its commands, and that it can be continued.
use Rattle.std.proofs.Common.{◌≡◌, ℕ, List, Some, None, length, sym, ap, refl, subst, [], ◌+◌, arith, inl, inr, Option, Result, Ok, Err, true, codes}
use Rattle.run_model.specs.Terms.{AccessFault, AreInRange, at_bound_one, Command, empty, Failed, Frag, Handle, HeapState, Ids, IsPaged, Kind, led, Position, Profile, profile_of, Refusal, Reply, said, SinkState, Walk, Writes}
use Rattle.large_objects.specs.Large.{LargeState, KeepsParts}
use Rattle.large_objects.specs.LargeSteps.{FreesLarge, IsLargeFault, IsLargeMalloc, IsLargeWrite, StaysKept, IsEmptyLarge}
use Rattle.large_session.specs.LargeRun.{IsReadyLarge, LargeRun, large_calls, IsGoingLarge, LargeStep, large_run, large_shown}
use Rattle.script_laws.proofs.CallerLemmas.{FreesOn, IsAccessFault, KeepsObjects, MallocsOn, WritesOn, malloc_refused, turn, still_going, CanGoOn, begin_exists, HasCalls, can_go_on}
use Rattle.cf_base.specs.declared.settings.Settings.{Settings}
use Rattle.cf_model.specs.Steps.{IsOpeningOrder, IsOpeningWords, ordered_heap, IsEmptyHeap}
use Rattle.id_table.proofs.CallerLemmas.{none_tied}
use Rattle.large_session.specs.Playing.{BeginsLarge, large_heap, BeginsAtOne}
use Rattle.cf_session.specs.Apply.{IsEnded}
use Rattle.cf_session.proofs.CallerLemmas.{frag_other, walk_other}
use Rattle.cf_session.specs.declared.outcome.Outcome.{Outcome}
use Rattle.cf_session.specs.declared.outcome.Outcome.TheVariants.{Other}
use Rattle.run_model.specs.Reports.{frag_of, walk_of}
use Rattle.script_loop.specs.Semantics.{Snapshot, snapshot}
use Rattle.script_loop.specs.Applying.{Applies}
use Rattle.script_loop.proofs.CallerLemmas.{reported}
use Rattle.std.proofs.lemmas.Bool.{cases_lt}
use Rattle.cf_base.specs.Maps.{vacant}
use Rattle.large_objects.proofs.CallerLemmas.{parts as empty_parts}
use Rattle.large_session.proofs.LargeThere.{free_there, kept_same, malloc_there, room_or_cause, write_there}
use Rattle.cf_base.specs.declared.results.AccessFault.TheVariants as access

-- After each command of a run over long objects its heap is open and keeps its rules, and the ids name its objects (`IsGoingLarge`); and what each command
-- does to the ids and the objects that they name.

-- what each call keeps: the heap is ready, and its inner manager has the same kind and settings
pub record StaysReady (old new : LargeState) : Type 0 where
  pub ready : IsReadyLarge new
  pub kind : new.inner.kind ≡ old.inner.kind
  pub profile : new.inner.profile ≡ old.inner.profile

stays_ready : (old new : LargeState) → StaysKept old new → StaysReady old new
stays_ready old new k = record {
  ready = record { opened = k.stays.open_now; parts = k.parts };
  kind = k.stays.inner.kind;
  profile = k.stays.inner.profile;
}

malloc_on : (old new : LargeState) (n : ℕ) (answer : Result Handle Refusal) → IsLargeMalloc old n answer new → MallocsOn old.objects n answer new.objects
malloc_on old new n (Ok h) g = (g.unused, g.given)
malloc_on old new n (Err e) (cause, still) = ap (λ (s : LargeState). s.objects) still

free_on : (old new : LargeState) (h : ℕ) (answer : Option ⊥) → FreesLarge old h new → FreesOn old.objects h answer new.objects
free_on old new h None f = f.left
free_on old new h (Some e) f = absurd e

pub fault_on : (s : LargeState) (p : Position) (count : ℕ) (e : AccessFault) → IsLargeFault s p count e → IsAccessFault s.objects p count e
fault_on s p count access.Unknown none = none
fault_on s p count access.Range past = (past.bytes, past.found, past.past)

write_on : (old new : LargeState) (p : Position) (bytes : List ℕ) (answer : Result Unit AccessFault) → IsLargeWrite old p bytes answer new
    → WritesOn old.objects p bytes answer new.objects
write_on old new p bytes (Ok u) w = (w.object, w.found, w.within, w.left)
write_on old new p bytes (Err e) (cause, still) = (fault_on old p (length bytes) e cause, ap (λ (s : LargeState). s.objects) still)

pub large_keeps : KeepsObjects large_calls StaysReady
large_keeps = record {
  ready = λ old new s. s.ready;
  same = λ s ready. record { ready = ready; kind = refl; profile = refl };
  mallocs = λ old new n answer ready m. (malloc_on old new n answer m.0, stays_ready old new m.1);
  frees = λ old new h answer ready f. (free_on old new h answer f.0, stays_ready old new f.1);
  writes = λ old new p bytes answer ready w. (write_on old new p bytes answer w.0, stays_ready old new w.1);
  others = λ old new c reply ready step. (
    ap (λ (s : LargeRun). s.ids) step.1,
    ap (λ (s : LargeRun). s.heap.objects) step.1,
    subst (λ (s : LargeRun). StaysReady old.heap s.heap) (sym step.1) (record { ready = ready; kind = refl; profile = refl }),
  );
  given = λ h. refl;
  refused = malloc_refused;
  freed = refl;
  kept = λ e. absurd e;
}

-- For mode `large`: once its `heap` line is done, a run over long objects has an open heap with these settings at the bound 1, and is in progress; and no
-- command changes the kind of its inner manager.

module _ (ids : Ids) (old new : LargeState) (settings : Settings) (fresh : ids ≡ empty) (opened : IsEmptyLarge old settings new) (parts : KeepsParts new) where
  pub opened_going : IsGoingLarge (large_run ids new)
  opened_going = record { ready = record { opened = opened.open_now; parts = parts }; tied = none_tied ids new.objects fresh opened.none }

  -- with the settings of the line, at the bound 1
  pub opened_begins : (line : Settings) → profile_of settings ≡ at_bound_one (profile_of line)
      → BeginsLarge old.inner.kind (profile_of line) (large_run ids new)
  opened_begins line is = record {
    ids = fresh;
    open_now = opened.open_now;
    none = opened.none;
    words = subst (λ (p : Profile). IsOpeningWords old.inner.kind p new.inner.words) is opened.inner.words;
    order = subst (λ (p : Profile). IsOpeningOrder old.inner.kind p new.inner.order) is opened.inner.order;
    inner = subst (λ (p : Profile). new.inner ≡ ordered_heap old.inner.kind p new.inner.words new.inner.order) is opened.inner.whole;
    parts = parts;
  }

-- no command changes the kind of the inner manager
pub kind_kept : (old new : LargeRun) (c : Command) (reply : Reply) → IsGoingLarge old → LargeStep old c reply new → new.heap.inner.kind ≡ old.heap.inner.kind
kind_kept old new c reply going step = (turn large_calls large_keeps old new going.ready reply c step).1.kind

-- What a command of a session over long objects did, together with what the sink got of its reply: for `walk` and `frag`; after it
-- the run is in progress.

abbrev at : LargeRun → SinkState → Snapshot LargeRun
at run sink = snapshot run sink.written

pub shown_walk : (old : LargeRun) (inner : HeapState) (c : Command) (w y : SinkState) (r : Result Unit Failed) (answer : Result Outcome Failed) → c ≡ Walk
    → inner ≡ old.heap.inner → Writes w (led [] (walk_of inner.kind inner)) r y → IsEnded r Other answer → Applies large_heap (at old w) c answer (at old y)
shown_walk old inner c w y r answer is same put shown =
    subst (λ (k : Command). Applies large_heap (at old w) k answer (at old y)) (sym is)
    (reported large_heap (λ _ _ _ _ turn. turn) old old Walk (walk_of old.heap.inner.kind old.heap.inner) w y r Other answer (refl, refl)
    (walk_other old.heap.inner.kind old.heap.inner)
    (subst (λ (s : HeapState). Writes w (led [] (walk_of s.kind s)) r y) same put) shown)

pub shown_frag : (old : LargeRun) (inner : HeapState) (c : Command) (w y : SinkState) (r : Result Unit Failed) (answer : Result Outcome Failed) → c ≡ Frag
    → inner ≡ old.heap.inner → Writes w (led [] (frag_of inner)) r y → IsEnded r Other answer → Applies large_heap (at old w) c answer (at old y)
shown_frag old inner c w y r answer is same put shown =
    subst (λ (k : Command). Applies large_heap (at old w) k answer (at old y)) (sym is)
    (reported large_heap (λ _ _ _ _ turn. turn) old old Frag (frag_of old.heap.inner) w y r Other answer (refl, refl) (frag_other old.heap.inner)
    (subst (λ (s : HeapState). Writes w (led [] (frag_of s)) r y) same put) shown)

-- a run is in progress after a command, also if the sink cut the reply
pub applied_going : (old new : LargeRun) (c : Command) (w y : Option (List ℕ)) (answer : Result Outcome Failed) → IsGoingLarge old
    → Applies large_heap (snapshot old w) c answer (snapshot new y) → IsGoingLarge new
applied_going old new c w y (Ok outcome) going a = still_going large_calls large_keeps old new c a.0.reply going a.0.turns
applied_going old new c w y (Err e) going a = still_going large_calls large_keeps old new c a.turns.reply going a.turns.turn

-- Each call of a heap of long objects has a result; so each command of a run has a reply, and a run can be continued to the end of its items.

pub large_there : HasCalls large_calls
large_there = record {
  malloc = λ s n ready. elim (room_or_cause s ready.opened ready.parts n) [
    | inl room ↦ (let m = malloc_there s ready.opened ready.parts n room in (Ok (record { 0 = m.0 }), m.1, (m.2, m.3)))
    | inr cause ↦ (Err cause.0, s, ((cause.1, refl), kept_same s ready.opened ready.parts))
  ];
  free = λ s h v ready found. (let f = free_there s ready.opened ready.parts h v found in (None, f.0, (f.1, f.2)));
  write = λ s p bytes v ready found are some few. elim (cases_lt (length v) (p.from + length bytes)) [
    | inl past ↦ (Err access.Range, s, ((record { bytes = v; found = found; past = past }, refl), kept_same s ready.opened ready.parts))
    | inr within ↦ (
        let w = write_there s ready.opened ready.parts p.number p.from bytes v found within are some few in
        (Ok tt, w.0, (w.1, w.2)))
  ];
  other = λ s c ready. (large_shown s.heap c, s, (refl, refl));
}

-- a run begins over any manager with pages, under any settings in their ranges
pub begins_large : (kind : Kind) (p : Profile) → IsPaged kind → AreInRange p → (new : LargeRun) × BeginsLarge kind p new
begins_large kind p paged can =
    let settings : Settings = record {
      pages = p.pages;
      page_words = p.page_words;
      k = 1;
      proxies = p.proxies;
      some_pages = can.some_pages;
      few_pages = can.few_pages;
      page_size = can.page_size;
      some_bound = omega arith;
      low_bound = omega arith;
      some_proxies = can.some_proxies;
      few_proxies = can.few_proxies;
      small_region = can.small_region;
    } in
    let b = begin_exists kind (at_bound_one p) (record {
      some_pages = can.some_pages;
      few_pages = can.few_pages;
      page_size = can.page_size;
      some_bound = omega arith;
      low_bound = omega arith;
      some_proxies = can.some_proxies;
      few_proxies = can.few_proxies;
      small_region = can.small_region;
    }) in
    let opened : IsEmptyHeap kind settings b.0.heap = record { words = b.1.words; order = b.1.order; whole = b.1.heap } in (
      record { ids = empty; heap = record { is_open = true; objects = empty; inner = b.0.heap } },
      record {
        ids = refl;
        open_now = refl;
        none = refl;
        words = b.1.words;
        order = b.1.order;
        inner = b.1.heap;
        parts = empty_parts settings kind b.0.heap (vacant p.proxies) paged refl opened b.1.rules refl;
      },
    )

-- a run is in progress after its `heap` line
pub begins_going : (kind : Kind) (p : Profile) (s : LargeRun) → BeginsLarge kind p s → IsGoingLarge s
begins_going kind p s b = record { ready = record { opened = b.open_now; parts = b.parts }; tied = none_tied s.ids s.heap.objects b.ids b.none }

-- a run over long objects can be continued after each command
pub large_goes_on : (kind : Kind) → IsPaged kind → CanGoOn (BeginsAtOne kind) LargeStep
large_goes_on kind paged = can_go_on large_calls large_keeps large_there (BeginsAtOne kind) (λ p reply s b. begins_going kind p s b.0)
    (λ p can. (let b = begins_large kind p paged can in (said (codes "ok"), b.0, (b.1, refl))))
