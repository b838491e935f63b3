-- A run over a sliced heap: its invariant, its `heap` line and its commands. A run of the mode handler is one of its session.
use Rattle.std.proofs.Common.{List, None, ◌≡◌, ◌∙◌, ◌*◌, ℕ, Some, false, length, sym, ap, refl, subst, replicate, arith, ◌<◌, Option, option_map, IsTrue, Bool, Result, Ok, Err, codes, is_some}
use Rattle.run_model.specs.Terms.{AccessFault, AreInRange, Command, empty, Failed, get, Handle, Ids, Item, Objects, objects, Placed, Position, Profile, profile_of, Reply, said, with_number}
use Rattle.run_model.proofs.CallerLemmas.{run_seen}
use Rattle.script_loop.specs.Semantics.{RunBy, snapshot}
use Rattle.script_loop.specs.Applying.{TurnsInPart, Applies, BuildsReply}
use Rattle.slice_session.specs.Playing.{BeginsSlices, RunsSliced, SlicePlay, run_of_play, slices, BeginsSliced, IsQuantum, first_heap, sliced}
use Rattle.slice_session.specs.SliceRun.{SliceStep, DoesEvent, IsReadySliced, OthersSliced, SliceRun, slice_free_text, slice_malloc_text, sliced_calls, IsGoingSliced, slice_run}
use Rattle.script_laws.proofs.CallerLemmas.{FreesOn, IsAccessFault, KeepsObjects, MallocsOn, WritesOn, still_going}
use Rattle.script_laws.specs.IdBytes.{is_ok}
use Rattle.slice_model.specs.Runs.{Event, HappensOnMap, IsConsistent, IsOutOfReach, Malloc, Free, Step, Write}
use Rattle.slice_model.specs.State.{IsPlan, Plan, Idle, left_of}
use Rattle.slice_model.specs.declared.refusals.SliceFault.{SliceFault}
use Rattle.slice_model.specs.declared.refusals.SliceRefusal.{SliceRefusal}
use Rattle.slice_model.specs.Ordered.{IsOrderBeside}
use Rattle.slice_model.proofs.CallerLemmas.{call_on_map, order_kept}
use Rattle.sliced_heap.specs.Access.{access_fault}
use Rattle.sliced_heap.specs.Shown.{SlicedState, plan_in, working_in, KeepsSlicedRules, opened_state}
use Rattle.sliced_heap.proofs.CallerLemmas.{plan_stays}
use Rattle.std.proofs.lemmas.List.{length-replicate}
use Rattle.cf_base.specs.declared.settings.Settings.{Settings}
use Rattle.cf_base.specs.declared.kind.Layout.TheVariants.{Words}
use Rattle.cf_base.proofs.Values.{map_values-empty}
use Rattle.page_model.proofs.CallerLemmas.{first_is_order, first_ones, first_paged}
use Rattle.id_table.proofs.CallerLemmas.{none_tied}
use Rattle.std.specs.Option.{MatchOption}
use Rattle.std.proofs.lemmas.Bool.{false≢true}
use Rattle.cf_io.specs.Lines.{line_capacity}
use Rattle.cf_session.specs.declared.outcome.Outcome.{Outcome}
use Rattle.script_laws.specs.ObjectRun.{MallocsId}
use Rattle.run_model.specs.Steps.{Stays}
use Rattle.cf_base.specs.declared.results.AccessFault.TheVariants as access
use Rattle.script_reader.specs.declared.command.Command.TheVariants as command
use Rattle.slice_model.specs.declared.refusals.SliceFault.TheVariants as fault
use Rattle.slice_model.specs.declared.refusals.SliceRefusal.TheVariants as refusal

-- For `plays_are_runs` and other laws: a run of the mode handler of mode `slice` is, with the same replies, a run of its session with the handler's quantum.

pub play_seen : (from : SlicePlay) (items : List Item) (replies : List Reply) (new : Option SlicePlay) → RunBy slices from None items replies new
    → RunsSliced from.quantum None items replies (option_map run_of_play new)
play_seen from items replies new run = run_seen run_of_play (BeginsSlices from.quantum) SliceStep (TurnsInPart SliceStep) None items replies new run

-- After each command of a run over a sliced heap the heap is open and keeps its rules, and the ids name its objects (`IsGoingSliced`); and what each command
-- does to the ids and the objects that they name.

-- how many words the region of these settings has
abbrev region_of : Profile → ℕ
region_of p = p.pages * p.page_words

-- a call changes the map of objects as the model says, and leaves the heap open, with its rules
pub on_map : (old new : SlicedState) → IsReadySliced old → (event : Event) → DoesEvent old event new
    → HappensOnMap (objects old.held) event (objects new.held) × IsReadySliced new
on_map old new ready event d =
    let rules = ready.rules in
    let one = call_on_map (plan_in old) rules.plan (working_in old) event (working_in new) rules.consistent d.happens in
    let same = plan_stays old new d.stays in (
      one.0,
      record {
        opened = subst (λ (b : Bool). IsTrue b) (sym d.stays.is_open) ready.opened;
        rules = record {
          plan = subst IsPlan (sym same) rules.plan;
          consistent = subst (λ (p : Plan). IsConsistent p (working_in new)) (sym same) one.1;
          region = d.stays.region ∙ rules.region ∙ ap region_of (sym d.stays.profile);
          order = subst (λ (p : Plan). IsOrderBeside p (working_in new).state new.order) (sym same)
              (order_kept (plan_in old) rules.plan (working_in old) event (working_in new) old.order new.order rules.consistent.kept rules.order d.ordered);
        };
      },
    )

malloc_on : (old new : Objects) (n : ℕ) (answer : Result Handle SliceRefusal) → HappensOnMap old (Malloc n answer) new → MallocsOn old n answer new
malloc_on old new n (Ok h) on = on
malloc_on old new n (Err e) on = on

free_on : (old new : Objects) (h : ℕ) (answer : Option SliceFault) → HappensOnMap old (Free h answer) new → FreesOn old h answer new
free_on old new h None on = on.1
free_on old new h (Some fault.Unknown) on = on.1
free_on old new h (Some fault.Busy) on = on.1

pub fault_on : (o : Objects) (h from count : ℕ) (e : AccessFault) → IsOutOfReach o (record { number = h; from = from }) count e
    → IsAccessFault o (record { number = h; from = from }) count e
fault_on o h from count access.Unknown none = none
fault_on o h from count access.Range past = past

write_on : (old new : Objects) (p : Position) (bytes : List ℕ) (answer : Result Unit AccessFault)
    → HappensOnMap old (Write (record { number = p.number; from = p.from }) bytes (access_fault answer)) new → WritesOn old p bytes answer new
write_on old new p bytes (Ok u) on = on
write_on old new p bytes (Err e) (cause, on) = (fault_on old p.number p.from (length bytes) e cause, on)

unmoved : (old new : SliceRun) → IsReadySliced old.heap → new ≡ old
    → (new.ids ≡ old.ids) × (objects new.heap.held ≡ objects old.heap.held) × IsReadySliced new.heap
unmoved old new ready is = (
  ap (λ (s : SliceRun). s.ids) is,
  ap (λ (s : SliceRun). objects s.heap.held) is,
  subst (λ (s : SliceRun). IsReadySliced s.heap) (sym is) ready,
)

other_on : (old new : SliceRun) (c : Command) (reply : Reply) → IsReadySliced old.heap → OthersSliced old c reply new
    → (new.ids ≡ old.ids) × (objects new.heap.held ≡ objects old.heap.held) × IsReadySliced new.heap
other_on old new command.Slice reply ready st = (let o = on_map old.heap new.heap ready Step st.does in (st.ids, o.0, o.1))
other_on old new (command.Peek word) reply ready st = unmoved old new ready st.1
other_on old new c reply ready st = unmoved old new ready st.1

refused_text : (e : SliceRefusal) → is_ok (said (slice_malloc_text (Err e))) ≡ false
refused_text refusal.Size = refl
refused_text _ = refl

kept_text : (e : SliceFault) → is_ok (said (slice_free_text (Some e))) ≡ false
kept_text fault.Unknown = refl
kept_text fault.Busy = refl

pub sliced_keeps : KeepsObjects sliced_calls (λ old new. IsReadySliced new)
sliced_keeps = record {
  ready = λ old new ready. ready;
  same = λ s ready. ready;
  mallocs = λ old new n answer ready d. (let o = on_map old new ready (Malloc n answer) d in (malloc_on (objects old.held) (objects new.held) n answer o.0, o.1));
  frees = λ old new h answer ready d. (let o = on_map old new ready (Free h answer) d in (free_on (objects old.held) (objects new.held) h answer o.0, o.1));
  writes = λ old new p bytes answer ready d. (
      let o = on_map old new ready (Write (record { number = p.number; from = p.from }) bytes (access_fault answer)) d in
      (write_on (objects old.held) (objects new.held) p bytes answer o.0, o.1));
  others = λ old new c reply ready step. other_on old new c reply ready step;
  given = λ h. refl;
  refused = refused_text;
  freed = refl;
  kept = kept_text;
}

-- For `open` and the laws on runs: a run over a sliced heap begins without objects, and is then in progress (`IsGoingSliced`): the heap is
-- open and keeps its rules, and the ids name its objects.

no_objects : objects empty ≡ empty
no_objects = map_values-empty (λ (x : Placed). x.bytes)

-- a run is in progress after its `heap` line
pub begins_going : (quantum : ℕ) (p : Profile) (s : SliceRun) → BeginsSliced quantum p s → IsGoingSliced s
begins_going quantum p s b = record {
  ready = record { opened = subst (λ (h : SlicedState). IsTrue h.is_open) (sym b.heap) refl; rules = b.rules };
  tied = none_tied s.ids (objects s.heap.held) b.ids (ap (λ (h : SlicedState). objects h.held) b.heap ∙ no_objects);
}

-- the run begins, if the heap was opened with the settings of a `heap` line
pub opened_begins : (ids : Ids) (heap : SlicedState) (settings : Settings) (quantum : ℕ) → ids ≡ empty → heap ≡ opened_state settings quantum
    → KeepsSlicedRules heap → BeginsSliced quantum (profile_of settings) (slice_run ids heap)
opened_begins ids heap settings quantum fresh is rules = record { ids = fresh; heap = is; rules = rules }

-- without objects and without a job, words of zeros are consistent: a law of the model
abbrev pub EmptyLaw : Type 0
EmptyLaw = (plan : Plan) (n : ℕ) → IsConsistent plan (record { state = record { held = empty; job = Idle }; words = replicate n 0 })

-- the rules of a heap that was just opened
pub first_rules : EmptyLaw → (quantum : ℕ) (p : Profile) → IsQuantum quantum → AreInRange p → KeepsSlicedRules (first_heap quantum p)
first_rules law quantum p q can = record {
  plan = record {
    paging = first_paged (record p { k = 1 }) Words can.page_size (omega arith);
    ones = first_ones (record p { k = 1 }) Words refl;
    quantum = q.least;
  };
  consistent = law (plan_in (first_heap quantum p)) (p.pages * p.page_words);
  region = length-replicate {A = ℕ} (p.pages * p.page_words) 0;
  order = first_is_order (plan_in (first_heap quantum p)).paging p.proxies;
}

-- For `apply_ref` and `commands.rt`: a run over a sliced heap stays in progress after a command, a malloc by the heap is a step of the run, and the replies to
-- `s` and `r` are those of the model.

abbrev Written : Type 0
Written = Option (List ℕ)

-- a run stays in progress after a command
pub applied_going : (old new : SliceRun) (c : Command) (w y : Written) (answer : Result Outcome Failed) → IsGoingSliced old
    → Applies sliced (snapshot old w) c answer (snapshot new y) → IsGoingSliced new
applied_going old new c w y (Ok outcome) going a = still_going sliced_calls sliced_keeps old new c a.0.reply going a.0.turns
applied_going old new c w y (Err e) going a = still_going sliced_calls sliced_keeps old new c a.turns.reply going a.turns.turn

-- an id without a handle isn't live
pub no_handle : (o : Option Handle) (live : Option ℕ) → option_map (λ (h : Handle). h.0) o ≡ live → is_some o ≡ false → live ≡ None
no_handle None live is none = sym is
no_handle (Some h) live is none = absurd (false≢true (sym none))

-- a malloc by the heap is a step of the run, if the id isn't live
pub malloc_step : (old new : SliceRun) (id n : ℕ) (reply : Reply) → get old.ids id ≡ None → MallocsId sliced_calls old id n reply new
    → SliceStep old (command.Malloc id n) reply new
malloc_step old new id n reply none m =
    subst (λ o. MatchOption o (MallocsId sliced_calls old id n reply new) (λ h. Stays old (codes "live") reply new)) (sym none) m

-- the text of the reply to `s`
pub speaks_left : (ids : Ids) (old new : SlicedState) (line : List ℕ) → DoesEvent old Step new
    → line ≡ with_number (codes "left ") (left_of (plan_in new) (working_in new).state) → length line < line_capacity
    → BuildsReply SliceStep (slice_run ids old) command.Slice (slice_run ids new) line
speaks_left ids old new line does is room = record { turn = record { does = does; ids = refl; reply_is = ap said is }; room = room }
