-- For `calls_of_all_tasks_are_those_of_one_map`, and cited for laws of `order.rt` and `jobs.rt`: each call, and so each list of calls, does to the objects of a
-- sliced heap what it would do to a map from numbers to bytes, and leaves the heap consistent.
use Rattle.std.proofs.Common.{◌≡◌, ℕ, ◌+◌, ◌<◌, ◌≤◌, List, [], ◌∷◌, Option, Some, None, length, get_or, replicate, take, drop, arith, sym, ◌∙◌, ap, refl, subst}
use Rattle.std.proofs.Common.{inl, inr, length-drop}
use Rattle.std.specs.Prelude.{Ok, Err}
use Rattle.std.proofs.lemmas.List.{length-take, get_or-take, get_or-drop}
use Rattle.std.proofs.lemmas.Grind.{same_number_lists}
use Rattle.std.specs.FinMap.{get, insert, remove}
use Rattle.cf_base.specs.declared.results.Handle.{Handle}
use Rattle.cf_base.proofs.MapValues.{map_values-insert, map_values-remove}
use Rattle.cf_base.proofs.Maps.{some_inserted, some_removed}
use Rattle.page_model.specs.Arrangement.{class_at}
use Rattle.page_model.specs.Bytes.{AreBytes, written}
use Rattle.page_model.specs.Held.{Held, Objects, Placed, objects}
use Rattle.page_model.proofs.CallerLemmas.{bytes_held, bytes_missing, inserted_there, malloc_objects, length-written, written_are_bytes, zeros_are_bytes}
use Rattle.slice_model.specs.State.{Plan, IsPlan, JobSlot, Sliced, IsKept, job_slot, Idle}
use Rattle.slice_model.specs.Steps.{BeginsMove, EndsJob, IsSlice, SliceOf, LeavesJob}
use Rattle.slice_model.specs.Runs.{Event, FreesWithWords, Happens, HappensOnMap, IsConsistent, MallocsWithWords, Position, Runs, RunsOnMap, Slices, TaskCall, HeapWithWords, WritesWithWords, Malloc}
use Rattle.slice_model.specs.Runs.{Free, Step, Write, Read}
use Rattle.slice_model.specs.declared.refusals.SliceFault.TheVariants as fault
use Rattle.slice_model.specs.Words.{HasWords}
use Rattle.slice_model.proofs.KeptSteps.{kept_begun, kept_malloc, kept_slice, kept_write}
use Rattle.slice_model.proofs.CallWords.{byte_there, words_begun, words_given, words_sliced, words_written}

-- an object that gets a new address keeps its bytes
objects_carried : (m : Held) (q a c : ℕ) (new : Sliced) → BeginsMove m q a c new → objects new.held ≡ objects m
objects_carried m q a c new is =
    let w = is.whole in
    let e = map_values-insert (λ (x : Placed). x.bytes) m q (record { place = a; bytes = is.object.bytes }) in
    rw w (e ∙ inserted_there (objects m) q is.object.bytes (bytes_held m q is.object is.found))

objects_ended : (plan : Plan) (m : Held) (k : JobSlot) (new : Sliced) → EndsJob plan.paging m k new → objects new.held ≡ objects m
objects_ended plan m k new (inl (_, whole)) = rw whole refl
objects_ended plan m k new (inr chains) = objects_carried m chains.object k.address k.class new chains.carries

pub objects_sliced : (plan : Plan) (old new : Sliced) → IsSlice plan old new → objects new.held ≡ objects old.held
objects_sliced plan old new slice = go (job_slot old.job) slice
  where
    go : (o : Option JobSlot) → SliceOf plan old o new → objects new.held ≡ objects old.held
    go None same = rw same refl
    go (Some k) (inl on) = (let w = on.whole in rw w refl)
    go (Some k) (inr done) = objects_ended plan old.held k new done.ends

objects_begun : (m : Held) (h a c : ℕ) (moved : Option ℕ) (new : Sliced) → LeavesJob (remove m h) a c moved new → objects new.held ≡ remove (objects m) h
objects_begun m h a c None new is = rw is (map_values-remove (λ (x : Placed). x.bytes) m h)
objects_begun m h a c (Some q) new is = objects_carried (remove m h) q a c new is ∙ map_values-remove (λ (x : Placed). x.bytes) m h

-- a list is a range of v if it is as long and has the same bytes
part_is : (v out : List ℕ) (at count : ℕ) → at + count ≤ length v → length out ≡ count → ((k : ℕ) → k < count → get_or out k 0 ≡ get_or v (at + k) 0)
    → out ≡ take count (drop at v)
part_is v out at count fits len each =
    let a = length-take count (drop at v) in
    let b = length-drop at v in
    same_number_lists out (take count (drop at v)) (omega arith) (λ k lt.
    each k (omega arith) ∙ sym (get_or-take count (drop at v) k 0 (omega arith) ∙ get_or-drop at v k 0))

-- each object of the map holds numbers below 256
abbrev AllBytes : Objects → Type 0
AllBytes o = (h : ℕ) (v : List ℕ) → get o h ≡ Some v → AreBytes v

bytes_inserted : (o : Objects) (h : ℕ) (v : List ℕ) → AllBytes o → AreBytes v → AllBytes (insert o h v)
bytes_inserted o h v all new q u there = elim (some_inserted o h v q u there) [
  | inl (_, same) ↦ rw (← same) new
  | inr (_, was) ↦ all q u was
]

bytes_removed : (o : Objects) (h : ℕ) → AllBytes o → AllBytes (remove o h)
bytes_removed o h all q u there = all q u (some_removed o h q u there).1

module _ (plan : Plan) (ok : IsPlan plan) where
  -- a heap that a call leaves unchanged has the same objects, and is still consistent
  same_heap : (old new : HeapWithWords) → IsConsistent plan old → new ≡ old → (objects new.state.held ≡ objects old.state.held) × IsConsistent plan new
  same_heap old new good same = (ap (λ (w : HeapWithWords). objects w.state.held) same, subst (IsConsistent plan) (sym same) good)

  malloc_on_map : (old : HeapWithWords) (bytes : ℕ) (h : Handle) (new : HeapWithWords) → IsConsistent plan old
      → MallocsWithWords plan old (record { number = h.0; length = bytes }) new
      → HappensOnMap (objects old.state.held) (Malloc bytes (Ok h)) (objects new.state.held) × IsConsistent plan new
  malloc_on_map old bytes h new good is =
      let g = is.gives in
      let o : objects new.state.held ≡ insert (objects old.state.held) h.0 (replicate bytes 0) = ap (λ (s : Sliced). objects s.held) g.placed
      ∙ malloc_objects old.state.held h.0 g.place bytes in (
        (bytes_missing old.state.held h.0 g.unused, o),
        record {
          kept = kept_malloc plan ok old.state good.kept (record { number = h.0; length = bytes }) new.state g;
          words = words_given plan ok old.state good.kept old.words new.words good.words (record { number = h.0; length = bytes }) new.state g is.words;
          bytes = rw o (bytes_inserted (objects old.state.held) h.0 (replicate bytes 0) good.bytes (zeros_are_bytes bytes));
        },
      )

  free_on_map : (old : HeapWithWords) (h : ℕ) (new : HeapWithWords) → IsConsistent plan old → FreesWithWords plan old h new
      → HappensOnMap (objects old.state.held) (Free h None) (objects new.state.held) × IsConsistent plan new
  free_on_map old h new good is =
      let r = is.removes in
      let idle = r.idle in
      let kept : IsKept plan (record { held = old.state.held; job = Idle }) =
      subst (λ j. IsKept plan (record { held = old.state.held; job = j })) idle good.kept in
      let words : HasWords plan.paging (record { held = old.state.held; job = Idle }) old.words =
      subst (λ j. HasWords plan.paging (record { held = old.state.held; job = j }) old.words) idle good.words in
      let kept' = kept_begun plan ok old.state.held kept h r.freed r.found r.moved r.moves r.begun r.begins in
      let words' = words_begun plan ok old.words old.state.held kept words h r.freed r.found r.moved r.moves r.begun r.begins in
      let o : objects new.state.held ≡ remove (objects old.state.held) h = objects_sliced plan r.begun new.state r.slice
      ∙ objects_begun old.state.held h r.freed.place (class_at plan.paging r.freed) r.moved r.begun r.begins in (
        ((r.freed.bytes, bytes_held old.state.held h r.freed r.found), o),
        record {
          kept = kept_slice plan ok r.begun new.state kept' r.slice;
          words = words_sliced plan ok old.words new.words r.begun.held r.begun.job kept' words' new.state r.slice is.words;
          bytes = rw o (bytes_removed (objects old.state.held) h good.bytes);
        },
      )

  step_on_map : (old new : HeapWithWords) → IsConsistent plan old → Slices plan old new → (objects new.state.held ≡ objects old.state.held) × IsConsistent plan new
  step_on_map old new good is =
      let o = objects_sliced plan old.state new.state is.slice in (
        o,
        record {
          kept = kept_slice plan ok old.state new.state good.kept is.slice;
          words = words_sliced plan ok old.words new.words old.state.held old.state.job good.kept good.words new.state is.slice is.words;
          bytes = rw o good.bytes;
        },
      )

  write_on_map : (old : HeapWithWords) (position : Position) (bytes : List ℕ) (new : HeapWithWords) → IsConsistent plan old → WritesWithWords old position bytes new
      → HappensOnMap (objects old.state.held) (Write position bytes None) (objects new.state.held) × IsConsistent plan new
  write_on_map old position bytes new good is =
      let x : Placed = is.object in
      let v : List ℕ = written is.object.bytes position.from bytes in
      let o : objects new.state.held ≡ insert (objects old.state.held) position.number (written is.object.bytes position.from bytes) =
      ap (λ (s : Sliced). objects s.held) is.state
      ∙ map_values-insert (λ (x : Placed). x.bytes) old.state.held position.number
      (record { place = is.object.place; bytes = written is.object.bytes position.from bytes }) in
      let there = bytes_held old.state.held position.number is.object is.found in (
        (is.object.bytes, there, is.fits, o),
        record {
          kept = subst (IsKept plan) (sym is.state) (kept_write plan ok old.state good.kept position.number is.object is.found
              (written is.object.bytes position.from bytes) (length-written is.object.bytes position.from bytes is.fits));
          words = subst (λ s. HasWords plan.paging s new.words) (sym is.state) (words_written plan ok old.state good.kept old.words new.words good.words
              position.number is.object is.found position.from bytes is.fits is.words);
          bytes = rw o (bytes_inserted (objects old.state.held) position.number (written is.object.bytes position.from bytes) good.bytes
              (written_are_bytes is.object.bytes position.from bytes is.fits (good.bytes position.number is.object.bytes there) is.are_bytes));
        },
      )

  -- one call does to the map of objects what `HappensOnMap` says
  pub call_on_map : (old : HeapWithWords) (event : Event) (new : HeapWithWords) → IsConsistent plan old → Happens plan old event new
      → HappensOnMap (objects old.state.held) event (objects new.state.held) × IsConsistent plan new
  call_on_map old (Malloc bytes (Ok h)) new good is = malloc_on_map old bytes h new good is
  call_on_map old (Malloc bytes (Err e)) new good is = same_heap old new good is.1
  call_on_map old (Free h None) new good is = free_on_map old h new good is
  call_on_map old (Free h (Some fault.Unknown)) new good is = (let s = same_heap old new good is.1 in ((bytes_missing old.state.held h is.0, s.0), s.1))
  call_on_map old (Free h (Some fault.Busy)) new good is = (let s = same_heap old new good is.1 in
      (((is.0.object.bytes, bytes_held old.state.held h is.0.object is.0.found), s.0), s.1))
  call_on_map old Step new good is = step_on_map old new good is
  call_on_map old (Write position bytes None) new good is = write_on_map old position bytes new good is
  call_on_map old (Write position bytes (Some e)) new good is = (let s = same_heap old new good is.1 in ((is.0, s.0), s.1))
  call_on_map old (Read position count (Ok out)) new good is =
      let s = same_heap old new good is.1 in
      let r = is.0 in
      let there = bytes_held old.state.held position.number r.object r.found in
      let fits = r.fits in
      let out_is = part_is r.object.bytes out position.from count r.fits r.size (λ k lt. r.bytes k lt
      ∙ byte_there plan ok old.state good.kept old.words good.words position.number r.object r.found (good.bytes position.number r.object.bytes there)
      (position.from + k) (omega arith)) in
      ((r.object.bytes, there, r.fits, out_is, s.0), s.1)
  call_on_map old (Read position count (Err e)) new good is = (let s = same_heap old new good is.1 in ((is.0, s.0), s.1))

  -- a list of calls does to the map of objects what `RunsOnMap` says
  pub run_on_map : (turns : List TaskCall) (old new : HeapWithWords) → IsConsistent plan old → Runs plan old turns new
      → RunsOnMap (objects old.state.held) turns (objects new.state.held) × IsConsistent plan new
  run_on_map [] old new good same = same_heap old new good same
  run_on_map (turn ∷ rest) old new good (mid, is, then) =
      let first = call_on_map old turn.event mid good is in
      let more = run_on_map rest mid new first.1 then in
      ((objects mid.state.held, first.0, more.0), more.1)
