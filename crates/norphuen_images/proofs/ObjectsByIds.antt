-- For the law `the_calls_change_the_objects_by_id`: what each call does to the map from ids to bytes.
use Rattle.std.proofs.Common.{◌≡◌, ◌∙◌, ℕ, pos, true, List, Option, Some, None, length, take, drop, refl, ap, sym, arith, inl, inr}
use Rattle.std.specs.Prelude.{Result, Ok, Err, is_ok, replicate}
use Rattle.std.specs.FinMap.{get, insert, remove}
use Rattle.cf_base.specs.Settings.{Profile}
use Rattle.cf_base.specs.declared.results.AccessFault.{AccessFault}
use Rattle.cf_base.specs.declared.results.AccessFault.TheVariants.{Unknown, Range}
use Rattle.cf_base.specs.declared.results.Handle.{Handle}
use Rattle.cf_base.specs.declared.results.Refusal.{Refusal}
use Rattle.cf_base.specs.declared.results.Refusal.TheVariants as refusal
use Rattle.cf_base.proofs.MapValues.{map_values-insert}
use Rattle.cf_model.specs.State.{HeapState}
use Rattle.cf_model.specs.Steps.{IsMallocStep, IsReadAnswer, IsWriteStep}
use Rattle.page_model.specs.Bytes.{written}
use Rattle.page_model.specs.Held.{Objects, Placed, objects}
use Rattle.page_model.proofs.CallerLemmas.{bytes_held, bytes_missing, malloc_objects}
use Rattle.c_base.specs.Codes.{access_code, malloc_code}
use Rattle.c_base.specs.Handles.{none}
use Rattle.id_table.specs.ById.{objects_by_id}
use Rattle.id_table.specs.Ids.{Ids}
use Rattle.id_table.specs.Named.{MakesNamed, ids_given}
use Rattle.id_table.specs.Sessions.{RunState, SessionState}
use Rattle.id_table.specs.Ties.{AreTiedTo}
use Rattle.id_table.proofs.CallerLemmas.{by_id_changed, by_id_given, by_id_gone, counted_ids, live_by_id, names_of_objects}
use Rattle.heap_image.specs.Heaps.{live_objects}
use Rattle.norphuen_images.specs.Calls.{IsImagesFreeCall, IsImagesReadCall, IsImagesWriteCall, IsMakeCall, number_by}
use Rattle.norphuen_images.specs.State.{IsNamed}

not_done : {T : Type 0} (e : Refusal) → pos 0 ≡ malloc_code (Err e) → T
not_done refusal.Size is = absurd (let z : pos 0 ≡ pos 1 = is in cc)
not_done refusal.Proxy is = absurd (let z : pos 0 ≡ pos 2 = is in cc)
not_done refusal.Space is = absurd (let z : pos 0 ≡ pos 3 = is in cc)

no_access : {T : Type 0} (e : AccessFault) → pos 0 ≡ access_code (Err e) → T
no_access Unknown is = absurd (let z : pos 0 ≡ pos 4 = is in cc)
no_access Range is = absurd (let z : pos 0 ≡ pos 5 = is in cc)

module _ (p : Profile) (old : RunState) (named : IsNamed p old) where
  abbrev ids : Ids
  ids = old.session.ids

  abbrev m : Objects
  m = objects old.heap.held

  names : AreTiedTo ids m
  names = names_of_objects ids old.heap.held named.going.tied.ids

  -- the object that was found under the number of an id is the id's
  found : (id : ℕ) (x : Placed) → get old.heap.held (number_by (get ids id)) ≡ Some x
      → (h : ℕ) × (get ids id ≡ Some h) × (get old.heap.held h ≡ Some x) × (number_by (get ids id) ≡ h)
  found id x is = go (get ids id) refl
    where
      go : (o : Option ℕ) → get ids id ≡ o → (h : ℕ) × (get ids id ≡ Some h) × (get old.heap.held h ≡ Some x) × (number_by (get ids id) ≡ h)
      go (Some h) e = (h, e, ap (get old.heap.held) (sym (ap number_by e)) ∙ is, ap number_by e)
      go None e = absurd (
          let small = named.going.rules.numbers.handles none x (ap (get old.heap.held) (sym (ap number_by e)) ∙ is) in
          let few = named.going.rules.settings.few_proxies in
          omega (arith, small, few))

  bytes_found : (id : ℕ) (x : Placed) → get old.heap.held (number_by (get ids id)) ≡ Some x → get (live_objects old) id ≡ Some x.bytes
  bytes_found id x is = (let f = found id x is in live_by_id ids m id f.0 x.bytes f.1 (bytes_held old.heap.held f.0 x f.2))

  module _ (new : RunState) where
    made : (id bytes : ℕ) (call : MakesNamed old id bytes true new) (r : Result Handle Refusal) → IsMallocStep old.heap bytes r new.heap
        → new.session.ids ≡ ids_given ids id r → true ≡ is_ok r → live_objects new ≡ insert (live_objects old) id (replicate bytes 0)
    made id bytes call (Ok h) step e ok =
        let left : objects new.heap.held ≡ insert m h.0 (replicate bytes 0) = ap (λ (s : HeapState). objects s.held) step.whole
        ∙ malloc_objects old.heap.held h.0 step.place bytes in
        (λ i. objects_by_id (e i) (left i)) ∙ by_id_given ids m names id h.0 (replicate bytes 0) (bytes_missing old.heap.held h.0 step.unused)
    made id bytes call (Err f) step e ok = absurd (let z : true ≡ is_ok {T = Handle} {E = Refusal} (Err f) = ok in cc)

    changed : (id from : ℕ) (bytes : List ℕ) (r : Result (Unit {0}) AccessFault) → pos 0 ≡ access_code r
        → IsWriteStep old.heap (record { number = number_by (get ids id); from = from }) bytes r new.heap → new.session ≡ old.session
        → (v : List ℕ) × (get (live_objects old) id ≡ Some v) × (live_objects new ≡ insert (live_objects old) id (written v from bytes))
    changed id from bytes (Err e) code step same = no_access e code
    changed id from bytes (Ok u) code step same =
        let f = found id step.object step.found in
        let v = (step.object).bytes in
        let left : objects new.heap.held ≡ insert m f.0 (written v from bytes) = ap (λ (s : HeapState). objects s.held) step.whole
        ∙ map_values-insert (λ (x : Placed). x.bytes) old.heap.held (number_by (get ids id)) _ ∙ ap (λ n. insert m n (written v from bytes)) f.3 in (
          v,
          bytes_found id step.object step.found,
          (λ i. objects_by_id ((same i).ids) (left i)) ∙ by_id_changed ids m names id f.0 f.1 (written v from bytes),
        )

pub make_by_id : (p : Profile) (old new : RunState) (id bytes : ℕ) → IsNamed p old → IsMakeCall old id bytes (pos 0) new
    → live_objects new ≡ insert (live_objects old) id (replicate bytes 0)
make_by_id p old new id bytes named (inl (done, fresh, call, after)) =
    made p old named new id bytes call call.answer call.step (ap (λ (s : SessionState). s.ids) call.session) call.made_if
make_by_id p old new id bytes named (inr (inl (code, large), same)) = absurd (let z : pos 0 ≡ pos 4 = code in cc)
make_by_id p old new id bytes named (inr (inr (inl (code, small, h, live)), same)) = absurd (let z : pos 0 ≡ pos 20 = code in cc)
make_by_id p old new id bytes named (inr (inr (inr (small, fresh, e, code, cause)), same)) = not_done e code

pub free_by_id : (p : Profile) (old new : RunState) (id : ℕ) → IsNamed p old → IsImagesFreeCall old id (pos 0) new → live_objects new ≡ remove (live_objects old) id
free_by_id p old new id named (inl (done, call, after)) =
    let left : new.session.ids ≡ remove old.session.ids id = ap (λ (s : SessionState). s.ids) call.session ∙ counted_ids _ call.freed.moved _ in
    (λ i. objects_by_id (left i) (call.step.left i)) ∙ by_id_gone old.session.ids (objects old.heap.held) (names p old named) id call.number call.named
free_by_id p old new id named (inr (code, none_there, same)) = absurd (let z : pos 0 ≡ pos 4 = code in cc)

pub write_by_id : (p : Profile) (old new : RunState) (id from : ℕ) (bytes : List ℕ) → IsNamed p old → IsImagesWriteCall old id from bytes (pos 0) new
    → (v : List ℕ) × (get (live_objects old) id ≡ Some v) × (live_objects new ≡ insert (live_objects old) id (written v from bytes))
write_by_id p old new id from bytes named call = changed p old named new id from bytes call.answer call.by_code call.step call.session

pub read_by_id : (p : Profile) (old new : RunState) (id from : ℕ) (before after : List ℕ) → IsNamed p old → IsImagesReadCall old id from before (pos 0) after new
    → (v : List ℕ) × (get (live_objects old) id ≡ Some v) × (after ≡ take (length before) (drop from v))
read_by_id p old new id from before after named call = by call.answer call.by_code call.read
  where
    by : (r : Result (Unit {0}) AccessFault) → pos 0 ≡ access_code r → IsReadAnswer old.heap (record { number = number_by (get old.session.ids id); from = from }) before r after
        → (v : List ℕ) × (get (live_objects old) id ≡ Some v) × (after ≡ take (length before) (drop from v))
    by (Ok u) code read = (read.object.bytes, bytes_found p old named id read.object read.found, read.value)
    by (Err e) code read = no_access e code
