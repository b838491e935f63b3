-- For `make_object`, `write_object_bytes` and `free_object`: what the calls of a `Namer` do to the objects by id and to the session's counters if every bound
-- is 1; a malloc succeeds if and only if its object fits.
use Rattle.std.proofs.Common.{◌≡◌, ◌∙◌, ◌+◌, ◌*◌, ◌≤◌, ◌<◌, ℕ, Bool, true, false, List, Some, None, refl, ap, sym, subst, arith, inl, inr}
use Rattle.std.specs.Prelude.{◌&&◌, cond, nat_eq, Result, Ok, Err, is_ok, nat_le, replicate, ◌↔◌}
use Rattle.std.specs.Bool.{OnFalse, OnTrue}
use Rattle.std.specs.List.{range_with_len}
use Rattle.std.proofs.lemmas.Bool.Decides.{nat_tests}
use Rattle.std.specs.FinMap.{get, insert, len, remove}
use Rattle.cf_base.specs.Classes.{need}
use Rattle.cf_base.specs.Settings.{Profile}
use Rattle.cf_base.specs.declared.results.Handle.{Handle}
use Rattle.cf_base.specs.declared.results.Refusal.{Refusal}
use Rattle.cf_base.specs.declared.results.Refusal.TheVariants as refusal
use Rattle.cf_base.specs.declared.kind.Kind.{Kind}
use Rattle.cf_base.specs.declared.kind.Kind.TheVariants.{Moving}
use Rattle.cf_base.specs.declared.kind.Layout.TheVariants.{Words}
use Rattle.cf_base.proofs.MapValues.{map_values-insert}
use Rattle.cf_base.proofs.Renaming.{CountAlike}
use Rattle.cf_model.specs.State.{HeapState, layout_of, paging_in}
use Rattle.cf_model.specs.Steps.{ChangesCost, IsMallocStep}
use Rattle.id_table.specs.ById.{objects_by_id}
use Rattle.id_table.specs.Ids.{Ids}
use Rattle.id_table.specs.Named.{FreesNamed, LacksProxyOrPages, MakesNamed, WritesNamed, ids_given}
use Rattle.id_table.specs.Sessions.{IsGoing, RunState, SessionState, counted}
use Rattle.id_table.specs.Ties.{AreTiedTo}
use Rattle.id_table.proofs.CallerLemmas.{LacksByNeed, by_id_changed, by_id_counts, by_id_given, by_id_gone, counted_ids, live_by_id, names_of_objects, refused_by_need}
use Rattle.page_model.specs.Arrangement.{live, pages_needed_with}
use Rattle.page_model.specs.Bytes.{written}
use Rattle.page_model.specs.Counts.{ceil_div}
use Rattle.page_model.specs.Held.{Objects, Placed, objects}
use Rattle.page_model.specs.Paging.{EveryBoundIsOne, Paging, class_for, classes, paging_of, slots_of}
use Rattle.page_model.proofs.CallerLemmas.{malloc_objects, sum_same, bytes_held, bytes_missing}
use Rattle.heap_image.specs.Counts.{CountsFree, after_mallocs}
use Rattle.heap_image.specs.Decoded.{has_room, image_paging}
use Rattle.heap_image.specs.Heaps.{live_objects}
use Rattle.heap_image.specs.Load.{IsLoading}
use Rattle.heap_image.specs.Stages.{LeadsTo}
use Rattle.heap_image.proofs.SaveLemmas.{as_many}

-- the pages that objects with one more of n bytes need don't depend on the bounds
needed_with_any : (p : Profile) (bounds : List ℕ) (o : Objects) (n : ℕ)
    → pages_needed_with (paging_of p Words bounds) o n ≡ pages_needed_with (image_paging p) o n
unfolding pages_needed_with live class_for
needed_with_any p bounds o n = refl

needed_with_alike : (p : Paging) (m o : Objects) (n : ℕ) → CountAlike m o → pages_needed_with p o n ≡ pages_needed_with p m n
unfolding pages_needed_with live
needed_with_alike p m o n alike = sum_same _ _ (range_with_len 0 (classes p)) (λ c. ap
    (λ k. ceil_div (k + cond (nat_eq (class_for p n) c) 1 0) (slots_of p c)) (alike.sums _))

fits_not : (a b : ℕ) (c : Bool) → b < a → (nat_le a b && c) ≡ false
fits_not a b c lt = (let e : nat_le a b ≡ false = grind (arith, nat_tests) in ap (λ t. t && c) e)

room_not : (a : Bool) (b c : ℕ) → c < b → (a && nat_le b c) ≡ false
room_not true b c lt = grind (arith, nat_tests)
room_not false b c lt = refl

room_yes : (a b c d : ℕ) → a ≤ b → (d < c → ⊥) → (nat_le a b && nat_le c d) ≡ true
room_yes a b c d fit not = (let x : nat_le a b ≡ true = grind (arith, nat_tests) in let y : nat_le c d ≡ true = grind (arith, nat_tests) in ap
    (λ t. t && nat_le c d) x ∙ y)

module _ (old new : RunState) (loading : IsLoading old) (going : IsGoing new) where
  abbrev ids : Ids
  ids = old.session.ids

  abbrev m : Objects
  m = objects old.heap.held

  abbrev o : Objects
  o = live_objects old

  names : AreTiedTo ids m
  names = names_of_objects ids old.heap.held loading.going.tied.ids

  leads : (after : Objects) → new.heap.kind ≡ old.heap.kind → new.heap.profile ≡ old.heap.profile → new.heap.bounds ≡ old.heap.bounds
      → live_objects new ≡ after → LeadsTo old new after
  leads after k p b is = record {
    loading = record {
      going = going;
      kind = k ∙ loading.kind;
      ones = subst EveryBoundIsOne (sym (λ i. paging_of (p i) (layout_of (k i)) (b i))) loading.ones;
    };
    profile = p;
    objects = is;
  }

  -- a malloc of n bytes, for an id that isn't live
  module _ (id n : ℕ) (none : get o id ≡ None) (few : len o < old.heap.profile.proxies) (made : Bool) (call : MakesNamed old id n made new) where
    refused : (answer : Result Handle Refusal) → IsMallocStep old.heap n answer new.heap → need n ≤ old.heap.profile.page_words
        → LacksByNeed answer ↔ LacksProxyOrPages old.heap n
    refused answer step fits = refused_by_need Moving refl old.heap loading.going.rules loading.kind n loading.ones fits answer new.heap step

    needed : pages_needed_with (paging_in old.heap) m n ≡ pages_needed_with (image_paging old.heap.profile) o n
    needed = ap (λ (k : Kind). pages_needed_with (paging_of old.heap.profile (layout_of k) old.heap.bounds) m n) loading.kind
        ∙ needed_with_any old.heap.profile old.heap.bounds m n
        ∙ sym (needed_with_alike (image_paging old.heap.profile) m o n (by_id_counts ids m names))

    not_all : len old.heap.held ≡ old.heap.profile.proxies → ⊥
    not_all e = (let same = as_many old loading.going.tied in omega arith)

    -- the object was made if and only if there is room for it; `b` is whether it was made
    abbrev pub Made : Bool → Type 0
    Made b = (b ≡ has_room old.heap.profile o n) × OnTrue b (LeadsTo old new (insert o id (replicate n 0))) × OnFalse b (LeadsTo old new o)

    stays : ChangesCost old.heap new.heap → new.session.ids ≡ ids → LeadsTo old new o
    stays same e = leads o (ap (λ (s : HeapState). s.kind) same) (ap (λ (s : HeapState). s.profile) same) (ap (λ (s : HeapState). s.bounds) same)
        (λ i. objects_by_id (e i) (objects (same i).held))

    made_by : (answer : Result Handle Refusal) → IsMallocStep old.heap n answer new.heap → new.session.ids ≡ ids_given ids id answer → Made (is_ok answer)
    unfolding has_room
    made_by (Ok h) step e =
        let whole = step.whole in
        let unused : get m h.0 ≡ None = bytes_missing old.heap.held h.0 step.unused in
        let left : objects new.heap.held ≡ insert m h.0 (replicate n 0) = ap (λ (s : HeapState). objects s.held) whole
        ∙ malloc_objects old.heap.held h.0 step.place n in
        let room = (λ (lacks : old.heap.profile.pages < pages_needed_with (image_paging old.heap.profile) o n). (
        let want : LacksByNeed (Ok h) = (refused (Ok h) step step.fits).1 (inr (omega (arith, needed))) in
        absurd (elim want [
          | inl w ↦ (let z : Ok h ≡ Err refusal.Proxy = w in cc)
          | inr w ↦ (let z : Ok h ≡ Err refusal.Space = w in cc)
        ]))) in (
          sym (room_yes _ _ _ _ step.fits room),
          leads (insert o id (replicate n 0)) (ap (λ (s : HeapState). s.kind) whole) (ap (λ (s : HeapState). s.profile) whole)
              (ap (λ (s : HeapState). s.bounds) whole)
              ((λ i. objects_by_id (e i) (left i)) ∙ by_id_given ids m names id h.0 (replicate n 0) unused),
          tt,
        )
    made_by (Err refusal.Size) step e = (sym (fits_not _ _ _ step.0), tt, stays step.1 e)
    made_by (Err refusal.Proxy) step e = absurd (not_all step.0.all)
    made_by (Err refusal.Space) step e =
        let want = (refused (Err refusal.Space) step step.0.fits).0 (inr refl) in
        let lacks : old.heap.profile.pages < pages_needed_with (image_paging old.heap.profile) o n =
        elim want [ inl w ↦ absurd (not_all w) | inr w ↦ omega (arith, needed, w) ] in
        (sym (room_not _ _ _ lacks), tt, stays step.1 e)

    pub made_or_not : Made made
    made_or_not = subst Made (sym call.made_if) (made_by call.answer call.step (ap (λ (s : SessionState). s.ids) call.session))

    pub made_counts : new.session ≡ after_mallocs old.session true new.session.ids
    made_counts = call.session ∙ ap (λ (i : Ids). record old.session { ids = i; bound = 64 }) (sym (ap (λ (s : SessionState). s.ids) call.session))

  -- a write of bytes into a live object
  pub wrote : (id at : ℕ) (bytes v : List ℕ) → get o id ≡ Some v → WritesNamed old id at bytes new → LeadsTo old new (insert o id (written v at bytes))
  wrote id at bytes v some call =
      let step = call.step in
      let whole = step.whole in
      let found = bytes_held old.heap.held call.number step.object step.found in
      let e : Some step.object.bytes ≡ Some v = sym (live_by_id ids m id call.number step.object.bytes call.named found) ∙ some in
      let same : step.object.bytes ≡ v = cc in
      let left : objects new.heap.held ≡ insert m call.number (written v at bytes) = ap (λ (s : HeapState). objects s.held) whole
      ∙ map_values-insert (λ (x : Placed). x.bytes) old.heap.held call.number _
      ∙ ap (λ (b : List ℕ). insert m call.number (written b at bytes)) same in
      leads (insert o id (written v at bytes)) (ap (λ (s : HeapState). s.kind) whole) (ap (λ (s : HeapState). s.profile) whole)
      (ap (λ (s : HeapState). s.bounds) whole)
      ((λ i. objects_by_id ((call.session i).ids) (left i)) ∙ by_id_changed ids m names id call.number call.named (written v at bytes))

  -- a free of a live object
  module _ (id : ℕ) (call : FreesNamed old id new) where
    ids_left : new.session.ids ≡ remove ids id
    ids_left = ap (λ (s : SessionState). s.ids) call.session ∙ counted_ids _ call.freed.moved _

    pub freed : LeadsTo old new (remove o id)
    freed =
        let rest = call.step.rest in
        leads (remove o id) rest.kind rest.profile rest.bounds
        ((λ i. objects_by_id (ids_left i) (call.step.left i)) ∙ by_id_gone ids m names id call.number call.named)

    pub freed_counts : CountsFree old.session new.session
    freed_counts = record {
      freed = call.freed;
      counts = call.session
          ∙ ap (λ (i : Ids). counted (record old.session { ids = i; bound = 96 + 2 * call.freed.slot_words }) call.freed.moved call.freed.slot_words)
          (sym ids_left);
    }
