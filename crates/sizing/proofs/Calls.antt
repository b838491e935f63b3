-- How a malloc and a resize change the number of objects of a class, and what objects there are after a resize into another class. Each call of a run keeps the
-- arrangement sound, and each class within the pages that the most of its objects fill; and what each call keeps, a run keeps.
use Rattle.std.proofs.Common.{◌≡◌, ◌≢◌, ℕ, ◌+◌, ◌<◌, ◌≤◌, List, [], ◌∷◌, Option, Some, None, length, replicate, arith, ap, sym, ◌∙◌, inl, inr, refl, subst}
use Rattle.std.specs.Prelude.{nat_eq}
use Rattle.std.proofs.lemmas.Bool.{cases_eq}
use Rattle.std.proofs.lemmas.List.{length-replicate}
use Rattle.std.specs.FinMap.{get, insert, remove}
use Rattle.cf_base.proofs.Maps.{get_removed}
use Rattle.cf_base.proofs.MapValues.{map_values-insert}
use Rattle.cf_base.proofs.Ranges.{one}
use Rattle.cf_base.proofs.Sums.{insert_again}
use Rattle.cf_base.proofs.Tests.{eq_no, eq_yes}
use Rattle.page_model.specs.Arrangement.{IsSound, class_at, live, objects_on, pages_of_class}
use Rattle.page_model.specs.Counts.{ceil_div}
use Rattle.page_model.specs.Held.{Held, Objects, Placed, objects}
use Rattle.page_model.specs.Paging.{IsPaging, Paging, class_for, classes, page_of, slots_of}
use Rattle.page_model.specs.Steps.{CallResult, ChangesClass, IsFreePlace, Moves, PlacesObject, RefitsObject, RemovesObject, Request, resized, resized_at, without, zeros_at}
use Rattle.page_model.proofs.CallerLemmas.{bytes_held, bytes_missing, change_is, class-resized, class_of_zeros, free_objects, length-resized, live_added, live_taken}
use Rattle.page_model.proofs.CallerLemmas.{malloc_objects, objects_on-elsewhere, sound_exchanged, sound_free, sound_malloc, sound_resize}
use Rattle.page_model.proofs.Counting.{on_no}
use Rattle.page_model.proofs.OrderNumbers.{none_freed}
use Rattle.page_model.proofs.Parts.{freed_counts, in_place_counts, moved_counts}
use Rattle.sizing.specs.Demands.{HasAtMost}
use Rattle.sizing.specs.Runs.{Does, HeapCall, RunCallsBy, free_of, malloc_of, resize_of, write_of}
use Rattle.sizing.proofs.ClassPages.{no_more_pages, opened}

module _ (p : Paging) (m : Held) (h n : ℕ) where
  -- a malloc adds one object to its class
  pub live_malloced : get m h ≡ None → live p (insert (objects m) h (replicate n 0)) (class_for p n) ≡ live p (objects m) (class_for p n) + 1
  live_malloced unused =
      let added = live_added p (objects m) h (replicate n 0) (class_for p n) (bytes_missing m h unused) in
      let more : one (nat_eq (class_for p (length (replicate {A = ℕ} n 0))) (class_for p n)) ≡ 1 =
      ap one (eq_yes (class_for p (length (replicate {A = ℕ} n 0))) (class_for p n) (ap (class_for p) (length-replicate {A = ℕ} n 0))) in
      omega arith

  -- a resize takes an object from its class, and adds one to that of its new length
  pub live_moved : (x : Placed) → get m h ≡ Some x → (c : ℕ)
      → live p (insert (objects m) h (resized x.bytes n)) c + one (nat_eq (class_at p x) c) ≡ live p (objects m) c + one (nat_eq (class_for p n) c)
  live_moved x there c =
      let again : live p (insert (remove (objects m) h) h (resized x.bytes n)) c ≡ live p (insert (objects m) h (resized x.bytes n)) c =
      ap (λ o. live p o c) (insert_again (objects m) h (resized x.bytes n)) in
      let added = live_added p (remove (objects m) h) h (resized x.bytes n) c (get_removed (objects m) h) in
      let taken = live_taken p (objects m) h x.bytes c (bytes_held m h x there) in
      let same : one (nat_eq (class_for p (length (resized x.bytes n))) c) ≡ one (nat_eq (class_for p n) c) =
      ap (λ i. one (nat_eq (class_for p i) c)) (length-resized x.bytes n) in
      omega arith

  -- from another class, that is one more
  pub live_resized : (x : Placed) → get m h ≡ Some x → class_for p n ≢ class_at p x
      → live p (insert (objects m) h (resized x.bytes n)) (class_for p n) ≡ live p (objects m) (class_for p n) + 1
  live_resized x there other =
      let moved = live_moved x there (class_for p n) in
      let more : one (nat_eq (class_for p n) (class_for p n)) ≡ 1 = ap one (eq_yes (class_for p n) (class_for p n) refl) in
      let none_less : one (nat_eq (class_at p x) (class_for p n)) ≡ 0 = ap one (eq_no (class_at p x) (class_for p n) (λ e. other (sym e))) in
      omega arith

-- every class is within the pages that `most` objects of it fill
abbrev pub IsWithinPages : Paging → (ℕ → ℕ) → Held → Type 0
IsWithinPages p most m = (c : ℕ) → c < classes p → pages_of_class p m c ≤ ceil_div (most c) (slots_of p c)

module _ (p : Paging) (ok : IsPaging p) (old : Held) (s : IsSound p old) where
  pub sound_next : (call : HeapCall) (new : Held) → Does p old call new → IsSound p new
  sound_next (malloc_of h n) new step = sound_malloc p old (record { number = h; length = n }) new ok s step
  sound_next (free_of h) new step = sound_free p old h (record { held = new; moved = step.0 }) ok s step.1
  sound_next (resize_of h n) new step = sound_resize p old (record { number = h; length = n }) (record { held = new; moved = step.0 }) ok s step.1
  sound_next (write_of h v) new step =
      subst (IsSound p) (insert_again old h (record step.object { bytes = v }) ∙ sym step.left)
      (sound_exchanged p old h step.object step.found h v (get_removed old h) (ap (class_for p) step.long) s)

  -- after a free no page has more objects of a class
  freed_few : (h : ℕ) (x : Placed) → get old h ≡ Some x → (moved : Option ℕ) → Moves p old x moved → (c g : ℕ)
      → objects_on p (without old h x.place moved) c g ≤ objects_on p old c g
  freed_few h x there None never c g = (let e = freed_counts p ok old s h x there c g in omega arith)
  freed_few h x there (Some q) (must, (y, is, may)) c g = (let e = moved_counts p ok old s h x there q y is must may c g in omega arith)

  -- a free changes no count of another class than the freed object's
  freed_same : (h : ℕ) (x : Placed) → get old h ≡ Some x → (moved : Option ℕ) → Moves p old x moved → (c g : ℕ) → class_at p x ≢ c
      → objects_on p (without old h x.place moved) c g ≡ objects_on p old c g
  freed_same h x there None never c g ne = (let e = freed_counts p ok old s h x there c g in let z = on_no p c g x (inr ne) in omega arith)
  freed_same h x there (Some q) (must, (y, is, may)) c g ne = (
      let e = moved_counts p ok old s h x there q y is must may c g in
      let z = on_no p c g y (inr (λ f. ne (sym may.class ∙ f))) in
      omega arith)

  -- a resize into another class changes the object's length
  pub objects_changed : (asked : Request) (after : CallResult) → (step : ChangesClass p old asked after)
      → objects after.held ≡ insert (objects old) asked.number (resized step.object.bytes asked.length)
  objects_changed asked after step =
      let is = change_is p ok old s asked after step in
      let left : objects (without old asked.number step.object.place after.moved) ≡ remove (objects old) asked.number =
      free_objects p ok old s asked.number step.object step.found after.moved is.0 in
      ap objects is.1
      ∙ map_values-insert (λ (y : Placed). y.bytes) (without old asked.number step.object.place after.moved) asked.number (resized_at step.place step.object asked.length)
      ∙ ap (λ o. insert o asked.number (resized step.object.bytes asked.length)) left
      ∙ insert_again (objects old) asked.number (resized step.object.bytes asked.length)

  module _ (most : ℕ → ℕ) (before : IsWithinPages p most old) where
    -- An object y of n bytes is added at a free place to objects `base`, which are fewer than the old ones, but for its class.
    added_within : (base : Held) (h n : ℕ) (y : Placed) → get base h ≡ None → class_at p y ≡ class_for p n → IsFreePlace p old n y.place
        → ((c g : ℕ) → objects_on p base c g ≤ objects_on p old c g)
        → ((g : ℕ) → objects_on p base (class_for p n) g ≡ objects_on p old (class_for p n) g)
        → live p (objects old) (class_for p n) + 1 ≤ most (class_for p n) → IsWithinPages p most (insert base h y)
    added_within base h n y none class free few same le c lt = elim (cases_eq (class_for p n) c) [
      | inl is ↦ subst (λ d. pages_of_class p (insert base h y) d ≤ ceil_div (most d) (slots_of p d)) is
          (opened p ok old s (class_for p n) free.slot.class (page_of p y.place) free.slot.page (insert base h y)
          (λ g ne. objects_on-elsewhere p base h y none (class_for p n) g (inl (λ e. ne (sym e))) ∙ same g) free.choice (most (class_for p n)) le
          (before (class_for p n) free.slot.class))
      | inr ne ↦ (
          let fewer = no_more_pages p old (insert base h y) c (λ g. (
          let e = objects_on-elsewhere p base h y none c g (inr (λ e. ne (sym class ∙ e))) in
          let f = few c g in
          omega arith)) in
          let b = before c lt in
          omega arith)
    ]

    malloc_within : (h n : ℕ) (new : Held) → PlacesObject p old (record { number = h; length = n }) new → HasAtMost p most (objects new) → IsWithinPages p most new
    malloc_within h n new step few =
        let few' : HasAtMost p most (insert (objects old) h (replicate n 0)) =
        subst (HasAtMost p most) (ap objects step.placed ∙ malloc_objects old h step.place n) few in
        subst (IsWithinPages p most) (sym step.placed)
        (added_within old h n (zeros_at step.place n) step.unused (class_of_zeros p step.place n _ refl) step.free (λ c g. omega arith) (λ g. refl)
        (let a = few' (class_for p n) step.free.slot.class in let b = live_malloced p old h n step.unused in omega arith))

    free_within : (h : ℕ) (after : CallResult) → RemovesObject p old h after → IsWithinPages p most after.held
    free_within h after step c lt =
        let same : pages_of_class p after.held c ≡ pages_of_class p (without old h step.freed.place after.moved) c = ap (λ m. pages_of_class p m c) step.left in
        let fewer = no_more_pages p old (without old h step.freed.place after.moved) c (freed_few h step.freed step.found after.moved step.moves c) in
        let b = before c lt in
        omega arith

    -- other bytes of the same class in the same slot
    rewritten_within : (h : ℕ) (x : Placed) (v : List ℕ) → get old h ≡ Some x → class_for p (length v) ≡ class_at p x
        → IsWithinPages p most (insert old h (record { place = x.place; bytes = v }))
    rewritten_within h x v there same c lt =
        let fewer = no_more_pages p old (insert old h (record { place = x.place; bytes = v })) c (λ g. (
        let e = in_place_counts p old h (length v) x there same v refl c g in
        omega arith)) in
        let b = before c lt in
        omega arith

    resize_within : (asked : Request) (after : CallResult) → RefitsObject p old asked after → HasAtMost p most (objects after.held)
        → IsWithinPages p most after.held
    resize_within asked after (inl step) few = subst (IsWithinPages p most) (sym step.placed)
        (rewritten_within asked.number step.object (resized step.object.bytes asked.length) step.found
        (class-resized p step.object.place asked.length step.object ∙ step.same))
    resize_within asked after (inr step) few =
        let is = change_is p ok old s asked after step in
        let few' : HasAtMost p most (insert (objects old) asked.number (resized step.object.bytes asked.length)) =
        subst (HasAtMost p most) (objects_changed asked after step) few in
        subst (IsWithinPages p most) (sym is.1)
        (added_within (without old asked.number step.object.place after.moved) asked.number asked.length (resized_at step.place step.object asked.length)
        (none_freed p ok old s asked.number step.object step.found after.moved is.0) (class-resized p step.place asked.length step.object) step.free
        (freed_few asked.number step.object step.found after.moved is.0)
        (λ g. freed_same asked.number step.object step.found after.moved is.0 (class_for p asked.length) g (λ e. step.other (sym e)))
        (let a = few' (class_for p asked.length) step.free.slot.class in
        let b = live_resized p old asked.number asked.length step.object step.found step.other in
        omega arith))

    pub within_next : (call : HeapCall) (new : Held) → Does p old call new → HasAtMost p most (objects new) → IsWithinPages p most new
    within_next (malloc_of h n) new step few = malloc_within h n new step few
    within_next (free_of h) new step few = free_within h (record { held = new; moved = step.0 }) step.1
    within_next (resize_of h n) new step few = resize_within (record { number = h; length = n }) (record { held = new; moved = step.0 }) step.1 few
    within_next (write_of h v) new step few = subst (IsWithinPages p most) (sym step.left)
        (rewritten_within h step.object v step.found (ap (class_for p) step.long))

-- what each call keeps, a run keeps
pub run_keeps : (step : Held → HeapCall → Held → Type 0) (allowed : Objects → Type 0) (P : Held → Type 0)
    → ((old new : Held) (call : HeapCall) → P old → step old call new → allowed (objects new) → P new) → (calls : List HeapCall) (m last : Held) → P m
    → RunCallsBy step allowed m calls last → P last
run_keeps step allowed P next [] m last k is = subst P (sym is) k
run_keeps step allowed P next (call ∷ rest) m last k run = run_keeps step allowed P next rest run.0 last (next m run.0 call k run.1 run.2) run.3
