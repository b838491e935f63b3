-- A run is in progress (`IsGoing`) when it begins, and every step keeps it so: its heap is open and keeps its rules, kind and settings, and its ids are those
-- of the objects. Also the step of each command that names an id, by the id's handle; what a refused resize keeps; and that a resize keeps the ids, and
-- counting a move the step bound.
use Rattle.std.specs.Prelude.{ℕ, List, Option, codes}
use Rattle.std.specs.Option.{MatchOption}
use Rattle.run_model.specs.Terms.{AccessFault, AreTied, Bound, Command, CostsAtMost, CostsByKind, counted, family_of, Free, get, Handle, HeapState, Held, Ids, insert, IsGoing, KeepsRules, Kind, Malloc, objects, paged, Position, Profile, Refusal, remove, Reply, Request, Resize, Resized, ResizeFault, RunState, SessionState, tiled, with_bound, Write}
use Rattle.run_model.specs.Steps.{Frees, Mallocs, Resizes, Stays, Writes, Step, class_to_bound, ids_given, session_resized}
use Rattle.std.proofs.Common.{◌≡◌, Some, None, Result, Ok, Err, sym, ◌∙◌, ap, subst, refl}
use Rattle.id_table.specs.Ties.{AreTiedTo}
use Rattle.id_table.proofs.CallerLemmas.{costs_at_most, counted_ids, names_of_held, names_of_objects, tied_less, tied_more, tied_same, costs_nothing, none_tied}
use Rattle.page_model.proofs.CallerLemmas.{bytes_held}
use Rattle.cf_model.specs.Families.{Family}
use Rattle.cf_model.specs.Steps.{ChangesCost, IsMallocStep, IsResizeStep, IsLeftByRefusal, IsWriteStep}
use Rattle.run_model.specs.Runs.{Begins}

-- The step of a run (`Step`) for each command that names an id, as a function of `o`, the id's handle, or `None` if the id isn't live: for proofs by these
-- two cases.

abbrev pub MallocsAt : Option ℕ → RunState → Request → Reply → RunState → Type 0
MallocsAt o old asked reply new = MatchOption o (Mallocs old asked reply new) (λ h. Stays old (codes "live") reply new)

abbrev pub FreesAt : Option ℕ → RunState → ℕ → Reply → RunState → Type 0
FreesAt o old id reply new = MatchOption o (Stays old (codes "unknown") reply new) (λ h. Frees old (record { id = id; number = h }) reply new)

abbrev pub WritesAt : Option ℕ → RunState → ℕ → List ℕ → Reply → RunState → Type 0
WritesAt o old at bytes reply new = MatchOption o (Stays old (codes "unknown") reply new) (λ h. Writes old (record { number = h; from = at }) bytes reply new)

abbrev pub ResizesAt : Option ℕ → RunState → ℕ → Reply → RunState → Type 0
ResizesAt o old bytes reply new = MatchOption o (Stays old (codes "unknown") reply new) (λ h. Resizes old (record { number = h; length = bytes }) reply new)

-- Every step of a run keeps session and heap consistent (`AreTied`): each live id names one live handle, each handle has one id, and the last cost is within
-- the session's step bound.

pub counted_bound : {T : Type 0} (s : SessionState) (o : Option T) (n : ℕ) → (counted s o n).bound ≡ s.bound
counted_bound s None n = refl
counted_bound s (Some h) n = refl

pub resized_ids : (s : SessionState) (answer : Result Resized ResizeFault) → (session_resized s answer).ids ≡ s.ids
resized_ids s (Ok done) = counted_ids s done.moved done.old_slot_words
resized_ids s (Err e) = refl

resized_bound : (s : SessionState) (answer : Result Resized ResizeFault) → (session_resized s answer).bound ≡ s.bound
resized_bound s (Ok done) = counted_bound s done.moved done.old_slot_words
resized_bound s (Err e) = refl

-- a refused resize changes at most the cost
pub unmoved_changes_cost : (k : Kind) (old new : HeapState) → IsLeftByRefusal k old new → ChangesCost old new
unmoved_changes_cost k old new is = by_family (family_of k) refl
  where
    by_family : (f : Family) → family_of k ≡ f → ChangesCost old new
    by_family paged e = rw (e, IsLeftByRefusal) at is
    by_family tiled e = (let same : new ≡ old = rw (e, IsLeftByRefusal) at is in rw same refl)

-- a refused resize keeps the objects
pub unmoved_held : (k : Kind) (old new : HeapState) → IsLeftByRefusal k old new → new.held ≡ old.held
unmoved_held k old new is = ap (λ (s : HeapState). s.held) (unmoved_changes_cost k old new is)

-- a cost within the bound of its kind is within the bound with pages, if the kind has pages
pub costs_with_pages : (k : Kind) (cost n m : ℕ) → CostsByKind k cost n m → CostsAtMost k cost n
costs_with_pages k cost n m within = costs_at_most k cost n (λ is. rw (is, CostsByKind) at within)

module _ (old new : RunState) (tied : AreTied old.session old.heap) where
  abbrev names : AreTiedTo old.session.ids old.heap.held
  names = tied.ids

  -- from the ids, the objects and the bound of the new state: session and heap are consistent
  tied_with : (session : SessionState) (ids : Ids) (m : Held) (bound : ℕ) → new.session ≡ session → session.ids ≡ ids → session.bound ≡ bound
      → new.heap.held ≡ m → AreTiedTo ids m → CostsAtMost new.heap.kind new.heap.cost bound → AreTied new.session new.heap
  tied_with session ids m bound e i b f names cost =
      let a : new.session.ids ≡ ids = ap (λ (s : SessionState). s.ids) e ∙ i in
      let c : new.session.bound ≡ bound = ap (λ (s : SessionState). s.bound) e ∙ b in
      let n : AreTiedTo new.session.ids new.heap.held = subst (λ k. AreTiedTo k new.heap.held) (sym a) (subst (λ h. AreTiedTo ids h) (sym f) names) in
      record { ids = n; cost = subst (λ k. CostsAtMost new.heap.kind new.heap.cost k) (sym c) cost }

  malloc_names : (id n : ℕ) (answer : Result Handle Refusal) → get old.session.ids id ≡ None → IsMallocStep old.heap n answer new.heap
      → AreTiedTo (ids_given old.session.ids id answer) new.heap.held
  malloc_names id n (Ok h) none step = subst (λ m. AreTiedTo (insert old.session.ids id h.0) m) (sym (ap (λ (s : HeapState). s.held) step.whole))
      (tied_more old.session.ids old.heap.held names id h.0 _ none step.unused)
  malloc_names id n (Err e) none step = subst (λ m. AreTiedTo old.session.ids m) (sym (ap (λ (s : HeapState). s.held) step.1)) names

  malloc_tied : (asked : Request) (reply : Reply) → get old.session.ids asked.number ≡ None → Mallocs old asked reply new → AreTied new.session new.heap
  malloc_tied asked reply none step = tied_with _ _ _ 64 step.session refl refl refl
      (malloc_names asked.number asked.length step.answer none step.step)
      (costs_with_pages new.heap.kind new.heap.cost _ _ step.cost)

  free_tied : (id h : ℕ) (reply : Reply) → get old.session.ids id ≡ Some h → Frees old (record { id = id; number = h }) reply new → AreTied new.session new.heap
  free_tied id h reply some step =
      let gone = tied_less old.session.ids (objects old.heap.held) (names_of_objects old.session.ids old.heap.held names) id h some in
      let left = names_of_held (remove old.session.ids id) new.heap.held (subst (λ m. AreTiedTo (remove old.session.ids id) m) (sym step.step.left) gone) in
      tied_with _ _ _ _ step.session (counted_ids _ step.freed.moved _) (counted_bound _ step.freed.moved _) refl left
      (costs_with_pages new.heap.kind new.heap.cost _ _ step.cost)

  write_tied : (position : Position) (bytes : List ℕ) (answer : Result Unit AccessFault) → new.session ≡ old.session → IsWriteStep old.heap position bytes answer new.heap
      → AreTied new.session new.heap
  write_tied position bytes (Ok u) e step =
      let kept = tied_same old.session.ids old.heap.held names position.number step.object _ step.found in
      let whole = step.whole in
      tied_with _ _ _ _ e refl refl (ap (λ (s : HeapState). s.held) whole) kept
      (subst (λ (s : HeapState). CostsAtMost s.kind s.cost old.session.bound) (sym whole) tied.cost)
  write_tied position bytes (Err f) e step = subst (λ (s : SessionState). AreTied s new.heap) (sym e)
      (subst (λ (s : HeapState). AreTied old.session s) (sym step.1) tied)

  resize_names : (asked : Request) (answer : Result Resized ResizeFault) → IsResizeStep old.heap asked answer new.heap → AreTiedTo old.session.ids new.heap.held
  resize_names asked (Ok done) step =
      let x : get (objects old.heap.held) asked.number ≡ Some step.object.bytes = bytes_held old.heap.held asked.number step.object step.found in
      let kept = tied_same old.session.ids (objects old.heap.held)
      (names_of_objects old.session.ids old.heap.held names) asked.number step.object.bytes _ x in
      names_of_held old.session.ids new.heap.held (subst (λ m. AreTiedTo old.session.ids m) (sym step.left) kept)
  resize_names asked (Err e) step = subst (λ m. AreTiedTo old.session.ids m) (sym (unmoved_held old.heap.kind old.heap new.heap step.1)) names

  resize_tied : (asked : Request) (reply : Reply) → Resizes old asked reply new → AreTied new.session new.heap
  resize_tied asked reply step = tied_with _ _ _ _ step.session (resized_ids _ step.answer) (resized_bound _ step.answer) refl
      (resize_names asked step.answer step.step) step.cost

  bound_tied : (c : Option ℕ) (k : ℕ) → new.session ≡ old.session → new.heap ≡ with_bound old.heap c k → AreTied new.session new.heap
  bound_tied None k e is = subst (λ (s : SessionState). AreTied s new.heap) (sym e) (subst (λ (s : HeapState). AreTied old.session s) (sym is) tied)
  bound_tied (Some c) k e is = tied_with _ _ _ _ e refl refl (ap (λ (s : HeapState). s.held) is) names
      (subst (λ (s : HeapState). CostsAtMost s.kind s.cost old.session.bound) (sym is) tied.cost)

  still_tied : new ≡ old → AreTied new.session new.heap
  still_tied e = subst (λ (s : RunState). AreTied s.session s.heap) (sym e) tied

  at_malloc : (o : Option ℕ) (asked : Request) (reply : Reply) → get old.session.ids asked.number ≡ o → MallocsAt o old asked reply new
      → AreTied new.session new.heap
  at_malloc (Some h) asked reply is step = still_tied step.1
  at_malloc None asked reply is step = malloc_tied asked reply is step

  at_free : (o : Option ℕ) (id : ℕ) (reply : Reply) → get old.session.ids id ≡ o → FreesAt o old id reply new → AreTied new.session new.heap
  at_free None id reply is step = still_tied step.1
  at_free (Some h) id reply is step = free_tied id h reply is step

  at_write : (o : Option ℕ) (at : ℕ) (bytes : List ℕ) (reply : Reply) → WritesAt o old at bytes reply new → AreTied new.session new.heap
  at_write None at bytes reply step = still_tied step.1
  at_write (Some h) at bytes reply step = write_tied (record { number = h; from = at }) bytes step.answer step.session step.step

  at_resize : (o : Option ℕ) (bytes : ℕ) (reply : Reply) → ResizesAt o old bytes reply new → AreTied new.session new.heap
  at_resize None bytes reply step = still_tied step.1
  at_resize (Some h) bytes reply step = resize_tied (record { number = h; length = bytes }) reply step

  tied_after : (c : Command) (reply : Reply) → Step old c reply new → AreTied new.session new.heap
  tied_after (Malloc id bytes) reply step = at_malloc (get old.session.ids id) _ reply refl step
  tied_after (Free id) reply step = at_free (get old.session.ids id) id reply refl step
  tied_after (Write id at bytes) reply step = at_write (get old.session.ids id) at bytes reply step
  tied_after (Resize id bytes) reply step = at_resize (get old.session.ids id) bytes reply step
  tied_after (Bound slot_words k) reply step = bound_tied (class_to_bound old.heap slot_words) k step.session step.heap
  tied_after _ reply step = still_tied step.1

-- after each step the live ids name exactly the live handles
pub step_tied : (old new : RunState) (c : Command) (reply : Reply) → AreTied old.session old.heap → Step old c reply new → AreTied new.session new.heap
step_tied old new c reply tied step = tied_after old new tied c reply step

-- A run stays in progress (`IsGoing`: its heap is open and keeps its rules, its ids are those of the objects): this holds after the `heap` line, and every
-- step keeps it, as it keeps kind and settings.

-- two states of a manager have the same kind, the same settings, and are both open or both closed
pub record IsSame (old new : HeapState) : Type 0 where
  pub kind : new.kind ≡ old.kind
  pub opened : new.is_open ≡ old.is_open
  pub profile : new.profile ≡ old.profile

-- a state equal to one that keeps kind, settings and openness keeps them too
same_as : (old new next : HeapState) → new ≡ next → IsSame old next → IsSame old new
same_as old new next e s = subst (IsSame old) (sym e) s

module _ (old new : HeapState) where
  malloc_same : (n : ℕ) (answer : Result Handle Refusal) → IsMallocStep old n answer new → IsSame old new
  malloc_same n (Ok h) step = same_as old new _ step.whole (record { kind = refl; opened = refl; profile = refl })
  malloc_same n (Err e) step = same_as old new _ step.1 (record { kind = refl; opened = refl; profile = refl })

  write_same : (position : Position) (bytes : List ℕ) (answer : Result Unit AccessFault) → IsWriteStep old position bytes answer new → IsSame old new
  write_same position bytes (Ok u) step = same_as old new _ step.whole (record { kind = refl; opened = refl; profile = refl })
  write_same position bytes (Err e) step = same_as old new _ step.1 (record { kind = refl; opened = refl; profile = refl })

  unmoved_same : (k : Kind) → IsLeftByRefusal k old new → IsSame old new
  unmoved_same k is = same_as old new _ (unmoved_changes_cost k old new is) (record { kind = refl; opened = refl; profile = refl })

  resize_same : (asked : Request) (answer : Result Resized ResizeFault) → IsResizeStep old asked answer new → IsSame old new
  resize_same asked (Ok done) step = same_as old new _ step.whole (record { kind = refl; opened = refl; profile = refl })
  resize_same asked (Err e) step = unmoved_same old.kind step.1

  bound_same : (c : Option ℕ) (k : ℕ) → new ≡ with_bound old c k → IsSame old new
  bound_same None k is = same_as old new _ is (record { kind = refl; opened = refl; profile = refl })
  bound_same (Some c) k is = same_as old new _ is (record { kind = refl; opened = refl; profile = refl })

-- what a step keeps of the heap: kind, settings and openness, and its rules
record Kept (old new : HeapState) : Type 0 where
  same : IsSame old new
  rules : KeepsRules new

module _ (old new : RunState) (rules : KeepsRules old.heap) where
  still : new ≡ old → Kept old.heap new.heap
  still e = subst (λ (s : RunState). Kept old.heap s.heap) (sym e) (record { same = record { kind = refl; opened = refl; profile = refl }; rules = rules })

  kept_malloc : (o : Option ℕ) (asked : Request) (reply : Reply) → MallocsAt o old asked reply new → Kept old.heap new.heap
  kept_malloc (Some h) asked reply step = still step.1
  kept_malloc None asked reply step = record { same = malloc_same old.heap new.heap asked.length step.answer step.step; rules = step.rules }

  kept_free : (o : Option ℕ) (id : ℕ) (reply : Reply) → FreesAt o old id reply new → Kept old.heap new.heap
  kept_free None id reply step = still step.1
  kept_free (Some h) id reply step = record {
    same = (let rest = step.step.rest in record { kind = rest.kind; opened = rest.opened; profile = rest.profile });
    rules = step.rules;
  }

  kept_write : (o : Option ℕ) (at : ℕ) (bytes : List ℕ) (reply : Reply) → WritesAt o old at bytes reply new → Kept old.heap new.heap
  kept_write None at bytes reply step = still step.1
  kept_write (Some h) at bytes reply step = record {
    same = write_same old.heap new.heap (record { number = h; from = at }) bytes step.answer step.step;
    rules =
        step.rules;
  }

  kept_resize : (o : Option ℕ) (bytes : ℕ) (reply : Reply) → ResizesAt o old bytes reply new → Kept old.heap new.heap
  kept_resize None bytes reply step = still step.1
  kept_resize (Some h) bytes reply step = record {
    same = resize_same old.heap new.heap (record { number = h; length = bytes }) step.answer step.step;
    rules =
        step.rules;
  }

  kept : (c : Command) (reply : Reply) → Step old c reply new → Kept old.heap new.heap
  kept (Malloc id bytes) reply step = kept_malloc (get old.session.ids id) _ reply step
  kept (Free id) reply step = kept_free (get old.session.ids id) id reply step
  kept (Write id at bytes) reply step = kept_write (get old.session.ids id) at bytes reply step
  kept (Resize id bytes) reply step = kept_resize (get old.session.ids id) bytes reply step
  kept (Bound slot_words k) reply step = record { same = bound_same old.heap new.heap (class_to_bound old.heap slot_words) k step.heap; rules = step.rules }
  kept _ reply step = still step.1

-- a step keeps the kind, the settings and whether the manager is open
pub step_same : (old new : RunState) (c : Command) (reply : Reply) → KeepsRules old.heap → Step old c reply new → IsSame old.heap new.heap
step_same old new c reply rules step = (kept old new rules c reply step).same

-- a step keeps the rules of the heap
pub step_rules : (old new : RunState) (c : Command) (reply : Reply) → KeepsRules old.heap → Step old c reply new → KeepsRules new.heap
step_rules old new c reply rules step = (kept old new rules c reply step).rules

-- each step of a run in progress leaves it in progress
pub step_going : (old new : RunState) (c : Command) (reply : Reply) → IsGoing old → Step old c reply new → IsGoing new
step_going old new c reply going step = record {
  opened = (step_same old new c reply going.rules step).opened ∙ going.opened;
  rules = step_rules old new c reply going.rules step;
  tied = step_tied old new c reply going.tied step;
}

-- a run is in progress when it begins
pub begins_going : (kind : Kind) (p : Profile) (s : RunState) → Begins kind p s → IsGoing s
begins_going kind p s begins = record {
  opened = ap (λ (h : HeapState). h.is_open) begins.heap;
  rules = begins.rules;
  tied = record {
    ids = none_tied s.session.ids s.heap.held (ap (λ (t : SessionState). t.ids) begins.session) (ap (λ (t : HeapState). t.held) begins.heap);
    cost = costs_nothing s.heap.kind s.heap.cost s.session.bound (ap (λ (h : HeapState). h.cost) begins.heap);
  };
}
