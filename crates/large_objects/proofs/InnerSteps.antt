-- What the calls of a *ready* inner manager (open, with pages and every bound 1) do to its objects: it refuses no malloc that has room, no free of a live
-- object, and no access within an object, and stays ready, with the same pages and classes. It keeps the rules of pages. Its lengths and handles are small.
use Rattle.std.proofs.Common.{◌≡◌, ℕ, ◌+◌, ◌*◌, ◌^◌, ◌<◌, ◌≤◌, List, Some, None, true, length, take, drop, arith, sym, ◌∙◌, ap, refl, subst}
use Rattle.std.specs.Prelude.{Result, Ok, Err, is_some}
use Rattle.std.proofs.lemmas.Option.{same_Some}
use Rattle.std.proofs.lemmas.Nat.{mul-le}
use Rattle.std.specs.FinMap.{get}
use Rattle.cf_base.specs.declared.results.AccessFault.{AccessFault}
use Rattle.cf_base.specs.declared.results.AccessFault.TheVariants as access
use Rattle.cf_base.specs.declared.results.Freed.{Freed}
use Rattle.cf_base.specs.declared.results.Handle.{Handle}
use Rattle.cf_base.specs.declared.results.NotLive.{NotLive}
use Rattle.cf_base.specs.declared.results.Refusal.{Refusal}
use Rattle.cf_base.specs.declared.results.Refusal.TheVariants as refusal
use Rattle.cf_base.proofs.MapValues.{map_values-insert}
use Rattle.page_model.specs.Arrangement.{LacksRoom}
use Rattle.page_model.specs.Held.{Objects, Placed, objects}
use Rattle.page_model.specs.Paging.{EveryBoundIsOne, Paging, class_for, paging_of}
use Rattle.page_model.proofs.CallerLemmas.{class_fits, class_holds, lacks_room_at_one, len-objects, malloc_objects, slot_fits}
use Rattle.cf_model.specs.Families.{family_of}
use Rattle.cf_model.specs.Ordered.{FreeByOrder, IsOrderedFree, IsOrderedMalloc, KeepsPromise, MallocByOrder}
use Rattle.cf_model.specs.Rules.{KeepsPages, KeepsRules}
use Rattle.cf_model.specs.State.{HeapState, layout_of, paging_in}
use Rattle.cf_model.specs.Steps.{AddsObject, IsFault, IsFreeStep, IsReadAnswer, IsRefusedBy, IsWriteStep, KeepsSettings, LacksRoomIn, Position}
use Rattle.cf_model.proofs.CallerLemmas.{order_stays, pages_kept}
use Rattle.page_model.proofs.CallerLemmas.{bytes_held, bytes_missing, held_of_bytes}
use Rattle.large_objects.specs.InnerCalls.{FreesInner, MakesOneInner, HasInner, HasInnerRoom, IsReadyInner, StaysReady, WritesInner}

-- a ready manager keeps the rules of its pages
pub keeps_pages : (s : HeapState) → IsReadyInner s → KeepsPages s
keeps_pages s r = pages_kept s.kind s r.pages r.rules.of_kind

-- a manager that keeps its settings and bounds has the same pages and classes
pub same_paging : (old new : HeapState) → KeepsSettings old new → paging_in new ≡ paging_in old
same_paging old new k =
    ap (λ kind. paging_of new.profile (layout_of kind) new.bounds) k.kind
    ∙ ap (λ p. paging_of p (layout_of old.kind) new.bounds) k.profile
    ∙ ap (λ b. paging_of old.profile (layout_of old.kind) b) k.bounds

pub stays_ready : (old new : HeapState) → IsReadyInner old → KeepsSettings old new → KeepsPromise old new → KeepsRules new → StaysReady old new
stays_ready old new r k promise rules = record {
  settings = k;
  promise = promise;
  ready = record {
    opened = (let e : new.is_open ≡ true = k.opened ∙ r.opened in e);
    rules = rules;
    pages = ap family_of k.kind ∙ r.pages;
    ones = subst (λ (p : Paging). EveryBoundIsOne p) (sym (same_paging old new k)) r.ones;
  };
}

-- two calls, one after the other, leave a ready manager too
pub then_ready : (a b c : HeapState) → StaysReady a b → StaysReady b c → StaysReady a c
then_ready a b c x y = record {
  settings = record {
    kind = y.settings.kind ∙ x.settings.kind;
    opened = y.settings.opened ∙ x.settings.opened;
    profile = y.settings.profile ∙ x.settings.profile;
    bounds = y.settings.bounds ∙ x.settings.bounds;
  };
  promise = y.promise ∙ x.promise;
  ready = y.ready;
}

pub same_ready : (s : HeapState) → IsReadyInner s → StaysReady s s
same_ready s r = record { settings = record { kind = refl; opened = refl; profile = refl; bounds = refl }; promise = refl; ready = r }

pub not_both : (o : Objects) (h : ℕ) (v : List ℕ) → get o h ≡ Some v → get o h ≡ None → ⊥
not_both o h v some none = (let g : Some v ≡ None = sym some ∙ none in cc)

-- a malloc with room isn't refused
pub inner_not_refused : (s : HeapState) (n : ℕ) → IsReadyInner s → HasInnerRoom s n → (e : Refusal) → IsRefusedBy s n e → ⊥
inner_not_refused s n r room refusal.Size cause = (let fits = room.fits in omega arith)
inner_not_refused s n r room refusal.Proxy cause = (let few = room.few in let all = cause.all in let l = len-objects s.held in omega arith)
inner_not_refused s n r room refusal.Space cause =
    let lacking : LacksRoom (paging_in s) s.held (class_for (paging_in s) n) = rw (r.pages, LacksRoomIn) at cause.lacking in
    let kept = keeps_pages s r in
    let past = (lacks_room_at_one (paging_in s) kept.paging r.ones s.held kept.sound n (class_fits (paging_in s) kept.paging n room.fits)).0 lacking in
    let pages = room.pages in omega arith

pub inner_given : (old new : HeapState) (h : Handle) (n : ℕ) → IsReadyInner old → AddsObject old (record { number = h.0; length = n }) new
    → IsOrderedMalloc old n (Ok h) new → KeepsRules new → MakesOneInner old h.0 n new
inner_given old new h n r given ordered rules = record {
  stays = stays_ready old new r (record {
    kind = ap (λ (s : HeapState). s.kind) given.whole;
    opened = ap (λ (s : HeapState). s.is_open) given.whole;
    profile = ap (λ (s : HeapState). s.profile) given.whole;
    bounds = ap (λ (s : HeapState). s.bounds) given.whole;
  }) (order_stays (MallocByOrder old n (Ok h) new) old.order new.order ordered) rules;
  unused = bytes_missing old.held h.0 given.unused;
  below = (let h = given.in_range in let f = r.rules.settings.few_proxies in omega arith);
  left = ap (λ (s : HeapState). objects s.held) given.whole ∙ malloc_objects old.held h.0 given.place n;
}

module _ (old : HeapState) (position : Position) (count : ℕ) (has : HasInner old position.number position.from count) where
  -- a read or write of bytes that the object has isn't refused
  pub inner_no_fault : (e : AccessFault) → IsFault old position count e → ⊥
  inner_no_fault access.Unknown none = not_both (objects old.held) position.number has.bytes has.found (bytes_missing old.held position.number none)
  inner_no_fault access.Range past =
      let e = same_Some past.object.bytes has.bytes (sym (bytes_held old.held position.number past.object past.found) ∙ has.found) in
      let l = ap length e in let more = past.past in let within = has.within in omega arith

pub inner_written : (old new : HeapState) (position : Position) (bytes : List ℕ) (r : Result Unit AccessFault) → IsReadyInner old
    → HasInner old position.number position.from (length bytes)
    → IsWriteStep old position bytes r new → KeepsRules new → WritesInner old position.number position.from bytes new
inner_written old new position bytes (Ok u) ready has step rules = record {
  stays = stays_ready old new ready (record {
    kind = ap (λ (s : HeapState). s.kind) step.whole;
    opened = ap (λ (s : HeapState). s.is_open) step.whole;
    profile = ap (λ (s : HeapState). s.profile) step.whole;
    bounds = ap (λ (s : HeapState). s.bounds) step.whole;
  }) (ap (λ (s : HeapState). is_some s.order) step.whole) rules;
  object = step.object.bytes;
  found = bytes_held old.held position.number step.object step.found;
  left = ap (λ (s : HeapState). objects s.held) step.whole ∙ map_values-insert (λ (x : Placed). x.bytes) old.held position.number _;
}
inner_written old new position bytes (Err e) ready has (fault, same) rules = absurd (inner_no_fault old position (length bytes) has e fault)

pub inner_read : (s : HeapState) (position : Position) (room out : List ℕ) (r : Result Unit AccessFault) (v : List ℕ) → get (objects s.held) position.number ≡ Some v
    → position.from + length room ≤ length v → IsReadAnswer s position room r out → out ≡ take (length room) (drop position.from v)
inner_read s position room out (Ok u) v found within answer =
    let e = same_Some answer.object.bytes v (sym (bytes_held s.held position.number answer.object answer.found) ∙ found) in
    answer.value ∙ ap (λ (b : List ℕ). take (length room) (drop position.from b)) e
inner_read s position room out (Err e) v found within (fault, same) =
    absurd (inner_no_fault s position (length room) (record { bytes = v; found = found; within = within }) e fault)

pub inner_freed : (old new : HeapState) (h : ℕ) (v : List ℕ) (r : Result Freed NotLive) → IsReadyInner old → get (objects old.held) h ≡ Some v
    → IsFreeStep old h r new → IsOrderedFree old h r new → KeepsRules new → FreesInner old h new
inner_freed old new h v (Ok freed) ready found step ordered rules = record {
  stays = stays_ready old new ready step.rest (order_stays (FreeByOrder old h (Ok freed) new) old.order new.order ordered) rules;
  left = step.left;
}
inner_freed old new h v (Err e) ready found (none, same) ordered rules =
    absurd (not_both (objects old.held) h v found (bytes_missing old.held h none))

pub page_small : (s : HeapState) → IsReadyInner s → s.profile.page_words ≤ 2 ^ 23
page_small s r =
    let small = r.rules.settings.small_region in
    let m : 1 * s.profile.page_words ≤ s.profile.pages * s.profile.page_words =
    mul-le 1 s.profile.page_words s.profile.pages s.profile.page_words r.rules.settings.some_pages (omega arith) in
    omega arith

-- an inner object is not longer than a page, so its length is a number of 32 bits
pub inner_small : (s : HeapState) → IsReadyInner s → (q : ℕ) (v : List ℕ) → get (objects s.held) q ≡ Some v → length v < 2 ^ 27
inner_small s r q v is =
    let x = held_of_bytes s.held q v is in
    let kept = keeps_pages s r in
    let slot = kept.sound.slots q x.0 x.1 in
    let holds = class_holds (paging_in s) kept.paging (length x.0.bytes) slot.class in
    let fits = slot_fits (paging_in s) kept.paging (class_for (paging_in s) (length x.0.bytes)) slot.class in
    let l = ap length x.2 in
    let small = page_small s r in omega arith

-- a handle that is live is below the number of proxies
pub handle_below : (s : HeapState) → IsReadyInner s → (q : ℕ) (v : List ℕ) → get (objects s.held) q ≡ Some v → q < s.profile.proxies
handle_below s r q v is = (let x = held_of_bytes s.held q v is in r.rules.numbers.handles q x.0 x.1)
