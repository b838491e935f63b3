-- Ids are tied to objects with their addresses if and only if they are tied to the bytes alone; counting keeps the ids; a cost is within a bound
-- (`CostsAtMost`) with blocks always, with pages if it is at most the bound, so always if it is 0; a write within an object has no fault; and a run is in
-- progress with any session state equal to its own.
use Rattle.std.proofs.Common.{◌≡◌, ◌≤◌, ℕ, ◌+◌, Option, Some, None, length, ap, sym, ◌∙◌, refl, arith, subst}
use Rattle.std.specs.Prelude.{option_map}
use Rattle.std.specs.FinMap.{get}
use Rattle.cf_base.specs.declared.results.AccessFault.{AccessFault}
use Rattle.cf_base.specs.declared.results.AccessFault.TheVariants as access
use Rattle.cf_base.specs.declared.kind.Kind.{Kind}
use Rattle.cf_base.proofs.MapValues.{get-map_values}
use Rattle.cf_model.specs.Families.{Family, paged, tiled, family_of}
use Rattle.cf_model.specs.State.{HeapState}
use Rattle.cf_model.specs.Steps.{IsFault}
use Rattle.page_model.specs.Held.{Held, Placed, objects}
use Rattle.page_model.proofs.CallerLemmas.{bytes_held}
use Rattle.id_table.specs.Ids.{Ids}
use Rattle.id_table.specs.Named.{HasBytes}
use Rattle.id_table.specs.Sessions.{CostsAtMost, IsGoing, RunState, SessionState, counted, run_at}
use Rattle.id_table.specs.Ties.{AreTiedTo}

-- if a mapped option has a value, so has the option
mapped : {X Y : Type 0} (f : X → Y) (o : Option X) (y : Y) → option_map f o ≡ Some y → (x : X) × (o ≡ Some x)
mapped f None y is = absurd (let e : None ≡ Some y = is in cc)
mapped f (Some x) y is = (x, refl)

-- the ids are tied to the objects without their addresses too
module _ (ids : Ids) (m : Held) where
  pub names_of_objects : AreTiedTo ids m → AreTiedTo ids (objects m)
  names_of_objects names = record {
    named = λ i q is. ((names.named i q is).0.bytes, bytes_held m q (names.named i q is).0 (names.named i q is).1);
    once = names.once;
    all = λ q v is.
        let x = mapped (λ (x : Placed). x.bytes) (get m q) v (sym (get-map_values (λ (x : Placed). x.bytes) m q) ∙ is) in
        names.all q x.0 x.1;
  }

  pub names_of_held : AreTiedTo ids (objects m) → AreTiedTo ids m
  names_of_held names = record {
    named = λ i q is. mapped (λ (x : Placed). x.bytes) (get m q) (names.named i q is).0
        (sym (get-map_values (λ (x : Placed). x.bytes) m q) ∙ (names.named i q is).1);
    once = names.once;
    all = λ q x is. names.all q x.bytes (bytes_held m q x is);
  }

-- if a session state equals that of a run in progress, the run with it is in progress too
pub going_inside : (inside session : SessionState) (heap : HeapState) → inside ≡ session → IsGoing (run_at session heap) → IsGoing (run_at inside heap)
going_inside inside session heap same going = subst (λ (s : SessionState). IsGoing (run_at s heap)) (sym same) going

-- a session whose counters changed keeps its ids
pub counted_ids : {T : Type 0} (s : SessionState) (o : Option T) (n : ℕ) → (counted s o n).ids ≡ s.ids
counted_ids s None n = refl
counted_ids s (Some h) n = refl

-- a cost is within the bound of its kind if, for a kind with pages, it is at most the bound
pub costs_at_most : (k : Kind) (cost bound : ℕ) → (family_of k ≡ paged → cost ≤ bound) → CostsAtMost k cost bound
costs_at_most k cost bound few = by_family (family_of k) refl
  where
    by_family : (f : Family) → family_of k ≡ f → CostsAtMost k cost bound
    by_family paged is = rw (is, CostsAtMost) (few is)
    by_family tiled is = rw (is, CostsAtMost) tt

-- a call without cost is within every bound
pub costs_nothing : (k : Kind) (cost bound : ℕ) → cost ≡ 0 → CostsAtMost k cost bound
costs_nothing k cost bound none = costs_at_most k cost bound (λ _. omega arith)

-- a write within the object of a live id has no fault
pub no_fault : {T : Type 0} (s : RunState) (id at count : ℕ) (has : HasBytes s id (at + count)) (e : AccessFault)
    → IsFault s.heap (record { number = has.number; from = at }) count e → T
no_fault s id at count has access.Unknown none = absurd (let z : Some has.object ≡ None = sym has.found ∙ none in cc)
no_fault s id at count has access.Range past =
    let e : Some past.object ≡ Some has.object = sym past.found ∙ has.found in
    let x : past.object ≡ has.object = cc in
    let same = ap (λ (y : Placed). length y.bytes) x in
    let longer = past.past in
    let long = has.long in
    absurd (omega arith)
