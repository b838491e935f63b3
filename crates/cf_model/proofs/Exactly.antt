-- For `a_cause_is_always_refused`: a call that succeeds has no cause for a refusal, and a malloc has at most one. Also: no kind has both pages and blocks,
-- and no number both an object and none.
use Rattle.std.proofs.Common.{◌≡◌, ℕ, ◌+◌, ◌<◌, ◌≤◌, Some, None, length, arith, sym, ◌∙◌, subst, inl, inr, ap, refl}
use Rattle.std.specs.FinMap.{get}
use Rattle.cf_base.proofs.Maps.{found_once}
use Rattle.cf_base.specs.declared.results.AccessFault.{AccessFault}
use Rattle.cf_base.specs.declared.results.AccessFault.TheVariants as access
use Rattle.cf_base.specs.declared.results.Refusal.{Refusal}
use Rattle.cf_base.specs.declared.results.Refusal.TheVariants as refusal
use Rattle.cf_base.specs.declared.results.Resized.{Resized}
use Rattle.cf_base.specs.declared.results.ResizeFault.{ResizeFault}
use Rattle.cf_base.specs.declared.results.ResizeFault.TheVariants as resize
use Rattle.cf_base.specs.declared.kind.Kind.{Kind}
use Rattle.page_model.specs.Held.{Held, Placed}
use Rattle.page_model.specs.Arrangement.{class_at}
use Rattle.page_model.specs.Steps.{Request}
use Rattle.page_model.proofs.CallerLemmas.{place_is_room}
use Rattle.block_model.specs.Tiling.{Carves, LacksBlock, block_need}
use Rattle.cf_model.specs.Families.{Family, paged, tiled, family_of, free_lists_of}
use Rattle.cf_model.specs.State.{HeapState, paging_in}
use Rattle.cf_model.specs.Rules.{IsPaged, IsTiled}
use Rattle.cf_model.specs.Steps.{AddsObject, IsPlacedBy, IsRefusedBy, LacksRoomIn, Position, IsFault, ResizesObject, IsResizeFault}

placed_is_room : (k : Kind) (old new : HeapState) (asked : Request) (place : ℕ) → IsPlacedBy k old asked place new → LacksRoomIn k old asked.length → ⊥
placed_is_room k old new asked place placed lacking = by_family (family_of k) refl
  where
    by_family : (f : Family) → family_of k ≡ f → ⊥
    by_family paged is = place_is_room (paging_in old) old.held asked.length place (rw (is, IsPlacedBy) at placed) (rw (is, LacksRoomIn) at lacking)
    by_family tiled is =
        let carves : Carves (free_lists_of k) old.tiling (record { need = block_need asked.length; owner = asked.number }) place new.tiling =
        rw (is, IsPlacedBy) at placed in
        let none : LacksBlock (free_lists_of k) old.tiling (block_need asked.length) = rw (is, LacksRoomIn) at lacking in
        none place carves.found carves.there carves.serves

-- a malloc that succeeds has no cause for a refusal
pub given_is_not_refused : (old new : HeapState) (asked : Request) → AddsObject old asked new → (e : Refusal) → IsRefusedBy old asked.length e → ⊥
given_is_not_refused old new asked given refusal.Size cause = (let fits = given.fits in omega arith)
given_is_not_refused old new asked given refusal.Proxy cause = (let few = given.few in let all = cause.all in omega arith)
given_is_not_refused old new asked given refusal.Space cause = placed_is_room old.kind old new asked given.place given.placed cause.lacking

-- a malloc has at most one cause for a refusal
pub one_cause : (s : HeapState) (bytes : ℕ) (e f : Refusal) → IsRefusedBy s bytes e → IsRefusedBy s bytes f → e ≡ f
one_cause s bytes refusal.Size refusal.Size x y = refl
one_cause s bytes refusal.Size refusal.Proxy x y = (let fits = y.fits in absurd (omega arith))
one_cause s bytes refusal.Size refusal.Space x y = (let fits = y.fits in absurd (omega arith))
one_cause s bytes refusal.Proxy refusal.Size x y = (let fits = x.fits in absurd (omega arith))
one_cause s bytes refusal.Proxy refusal.Proxy x y = refl
one_cause s bytes refusal.Proxy refusal.Space x y = (let all = x.all in let few = y.few in absurd (omega arith))
one_cause s bytes refusal.Space refusal.Size x y = (let fits = x.fits in absurd (omega arith))
one_cause s bytes refusal.Space refusal.Proxy x y = (let few = x.few in let all = y.all in absurd (omega arith))
one_cause s bytes refusal.Space refusal.Space x y = refl

pub not_none_found : (m : Held) (h : ℕ) (x : Placed) → get m h ≡ Some x → get m h ≡ None → ⊥
not_none_found m h x e f = (let g : Some x ≡ None = sym e ∙ f in cc)

-- a read or write within the object has no cause for a refusal
pub part_is_not_refused : (s : HeapState) (position : Position) (count : ℕ) (x : Placed) → get s.held position.number ≡ Some x → position.from + count ≤ length x.bytes
    → (e : AccessFault) → IsFault s position count e → ⊥
part_is_not_refused s position count x found within access.Unknown cause = not_none_found s.held position.number x found cause
part_is_not_refused s position count x found within access.Range cause =
    let same = found_once s.held position.number cause.object x cause.found found in
    let past : length x.bytes < position.from + count = subst (λ (z : Placed). length z.bytes < position.from + count) same cause.past in
    omega arith

-- no kind has both pages and blocks
pub both_kinds : (k : Kind) → IsPaged k → IsTiled k → ⊥
both_kinds k p t = (let e : paged ≡ tiled = sym p ∙ t in cc)

-- a resize that succeeds has no cause for a refusal
pub resized_is_not_refused : (old new : HeapState) (asked : Request) (done : Resized) → ResizesObject old asked done new → (e : ResizeFault)
    → IsResizeFault old asked e → ⊥
resized_is_not_refused old new asked done r resize.Unknown cause = not_none_found old.held asked.number r.object r.found cause
resized_is_not_refused old new asked done r resize.Kind cause = both_kinds old.kind r.pages cause.blocks
resized_is_not_refused old new asked done r resize.Size cause = (let fits = r.fits in let large = cause.large in omega arith)
resized_is_not_refused old new asked done r resize.Space cause = elim r.step [
  | inl within ↦ cause.other (within.same ∙ ap (class_at (paging_in old))
      (found_once old.held asked.number within.object cause.object within.found cause.found))
  | inr other ↦ place_is_room (paging_in old) old.held asked.length other.place other.free cause.lacking
]
