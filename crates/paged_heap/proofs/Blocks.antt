-- For `free`, `resize`, `set_bound` and `block` of `PagedHeap`: the blocks and the physical words of the other objects, the class that gets a bound, and the
-- blocks of one object, with the steps of `block`.
use Rattle.std.proofs.Common.{◌≡◌, ℕ, ◌+◌, ◌/◌, ◌%◌, ◌<◌, ◌≤◌, true, false, length, get_or, Option, Some, None, Result, Ok, Err, arith, refl, sym, ap, subst}
use Rattle.std.specs.Prelude.{nat_eq, nat_lt, position}
use Rattle.std.proofs.lemmas.Bool.Decides.{nat_tests}
use Rattle.std.specs.FinMap.{get}
use Rattle.page_model.specs.Frames.{block_of}
use Rattle.page_model.specs.Held.{Placed}
use Rattle.page_model.specs.Image.{slot_for}
use Rattle.block_table.specs.Table.{Table}
use Rattle.cf_model.specs.Answers.{block_of_object, class_with}
use Rattle.cf_model.specs.Costs.{mapped_block_steps}
use Rattle.cf_model.specs.Families.{Family, IsPaged, paged, tiled}
use Rattle.virtual_words.specs.Words.{frames_in}
use Rattle.paged_heap.specs.declared.open_heap.OpenHeap.{OpenHeap}
use Rattle.paged_heap.specs.Heap.{seen}
use Rattle.paged_heap.proofs.LayoutFacts.{rules, owns}
use Rattle.paged_heap.proofs.WholeBlocks.{whole_slot}
use Rattle.cf_base.specs.declared.results.Freed.{Freed}
use Rattle.cf_base.specs.declared.results.NotLive.{NotLive}
use Rattle.cf_base.specs.declared.results.Resized.{Resized}
use Rattle.cf_base.specs.declared.results.ResizeFault.{ResizeFault}
use Rattle.cf_base.specs.declared.kind.Kind.{Kind}
use Rattle.cf_base.specs.declared.kind.Kind.TheVariants.{Moving, NonMoving, Tlsf, HalfFit}
use Rattle.page_model.specs.Steps.{Request}
use Rattle.cf_model.specs.Rules.{KeepsRules}
use Rattle.cf_model.specs.State.{HeapState, paging_in}
use Rattle.cf_model.specs.Steps.{BlocksStay, BlocksStayIn, IsFreeStep, IsResizeStep, IsLeftByRefusal}
use Rattle.cf_model.proofs.CallerLemmas.{blocks_after_free, blocks_after_refusal, blocks_after_resize}
use Rattle.step_ledger.specs.Counting.{RoseBy}
use Rattle.virtual_words.proofs.CallerLemmas.{mapped_once}
use Rattle.paged_heap.specs.Layout.{Holds, IsValid, state_at, owner_in}
use Rattle.paged_heap.specs.PagedState.{OthersStayIn, paged_in}
use Rattle.page_slots.proofs.CallerLemmas.{it, it_found, it_slot, it_inside}
use Rattle.page_slots.specs.Owner.{IsObjectAt}

after_free : (old : HeapState) (h : ℕ) (r : Result Freed NotLive) (new : HeapState) → old.kind ≡ NonMoving → KeepsRules old → KeepsRules new
    → IsFreeStep old h r new → BlocksStay old h new
after_free old h (Ok freed) new is k l step = blocks_after_free old h freed new is k l step
after_free old h (Err e) new is k l (cause, same) = blocks_after_refusal old h new same is k l

after_resize : (old : HeapState) (asked : Request) (r : Result Resized ResizeFault) (new : HeapState) → old.kind ≡ NonMoving → KeepsRules old
    → KeepsRules new → IsResizeStep old asked r new → BlocksStay old asked.number new
after_resize old asked (Ok done) new is k l step = blocks_after_resize old asked done new is k l step
after_resize old asked (Err e) new is k l (cause, same) =
    (let s : IsLeftByRefusal NonMoving old new = subst (λ kind. IsLeftByRefusal kind old new) is same in blocks_after_refusal old asked.number new s is k l)

-- by kind, for a free and a resize: the blocks of the other objects stay, and so do their physical words
pub free_blocks : (kind : Kind) (old new : OpenHeap) (h : ℕ) (r : Result Freed NotLive) → Holds kind old → Holds kind new
    → IsFreeStep (state_at kind old) h r (state_at kind new) → BlocksStayIn kind (state_at kind old) h (state_at kind new)
free_blocks Moving old new h r was is step = tt
free_blocks NonMoving old new h r was is step =
    after_free (state_at NonMoving old) h r (state_at NonMoving new) refl (rules (seen NonMoving old) was.kept) (rules (seen NonMoving new) is.kept) step
free_blocks Tlsf old new h r was is step = tt
free_blocks HalfFit old new h r was is step = tt

pub resize_blocks : (kind : Kind) (old new : OpenHeap) (asked : Request) (r : Result Resized ResizeFault) → Holds kind old → Holds kind new
    → IsResizeStep (state_at kind old) asked r (state_at kind new) → BlocksStayIn kind (state_at kind old) asked.number (state_at kind new)
resize_blocks Moving old new asked r was is step = tt
resize_blocks NonMoving old new asked r was is step =
    after_resize (state_at NonMoving old) asked r (state_at NonMoving new) refl (rules (seen NonMoving old) was.kept) (rules (seen NonMoving new) is.kept) step
resize_blocks Tlsf old new asked r was is step = tt
resize_blocks HalfFit old new asked r was is step = tt

pub others_in_place : (kind : Kind) (old new : OpenHeap) (h : ℕ) → Holds kind old → Holds kind new
    → BlocksStayIn kind (state_at kind old) h (state_at kind new) → OthersStayIn kind (paged_in kind (Some old)) h (paged_in kind (Some new))
others_in_place Moving old new h was is stay = tt
others_in_place NonMoving old new h was is stay =
    stay.words old.region new.region (mapped_once old.blocks old.region was.laid).2 (mapped_once new.blocks new.region is.laid).2
others_in_place Tlsf old new h was is stay = tt
others_in_place HalfFit old new h was is stay = tt

-- the class that gets a bound
pub class_is : (kind : Kind) (s : HeapState) (w : ℕ) → IsPaged kind → class_with kind s w ≡ position (λ x. nat_eq x w) (paging_in s).sizes
class_is kind s w e = ap (λ (f : Family). elim f [ paged ↦ position (λ x. nat_eq x w) (paging_in s).sizes | tiled ↦ None ]) e

-- what `block` returns for block i of object q: none if q is not live, else a block of its slot, or none past the end of the slot
module _ (s : HeapState) (q i : ℕ) where
  pub none_live : get s.held q ≡ None → None ≡ block_of_object s (get s.held q) i
  none_live e = rw e refl

  module _ (x : Placed) (e : get s.held q ≡ Some x) where
    pub block_given : i < slot_for (paging_in s) (length x.bytes) / 4 → (r : ℕ) → r ≡ block_of s.frames x.place i → Some r ≡ block_of_object s (get s.held q) i
    block_given lt r is = (let t : nat_lt i (slot_for (paging_in s) (length x.bytes) / 4) ≡ true = grind (arith, nat_tests) in rw (e, t, is) refl)

    pub block_past : slot_for (paging_in s) (length x.bytes) / 4 ≤ i → None ≡ block_of_object s (get s.held q) i
    block_past le = (let t : nat_lt i (slot_for (paging_in s) (length x.bytes) / 4) ≡ false = grind (arith, nat_tests) in rw (e, t) refl)

-- the steps of `block` in these three cases
module _ (s : HeapState) (q a b : ℕ) where
  pub steps_gone : get s.held q ≡ None → RoseBy a b 1 → RoseBy a b (mapped_block_steps (get s.held q) None)
  steps_gone e rose = subst (λ (m : Option Placed). RoseBy a b (mapped_block_steps m None)) (sym e) rose

  module _ (x : Placed) (e : get s.held q ≡ Some x) where
    pub steps_past : RoseBy a b 4 → RoseBy a b (mapped_block_steps (get s.held q) None)
    steps_past rose = subst (λ (m : Option Placed). RoseBy a b (mapped_block_steps m None)) (sym e) rose

    pub steps_given : (r : ℕ) → RoseBy a b 5 → RoseBy a b (mapped_block_steps (get s.held q) (Some r))
    steps_given r rose = subst (λ (m : Option Placed). RoseBy a b (mapped_block_steps m (Some r))) (sym e) rose

-- a block of an object is one of the table's
pub block_there : (x : OpenHeap) (k : IsValid (seen NonMoving x)) (q a size c : ℕ) (o : IsObjectAt (owner_in (seen NonMoving x)) q a size c) (t : Table)
    → x.blocks ≡ Some t → (i : ℕ) → i < get_or x.tables.classes.sizes c 0 / 4 → a / 4 + i < length t.frames
block_there x k q a size c o t is i lt =
    let h = seen NonMoving x in
    let inside = it_inside (owns k) o in
    let slot = it_slot (owns k) o in
    let whole = whole_slot h k q (it (owns k) o) (it_found (owns k) o) in
    let place : a % 4 ≡ 0 = whole.0 in
    let many = k.framed.count in
    let f : length h.frames ≡ length t.frames = ap (λ b. length (frames_in b)) is in
    omega arith
