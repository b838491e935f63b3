-- That a malloc, free, write or resize of a heap always has a result, and a state after it that keeps the heap's rules: the claims (`HasMalloc` and so on),
-- which `PageRules`, `PageFree`, `PageResize` and `BlockAnswers` prove. And what they need: the number of live objects, their handles and their bytes stay in
-- range (`AreFew`), and the order after a call follows from the one before it, if there is one (`Follows`).
use Rattle.std.proofs.Common.{◌≡◌, ℕ, ◌+◌, ◌*◌, ◌<◌, ◌≤◌, List, Option, Some, None, Result, Ok, arith, sym, ◌∙◌, refl, subst, inl, inr, option_map}
use Rattle.run_model.specs.Terms.{AccessFault, AreBytes, CostsAtMost, CostsByKind, Freed, get, Handle, HeapState, insert, KeepsRules, len, Objects, objects, Placed, Position, Refusal, remove, Request, Resized, ResizeFault}
use Rattle.cf_base.proofs.Maps.{len_fresh, len_rebound, some_inserted, some_removed}
use Rattle.cf_base.proofs.MapValues.{get-map_values}
use Rattle.page_model.specs.Order.{Order}
use Rattle.page_model.proofs.CallerLemmas.{len-objects, bytes_held}
use Rattle.cf_model.specs.Costs.{resize_bound}
use Rattle.cf_model.specs.Ordered.{Follows, IsOrderedFree, IsOrderedMalloc, IsOrderedResize}
use Rattle.cf_model.specs.Rules.{AreObjects}
use Rattle.cf_model.specs.Steps.{FreesObject, IsMallocStep, IsResizeStep, IsWriteStep}
use Rattle.cf_base.proofs.Searches.{len_without}

-- at most n objects, with numbers below n
pub record AreFew (n : ℕ) (o : Objects) : Type 0 where
  pub handles : (h : ℕ) (v : List ℕ) → get o h ≡ Some v → h < n
  pub bytes : (h : ℕ) (v : List ℕ) → get o h ≡ Some v → AreBytes v
  pub few : len o ≤ n

object_behind : (o : Option Placed) (v : List ℕ) → option_map (λ (z : Placed). z.bytes) o ≡ Some v → (x : Placed) × (o ≡ Some x) × (x.bytes ≡ v)
object_behind None v is = absurd (let e : ◌≡◌ {A = Option (List ℕ)} None (Some v) = is in cc)
object_behind (Some x) v is = (x, refl, (let e : Some x.bytes ≡ Some v = is in cc))

pub few_in : (s : HeapState) → AreObjects s → AreFew s.profile.proxies (objects s.held)
few_in s are = record {
  handles = λ h v e. (let x = behind h v e in are.handles h x.0 x.1);
  bytes = λ h v e. (let x = behind h v e in subst AreBytes x.2 (are.bytes h x.0 x.1));
  few = (let same = len-objects s.held in let l = are.few in omega arith);
}
  where
    behind : (h : ℕ) (v : List ℕ) → get (objects s.held) h ≡ Some v → (x : Placed) × (get s.held h ≡ Some x) × (x.bytes ≡ v)
    behind h v e = object_behind (get s.held h) v (sym (get-map_values (λ (z : Placed). z.bytes) s.held h) ∙ e)

pub objects_in : (s : HeapState) → AreFew s.profile.proxies (objects s.held) → AreObjects s
objects_in s few = record {
  handles = λ h x e. few.handles h x.bytes (bytes_held s.held h x e);
  bytes = λ h x e. few.bytes h x.bytes (bytes_held s.held h x e);
  few = (let same = len-objects s.held in let l = few.few in omega arith);
}

module _ (n : ℕ) (o : Objects) (few : AreFew n o) (h : ℕ) where
  pub few_added : (v : List ℕ) → get o h ≡ None → h < n → len o < n → AreBytes v → AreFew n (insert o h v)
  few_added v none low room bytes = record {
    handles = λ q w e. elim (some_inserted o h v q w e) [ inl is ↦ rw is.0 low | inr was ↦ few.handles q w was.1 ];
    bytes = λ q w e. elim (some_inserted o h v q w e) [ inl is ↦ subst AreBytes is.1 bytes | inr was ↦ few.bytes q w was.1 ];
    few = (let more = len_fresh o h v none in omega arith);
  }

  pub few_changed : (u v : List ℕ) → get o h ≡ Some u → AreBytes v → AreFew n (insert o h v)
  few_changed u v some bytes = record {
    handles = λ q w e. elim (some_inserted o h v q w e) [ inl is ↦ rw is.0 (few.handles h u some) | inr was ↦ few.handles q w was.1 ];
    bytes = λ q w e. elim (some_inserted o h v q w e) [ inl is ↦ subst AreBytes is.1 bytes | inr was ↦ few.bytes q w was.1 ];
    few = (let same = len_rebound o h v u some in let l = few.few in omega arith);
  }

  pub few_left : (u : List ℕ) → get o h ≡ Some u → AreFew n (remove o h)
  few_left u some = record {
    handles = λ q w e. few.handles q w (some_removed o h q w e).1;
    bytes = λ q w e. few.bytes q w (some_removed o h q w e).1;
    few = (let less = len_without o h u some in let l = few.few in omega arith);
  }

-- without an order there is nothing to follow
pub follows_none : (step : Order → Order → Type 0) (old new : Option Order) → old ≡ None → new ≡ None → Follows step old new
follows_none step old new a b = subst (λ o. Follows step o new) (sym a) (subst (λ o. Follows step None o) (sym b) tt)

pub follows_some : (step : Order → Order → Type 0) (old new : Option Order) (was now : Order) → old ≡ Some was → new ≡ Some now → step was now
    → Follows step old new
follows_some step old new was now a b done = subst (λ o. Follows step o new) (sym a) (subst (λ o. Follows step (Some was) o) (sym b) done)

-- an order that doesn't change follows every rule that allows no change
pub follows_same : (step : Order → Order → Type 0) (o : Option Order) → ((was : Order) → step was was) → Follows step o o
follows_same step None all = tt
follows_same step (Some was) all = all was

-- each call has a result, and a state after it that keeps the rules
module _ (old : HeapState) where
  pub record HasMalloc (n : ℕ) : Type 0 where
    pub answer : Result Handle Refusal
    pub heap : HeapState
    pub step : IsMallocStep old n answer heap
    pub ordered : IsOrderedMalloc old n answer heap
    pub kept : KeepsRules heap
    pub cost : CostsByKind heap.kind heap.cost 64 25

  pub record HasFree (h : ℕ) : Type 0 where
    pub freed : Freed
    pub heap : HeapState
    pub step : FreesObject old h freed heap
    pub ordered : IsOrderedFree old h (Ok freed) heap
    pub kept : KeepsRules heap
    pub cost : CostsByKind heap.kind heap.cost (96 + 2 * freed.slot_words) (41 + freed.slot_words)

  pub record HasWrite (position : Position) (bytes : List ℕ) : Type 0 where
    pub answer : Result Unit AccessFault
    pub heap : HeapState
    pub step : IsWriteStep old position bytes answer heap
    pub kept : KeepsRules heap

  pub record HasResize (asked : Request) : Type 0 where
    pub answer : Result Resized ResizeFault
    pub heap : HeapState
    pub step : IsResizeStep old asked answer heap
    pub ordered : IsOrderedResize old asked answer heap
    pub kept : KeepsRules heap
    pub cost : CostsAtMost heap.kind heap.cost (resize_bound answer)
